-- What string literals, templates and names mean, in UTF-16 units (ECMA-262, 12.9.4.2, 12.9.6, 12.7.1).
use Rattle.std.specs.Prelude.{ℕ, zero, suc, ◌+◌, ◌*◌, ◌-◌, ◌/◌, ◌%◌, Bool, ◌&&◌, ◌||◌, if◌then◌else◌, ◌==◌, nat_lt}
use Rattle.std.specs.Prelude.{List}
use Rattle.std.specs.Prelude.{[], ◌∷◌, ◌++◌, length, take, drop, slice_index}
use Rattle.std.specs.Char.{is_ascii_hexdigit}
use Rattle.std.specs.List.{prefix_len}
use Rattle.hz_tree.specs.tokens.Text.{Text}
use Rattle.hz_tree.specs.tokens.Characters.{char_len, code_point, is_line_terminator}
use Rattle.hz_tree.specs.tokens.Numbers.{value_of}

-- UTF16EncodeCodePoint (11.1.1)
abbrev pub units_of : ℕ → List ℕ
units_of c =
    if nat_lt c 0x10000 then c ∷ []
    else (0xD800 + (c - 0x10000) / 0x400) ∷ (0xDC00 + (c - 0x10000) % 0x400) ∷ []

-- a part of a literal: what it means, and its length in bytes
pub record Meant : Type 0 where
  pub units : List ℕ
  pub len : ℕ

abbrev pub meant : List ℕ → ℕ → Meant
meant units len = record { units = units; len = len }

-- SingleEscapeCharacter: what the character behind `\` stands for
abbrev pub single_escape : ℕ → List ℕ
single_escape c =
    if c == 98 then 8 ∷ []
    else (if c == 116 then 9 ∷ []
    else (if c == 110 then 10 ∷ []
    else (if c == 118 then 11 ∷ []
    else (if c == 102 then 12 ∷ []
    else (if c == 114 then 13 ∷ []
    else (if c == 48 then 0 ∷ []
    else (if is_line_terminator c then [] else units_of c)))))))

-- the digits behind `\u` (117), four of them or in braces (123)
abbrev pub unicode_meant : Text → Meant
unicode_meant z =
    if slice_index z 2 == 123 then
    (let len = prefix_len is_ascii_hexdigit (drop 3 z) in
    meant (units_of (value_of 16 (take len (drop 3 z)))) (len + 4))
    else meant (value_of 16 (take 4 (drop 2 z)) ∷ []) 6

-- an escape, of a text that begins with `\`
abbrev pub escape_meant : Text → Meant
escape_meant z =
    if slice_index z 1 == 120 then meant (value_of 16 (take 2 (drop 2 z)) ∷ []) 4
    else (if slice_index z 1 == 117 then unicode_meant z
    else (if slice_index z 1 == 13 && slice_index z 2 == 10 then meant [] 3
    else meant (single_escape (code_point (drop 1 z))) (1 + char_len (drop 1 z))))

abbrev pub part_meant : Text → Meant
part_meant z = if slice_index z 0 == 92 then escape_meant z else meant (units_of (code_point z)) (char_len z)

-- the parts one behind the other; `left` counts the bytes of the last one that are still to be passed
abbrev pub meant_from : (part : Text → Meant) → (left : ℕ) → Text → List ℕ
meant_from part left [] = []
meant_from part (suc left) (b ∷ z) = meant_from part left z
meant_from part zero (b ∷ z) = let p = part (b ∷ z) in p.units ++ meant_from part (p.len - 1) z

-- the text without its first and its last bytes, so many of them
abbrev pub between : (first last : ℕ) → Text → Text
between first last written = take (length written - (first + last)) (drop first written)

-- the value of a literal with its quotes (SV, 12.9.4.2)
abbrev pub text_value : Text → List ℕ
text_value written = meant_from part_meant 0 (between 1 1 written)

-- ---- templates (12.9.6)

-- TV of a character or an escape: U+000D, and U+000D U+000A, stand for U+000A
abbrev pub template_meant : Text → Meant
template_meant z =
    if slice_index z 0 == 13 then meant (10 ∷ []) (if slice_index z 1 == 10 then 2 else 1) else part_meant z

-- TV of a part as it is written: from a backquote or `}` to a backquote (96) or `${`
abbrev pub template_value : Text → List ℕ
template_value written =
    meant_from template_meant 0
    (between 1 (if slice_index written (length written - 1) == 96 then 1 else 2) written)

-- ---- names (12.7.1), which have no escapes here

abbrev pub name_value : Text → List ℕ
name_value name = meant_from (λ z. meant (units_of (code_point z)) (char_len z)) 0 name
