-- String literals (ECMA-262, 12.9.4) and templates (12.9.6).
use Rattle.std.specs.Prelude.{ℕ, ◌+◌, Bool, true, false, ◌&&◌, ◌||◌, if◌then◌else◌, ◌==◌, nat_lt, nat_le, length}
use Rattle.std.specs.Prelude.{take, drop, slice_index, codes}
use Rattle.std.specs.Char.{is_ascii_digit, is_ascii_hexdigit}
use Rattle.std.specs.Int.{is_in_range}
use Rattle.std.specs.List.{prefix_len}
use Rattle.hz_tree.specs.declared.front.Front.{Front}
use Rattle.hz_tree.specs.declared.front.Stretch.{Stretch}
use Rattle.hz_tree.specs.declared.outside.BadKind.TheVariants.{Syntax}
use Rattle.hz_tree.specs.declared.token.TokenKind.TheVariants.{Text as TextToken, Template}
use Rattle.hz_tree.specs.tokens.Text.{Text, begins, none, plain, run}
use Rattle.hz_tree.specs.tokens.Numbers.{value_of, bad}

-- the byte at a place is a hexadecimal digit
abbrev pub is_hex_at : Text → ℕ → Bool
is_hex_at z place = is_ascii_hexdigit (slice_index z place)

-- `\u{`, digits of a value up to 0x10FFFF, and `}` (125): its length, or 0 where it is malformed
unfoldable pub braced_escape : Text → ℕ
braced_escape z =
    let len = prefix_len is_ascii_hexdigit (drop 3 z) in
    if nat_lt 0 len && slice_index z (3 + len) == 125 && nat_le (value_of 16 (take len (drop 3 z))) 0x10FFFF
    then len + 4 else 0

-- `\u` and four digits, or with braces
unfoldable pub unicode_escape : Text → ℕ
unicode_escape z =
    if slice_index z 2 == 123 then braced_escape z
    else (if is_hex_at z 2 && is_hex_at z 3 && is_hex_at z 4 && is_hex_at z 5 then 6 else 0)

-- The length of the escape at the front of a text that begins with `\`, or 0 where it is malformed: `\x` (120) and
-- two digits, `\u` (117), `\` and a line's end of two characters, or `\` before another character, of which the
-- first byte is counted.
unfoldable pub escape_len : Text → ℕ
escape_len z =
    if nat_lt (length z) 2 then 0
    else (if slice_index z 1 == 120 then (if is_hex_at z 2 && is_hex_at z 3 then 4 else 0)
    else (if slice_index z 1 == 117 then unicode_escape z
    else (if slice_index z 1 == 13 && slice_index z 2 == 10 then 3 else 2)))

-- `\1` to `\9`, and `\0` before a digit (LegacyOctalEscapeSequence and NonOctalDecimalEscapeSequence)
unfoldable pub is_octal_escape : Text → Bool
is_octal_escape z =
    is_in_range 49 57 (slice_index z 1) || (slice_index z 1 == 48 && is_ascii_digit (slice_index z 2))

-- A byte of a string literal, which is no quote and no U+000A or U+000D, or an escape (92 is `\`), marked
-- where it is octal.
unfoldable pub text_part : (quote : ℕ) → Text → Stretch
text_part quote z =
    let b = slice_index z 0 in
    if length z == 0 || b == quote || b == 10 || b == 13 then none
    else (if b == 92 then record { len = escape_len z; marked = is_octal_escape z } else plain 1)

-- the string literal at the front of a text that begins with a quote
unfoldable pub text : Text → Front
text z =
    let quote = slice_index z 0 in
    let body = run (text_part quote) (drop 1 z) in
    if slice_index z (body.len + 1) == quote
    then record { kind = TextToken body.marked; len = body.len + 2 } else bad Syntax

-- A byte of a template, which is no backquote (96) and begins no `${`, or an escape that is not octal.
unfoldable pub template_part : Text → Stretch
template_part z =
    let b = slice_index z 0 in
    if length z == 0 || b == 96 || begins (codes "${") z then none
    else (if b == 92 then (if is_octal_escape z then none else plain (escape_len z)) else plain 1)

-- The part of a template at the front of a text that begins with a backquote, where it is the first, or with `}`.
unfoldable pub template : (first : Bool) → Text → Front
template first z =
    let len = (run template_part (drop 1 z)).len + 1 in
    if slice_index z len == 96 then record { kind = Template first true; len = len + 1 }
    else (if begins (codes "${") (drop len z) then record { kind = Template first false; len = len + 2 } else bad
    Syntax)
