-- The characters of a source in UTF-8 (RFC 3629, section 3), and their classes (ECMA-262, 12.2, 12.3 and 12.7).
use Rattle.std.specs.Prelude.{ℕ, ◌+◌, ◌*◌, ◌%◌, min, Bool, ◌&&◌, ◌||◌, if◌then◌else◌, ◌==◌, nat_lt, nat_le, length}
use Rattle.std.specs.Prelude.{slice_index}
use Rattle.std.specs.Char.{is_ascii_alphabetic, is_ascii_alphanumeric}
use Rattle.unicode_ident.specs.Ident.{is_xid_start, is_xid_continue}
use Rattle.hz_tree.specs.tokens.Text.{Text}

-- how many bytes a character has that begins with this one
abbrev pub width : ℕ → ℕ
width b = if nat_lt b 0x80 then 1 else (if nat_lt b 0xE0 then 2 else (if nat_lt b 0xF0 then 3 else 4))

-- the six bits of the byte at a place that goes on with a character
abbrev pub six_bits : Text → ℕ → ℕ
six_bits z place = slice_index z place % 64

-- the code point of the character at the front of a text that is well-formed
unfoldable pub code_point : Text → ℕ
code_point z =
    let b = slice_index z 0 in
    if nat_lt b 0x80 then b
    else (if nat_lt b 0xE0 then (b % 32) * 64 + six_bits z 1
    else (if nat_lt b 0xF0 then (b % 16) * 4096 + six_bits z 1 * 64 + six_bits z 2
    else (b % 8) * 262144 + six_bits z 1 * 4096 + six_bits z 2 * 64 + six_bits z 3))

-- its length, no more than the text has
unfoldable pub char_len : Text → ℕ
char_len z = min (width (slice_index z 0)) (length z)

-- WhiteSpace (12.2)
unfoldable pub is_white_space : ℕ → Bool
is_white_space c =
    c == 0x09 || c == 0x0B || c == 0x0C || c == 0x20 || c == 0xA0 || c == 0x1680
    || (nat_le 0x2000 c && nat_le c 0x200A) || c == 0x202F || c == 0x205F || c == 0x3000 || c == 0xFEFF

-- LineTerminator (12.3)
unfoldable pub is_line_terminator : ℕ → Bool
is_line_terminator c = c == 0x0A || c == 0x0D || c == 0x2028 || c == 0x2029

-- a code point that stands for a character: all but the surrogates
abbrev pub is_scalar : ℕ → Bool
is_scalar c = nat_lt c 0xD800 || (nat_le 0xE000 c && nat_le c 0x10FFFF)

-- A letter, `$` (0x24), `_` (0x5F), or a character past ASCII that Unicode lets begin an identifier (12.7).
unfoldable pub starts_name : ℕ → Bool
starts_name c =
    if nat_lt c 0x80 then is_ascii_alphabetic c || c == 0x24 || c == 0x5F else is_scalar c && is_xid_start c

-- These, digits, characters that Unicode lets go on with an identifier, and the two joiners.
unfoldable pub continues_name : ℕ → Bool
continues_name c =
    if nat_lt c 0x80 then is_ascii_alphanumeric c || c == 0x24 || c == 0x5F
    else (is_scalar c && is_xid_continue c) || c == 0x200C || c == 0x200D
