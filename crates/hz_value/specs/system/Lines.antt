-- Bytes of the output and of the input. UTF-8 is that of the Unicode Standard, table 3-7.
use Rattle.std.specs.Prelude.{ℕ, zero, suc, ◌+◌, ◌*◌, ◌%◌, Bool, ◌==◌, ◌&&◌, nat_lt, if◌then◌else◌, List, [], ◌∷◌}
use Rattle.std.specs.Prelude.{◌++◌, length, drop, map, slice_index, encode_utf8_all}
use Rattle.std.specs.Int.{is_in_range}
use Rattle.std.specs.List.{onto_first}
use Rattle.std.specs.Char.Escape.{encode_utf16}
use Rattle.std.specs.Char.Utf16.{utf16_lossy_chars}
use Rattle.std.specs.Str.Lossy.{second_byte_min, second_byte_max}
use Rattle.hz_value.specs.world.World.{Line, Units, TooLong}
use Rattle.hz_value.specs.system.System.{Event, Printed, Asked}

-- ---- output

-- a line in UTF-8 with U+FFFD for each lone surrogate, and its newline
abbrev pub line_bytes : List ℕ → List ℕ
line_bytes line = encode_utf8_all (utf16_lossy_chars line) ++ 10 ∷ []

-- the bytes of all printed lines
abbrev pub printed : List Event → List ℕ
printed [] = []
printed (Printed line ∷ es) = line_bytes line ++ printed es
printed (Asked ∷ es) = printed es

-- ---- input

-- the byte at a place goes on with a sequence
abbrev pub goes_on : List ℕ → ℕ → Bool
goes_on bs i = is_in_range 0x80 0xBF (slice_index bs i)

-- the second byte may follow the first one
abbrev pub second_fits : List ℕ → Bool
second_fits bs =
    is_in_range (second_byte_min (slice_index bs 0)) (second_byte_max (slice_index bs 0)) (slice_index bs 1)

-- the length of the well-formed sequence at the front, or 0
abbrev pub sequence_len : List ℕ → ℕ
sequence_len bs =
    if nat_lt (slice_index bs 0) 0x80 then 1
    else if is_in_range 0xC2 0xDF (slice_index bs 0) && second_fits bs then 2
    else if is_in_range 0xE0 0xEF (slice_index bs 0) && second_fits bs && goes_on bs 2 then 3
    else if is_in_range 0xF0 0xF4 (slice_index bs 0) && second_fits bs && goes_on bs 2 && goes_on bs 3 then 4
    else 0

abbrev pub six_bits : List ℕ → ℕ → ℕ
six_bits bs i = slice_index bs i % 64

-- the code point of a well-formed sequence of this length
abbrev pub code_point : List ℕ → ℕ → ℕ
code_point bs n =
    if n == 1 then slice_index bs 0
    else if n == 2 then slice_index bs 0 % 32 * 64 + six_bits bs 1
    else if n == 3 then slice_index bs 0 % 16 * 4096 + six_bits bs 1 * 64 + six_bits bs 2
    else slice_index bs 0 % 8 * 262144 + six_bits bs 1 * 4096 + six_bits bs 2 * 64 + six_bits bs 3

-- the UTF-16 units of the bytes, n of them at most, with U+FFFD for each byte that begins no sequence
abbrev pub units_within : ℕ → List ℕ → List ℕ
units_within zero bs = []
units_within (suc n) [] = []
units_within (suc n) (b ∷ bs) =
    let k = sequence_len (b ∷ bs) in
    if k == 0 then 0xFFFD ∷ units_within n bs
    else encode_utf16 (code_point (b ∷ bs) k) ++ units_within n (drop k (b ∷ bs))

-- the bytes between newlines; behind the last newline a line comes only where there is a byte
abbrev pub split_lines : List ℕ → List (List ℕ)
split_lines [] = []
split_lines (b ∷ bs) = if b == 10 then [] ∷ split_lines bs else onto_first b (split_lines bs)

-- a line of more bytes than these is too long
abbrev pub max_line : ℕ
max_line = 16777215

abbrev pub line_read : List ℕ → Line
line_read bs = if nat_lt max_line (length bs) then TooLong else Units (units_within (length bs) bs)

-- the lines of an input
abbrev pub lines : List ℕ → List Line
lines bytes = map line_read (split_lines bytes)
