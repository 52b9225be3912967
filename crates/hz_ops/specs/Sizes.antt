-- Numbers as bytes: how many, and which number the bytes in front are.
use Rattle.std.specs.Prelude.{ℕ, List, length, take, drop, nat_lt, if◌then◌else◌, Option, Some, None}
use Rattle.std.specs.Int.{Width, w8, w16, w64, from_le_bytes}
use Rattle.hz_ops.specs.declared.number.Size.{Size}
use Rattle.hz_ops.specs.declared.number.Size.TheVariants.{One, Two, Eight}

-- the unsigned type of this size
abbrev pub width : Size → Width
width One = w8
width Two = w16
width Eight = w64

abbrev pub byte_count : Size → ℕ
byte_count One = 1
byte_count Two = 2
byte_count Eight = 8

-- the number in front, its lowest byte first, and what is behind it
abbrev pub number_at : Size → List ℕ → Option (ℕ × List ℕ)
number_at s bytes =
    if nat_lt (length bytes) (byte_count s) then None
    else Some (from_le_bytes (width s) (take (byte_count s) bytes), drop (byte_count s) bytes)
