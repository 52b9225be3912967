-- Numeric literals (ECMA-262, 12.9.3), as far as they stand for safe integers.
use Rattle.std.specs.Prelude.{ℕ, ◌+◌, ◌*◌, ◌&&◌, ◌||◌, if◌then◌else◌, ◌==◌, nat_lt, [], ◌∷◌, take, drop, slice_index}
use Rattle.std.specs.Char.{is_ascii_digit, digit_value, is_digit}
use Rattle.std.specs.List.{prefix_len}
use Rattle.hz_list.specs.declared.limits.TheConstants.{MAX_SAFE}
use Rattle.hz_tree.specs.declared.front.Front.{Front}
use Rattle.hz_tree.specs.declared.front.Stretch.{Stretch}
use Rattle.hz_tree.specs.declared.outside.BadKind.{BadKind}
use Rattle.hz_tree.specs.declared.outside.BadKind.TheVariants.{Syntax, Outside}
use Rattle.hz_tree.specs.declared.outside.OutsideKind.TheVariants.{BigInt, NumberForm}
use Rattle.hz_tree.specs.declared.token.TokenKind.{TokenKind}
use Rattle.hz_tree.specs.declared.token.TokenKind.TheVariants.{Number, OctalNumber, Bad}
use Rattle.hz_tree.specs.tokens.Text.{Text, none, plain, run}
use Rattle.hz_tree.specs.tokens.Characters.{code_point, starts_name}

-- a token that does not begin here; it has no bytes
abbrev pub bad : BadKind → Front
bad cause = record { kind = Bad cause; len = 0 }

-- a digit, or a `_` (95) and a digit
unfoldable pub digit_part : (radix : ℕ) → Text → Stretch
digit_part radix z =
    if is_digit (slice_index z 0) radix then plain 1
    else (if slice_index z 0 == 95 && is_digit (slice_index z 1) radix then plain 2 else none)

-- the length of the digits at the front, where single `_` may stand between two
unfoldable pub digits_len : (radix : ℕ) → Text → ℕ
digits_len radix z = if is_digit (slice_index z 0) radix then (run (digit_part radix) (drop 1 z)).len + 1 else 0

-- The number that digits go on with, which began with this value.
abbrev pub value_from : (radix : ℕ) → ℕ → Text → ℕ
value_from radix value [] = value
value_from radix value (b ∷ digits) =
    value_from radix (if b == 95 then value else value * radix + digit_value b) digits

unfoldable pub value_of : (radix : ℕ) → Text → ℕ
value_of radix digits = value_from radix 0 digits

-- the radix that the letter behind a `0` stands for: `x`, `o` or `b`, small or capital; else 0, which has no digits
unfoldable pub radix_of : ℕ → ℕ
radix_of letter =
    if letter == 120 || letter == 88 then 16
    else (if letter == 111 || letter == 79 then 8
    else (if letter == 98 || letter == 66 then 2 else 0))

-- A literal of this kind and length, by what stands behind it: `n` (110) makes it a BigInt,
-- and no literal is followed by a digit or by a character that starts a name (12.9.3).
unfoldable pub literal : TokenKind → ℕ → Text → Front
literal kind len z =
    if slice_index z len == 110 then bad (Outside BigInt)
    else (if is_ascii_digit (slice_index z len) || starts_name (code_point (drop len z)) then bad Syntax
    else record { kind = kind; len = len })

-- A literal with a value, which is safe.
unfoldable pub valued : ℕ → ℕ → Text → Front
valued value len z = if nat_lt MAX_SAFE value then bad (Outside NumberForm) else literal (Number value) len z

-- Digits behind `0x`, `0o` or `0b` (NonDecimalIntegerLiteral).
unfoldable pub non_decimal : Text → Front
non_decimal z =
    let radix = radix_of (slice_index z 1) in
    let len = digits_len radix (drop 2 z) in
    valued (value_of radix (take len (drop 2 z))) (len + 2) z

-- A decimal literal, which `.` (46), `e` (101) or `E` (69) would make a number with a fraction or an exponent.
unfoldable pub decimal : ℕ → Text → Front
decimal len z =
    let value = value_of 10 (take len z) in
    let next = slice_index z len in
    if nat_lt MAX_SAFE value || next == 46 || next == 101 || next == 69
    then bad (Outside NumberForm) else literal (Number value) len z

-- The literal at the front of a text that begins with a digit. A decimal one begins with `0` (48) only where
-- that is all of it; `0` and decimal digits are LegacyOctalIntegerLiteral or NonOctalDecimalIntegerLiteral.
unfoldable pub number : Text → Front
number z =
    if slice_index z 0 == 48
    then (if is_digit (slice_index z 2) (radix_of (slice_index z 1)) then non_decimal z
    else (if is_ascii_digit (slice_index z 1) then literal OctalNumber (prefix_len is_ascii_digit (drop 1 z) + 1) z
    else decimal 1 z))
    else decimal ((run (digit_part 10) (drop 1 z)).len + 1) z
