-- The numbers of a script and their operators, over the integers.
-- They are ECMA-262's operators on mathematical values (6.1.6.1 and 7.1.6 to 7.1.7), kept to safe integers
-- (21.1.2.6 and 21.1.2.8) with one zero: an operator gives None where ECMA-262's result is no safe integer.
use Rattle.std.specs.Prelude.{suc, ◌≤◌, ℤ, pos, negsuc, ◌+ℤ◌, ◌-ℤ◌, ◌*ℤ◌, neg_ℤ, Bool, nat_le, ◌==◌, if◌then◌else◌}
use Rattle.std.specs.Prelude.{Option, Some, None, unsigned_abs, int_lt, int_div, int_rem}
use Rattle.std.specs.Int.{int_div_euclid, int_rem_euclid, int_pow}
use Rattle.hz_list.specs.declared.limits.TheConstants.{MAX_SAFE}

-- z lies from -MAX_SAFE to MAX_SAFE
abbrev pub IsSafe : ℤ → Type 0
IsSafe z = unsigned_abs z ≤ MAX_SAFE

-- z where it is safe
abbrev pub safe : ℤ → Option ℤ
safe z = if nat_le (unsigned_abs z) MAX_SAFE then Some z else None

abbrev pub is_zero : ℤ → Bool
is_zero z = unsigned_abs z == 0

-- `a + b`, `a - b` and `a * b`: the exact result where it is safe
abbrev pub sum_of : ℤ → ℤ → Option ℤ
sum_of a b = safe (a +ℤ b)

abbrev pub difference_of : ℤ → ℤ → Option ℤ
difference_of a b = safe (a -ℤ b)

abbrev pub product_of : ℤ → ℤ → Option ℤ
product_of a b = safe (a *ℤ b)

-- `a / b`: the exact quotient, where b is not 0 and divides a
abbrev pub quotient_of : ℤ → ℤ → Option ℤ
quotient_of a b = if is_zero b then None else if is_zero (int_rem a b) then Some (int_div a b) else None

-- `a % b`, with the sign of a, where b is not 0
abbrev pub remainder_of : ℤ → ℤ → Option ℤ
remainder_of a b = if is_zero b then None else Some (int_rem a b)

-- `a ** b`: the exact power where it is safe; for a negative b only 1 and -1 have a power that is an integer
abbrev pub power_of : ℤ → ℤ → Option ℤ
power_of a b =
    if int_lt b (pos 0) then (if unsigned_abs a == 1 then Some (int_pow a (unsigned_abs b)) else None)
    else safe (int_pow a (unsigned_abs b))

-- the exact quotient rounded toward minus infinity; a / -b is -a / b
abbrev pub floor_div : ℤ → ℤ → ℤ
floor_div a (pos b) = int_div_euclid a (pos b)
floor_div a (negsuc b) = int_div_euclid (neg_ℤ a) (pos (suc b))

-- the exact quotient rounded toward minus infinity, or toward zero, where b is not 0
abbrev pub floor_quotient_of : ℤ → ℤ → Option ℤ
floor_quotient_of a b = if is_zero b then None else Some (floor_div a b)

abbrev pub truncated_quotient_of : ℤ → ℤ → Option ℤ
truncated_quotient_of a b = if is_zero b then None else Some (int_div a b)

-- ToUint32 (7.1.7): modulo 2 ^ 32
abbrev pub unsigned_32 : ℤ → ℤ
unsigned_32 z = int_rem_euclid z (pos 4294967296)

-- ToInt32 (7.1.6): modulo 2 ^ 32, less 2 ^ 32 where that is 2 ^ 31 or more
abbrev pub signed_32 : ℤ → ℤ
signed_32 z = if int_lt (unsigned_32 z) (pos 2147483648) then unsigned_32 z else unsigned_32 z -ℤ pos 4294967296

-- `(a / b) | 0`: ToInt32 of the quotient rounded toward zero, and 0 where b is 0
abbrev pub quotient_to_int32 : ℤ → ℤ → ℤ
quotient_to_int32 a b = if is_zero b then pos 0 else signed_32 (int_div a b)
