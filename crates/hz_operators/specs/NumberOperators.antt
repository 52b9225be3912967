-- Operators on numbers by their names. Each is one of the operators of `hz_value`'s definitions.
use Rattle.std.specs.Prelude.{◌/◌, ◌^◌, ℤ, pos, neg_ℤ, unsigned_abs, Option, Some}
use Rattle.std.specs.Int.{w32, int_bit_and, int_bit_or, int_bit_xor, int_bit_not, int_shl, int_shr}
use Rattle.hz_value.specs.Numbers.{sum_of, difference_of, product_of, quotient_of, remainder_of, power_of, signed_32}
use Rattle.hz_value.specs.Numbers.{unsigned_32, quotient_to_int32}
use Rattle.hz_value.specs.operators.Arithmetic.{shift_count, number_result}
use Rattle.hz_value.specs.operators.Contents.{Content}
use Rattle.hz_value.specs.operators.Computed.{Computed, and_then}
use Rattle.hz_value.specs.operators.Conversions.{to_number}
use Rattle.hz_operators.specs.declared.numbers.NumberOperator.{NumberOperator}
use Rattle.hz_operators.specs.declared.numbers.NumberOperator.TheVariants as operator
use Rattle.hz_operators.specs.declared.numbers.UnaryOperator.{UnaryOperator}
use Rattle.hz_operators.specs.declared.numbers.UnaryOperator.TheVariants.{Same, Negate, BitNot, Increment, Decrement}

abbrev pub numeric : NumberOperator → ℤ → ℤ → Option ℤ
numeric operator.Sum x y = sum_of x y
numeric operator.Difference x y = difference_of x y
numeric operator.Product x y = product_of x y
numeric operator.Quotient x y = quotient_of x y
numeric operator.Remainder x y = remainder_of x y
numeric operator.Power x y = power_of x y
numeric operator.And x y = Some (int_bit_and w32 (signed_32 x) (signed_32 y))
numeric operator.Or x y = Some (int_bit_or w32 (signed_32 x) (signed_32 y))
numeric operator.Xor x y = Some (int_bit_xor w32 (signed_32 x) (signed_32 y))
numeric operator.ShiftLeft x y = Some (int_shl w32 (signed_32 x) (shift_count y))
numeric operator.ShiftRight x y = Some (int_shr (signed_32 x) (shift_count y))
numeric operator.ShiftRightUnsigned x y = Some (pos (unsigned_abs (unsigned_32 x) / 2 ^ shift_count y))
numeric operator.QuotientToInt32 x y = Some (quotient_to_int32 x y)

abbrev pub numeric_of_one : UnaryOperator → ℤ → Option ℤ
numeric_of_one Same x = Some x
numeric_of_one Negate x = Some (neg_ℤ x)
numeric_of_one BitNot x = Some (int_bit_not w32 (signed_32 x))
numeric_of_one Increment x = sum_of x (pos 1)
numeric_of_one Decrement x = difference_of x (pos 1)

-- the operator on a value, which becomes a number
abbrev pub on_number : UnaryOperator → Content → Computed Content
on_number operator u = and_then (to_number u) (λ x. number_result (numeric_of_one operator x))
