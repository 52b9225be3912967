-- Operators whose result is a value (ECMA-262, 13.4 to 13.9 and 13.12), in strict code and on safe integers.
use Rattle.std.specs.Prelude.{ℕ, ◌/◌, ◌%◌, ◌^◌, ℤ, pos, neg_ℤ, unsigned_abs, Bool, true, false, ◌||◌, if◌then◌else◌}
use Rattle.std.specs.Prelude.{Option, Some, ◌++◌}
use Rattle.std.specs.Int.{w32, int_bit_and, int_bit_or, int_bit_xor, int_bit_not, int_shl, int_shr}
use Rattle.hz_value.specs.Numbers.{sum_of, difference_of, product_of, quotient_of, remainder_of, power_of, signed_32}
use Rattle.hz_value.specs.Numbers.{unsigned_32, quotient_to_int32}
use Rattle.hz_value.specs.operators.Contents.{Content, Number, Text}
use Rattle.hz_value.specs.operators.Computed.{Computed, Gives, and_then, safely}
use Rattle.hz_value.specs.operators.Conversions.{to_primitive, to_number, to_text}

-- the number as a value; None where the operator has no result that is safe
abbrev pub number_result : Option ℤ → Computed Content
number_result found = and_then (safely found) (λ z. Gives (Number z))

-- ApplyStringOrNumericBinaryOperator (13.15.3) for operators on numbers
abbrev pub on_numbers : (ℤ → ℤ → Option ℤ) → Content → Content → Computed Content
on_numbers operator u v = and_then (to_number u) (λ x. and_then (to_number v) (λ y. number_result (operator x y)))

-- `-`, `*`, `/` and `%` (13.8.2, 13.7), `**` (13.6)
abbrev pub subtract : Content → Content → Computed Content
subtract = on_numbers difference_of

abbrev pub multiply : Content → Content → Computed Content
multiply = on_numbers product_of

abbrev pub divide : Content → Content → Computed Content
divide = on_numbers quotient_of

abbrev pub remainder : Content → Content → Computed Content
remainder = on_numbers remainder_of

abbrev pub raise_to : Content → Content → Computed Content
raise_to = on_numbers power_of

-- `(a / b) | 0` as one operator, in place of the two of ECMA-262
abbrev pub divide_to_int32 : Content → Content → Computed Content
divide_to_int32 = on_numbers (λ x y. Some (quotient_to_int32 x y))

-- ---- `+` (13.8.1)

abbrev pub is_text : Content → Bool
is_text (Text t) = true
is_text u = false

-- StringConcat of the operands' texts
abbrev pub join_texts : Content → Content → Computed Content
join_texts u v = and_then (to_text u) (λ s. and_then (to_text v) (λ t. Gives (Text (s ++ t))))

abbrev pub add_primitives : Content → Content → Computed Content
add_primitives u v = if is_text u || is_text v then join_texts u v else on_numbers sum_of u v

abbrev pub add : Content → Content → Computed Content
add u v = and_then (to_primitive u) (λ p. and_then (to_primitive v) (λ q. add_primitives p q))

-- ---- bits (13.12, 13.9): 32 of them

-- the count of a shift: modulo 32
abbrev pub shift_count : ℤ → ℕ
shift_count y = unsigned_abs (unsigned_32 y) % 32

abbrev pub bit_and : Content → Content → Computed Content
bit_and = on_numbers (λ x y. Some (int_bit_and w32 (signed_32 x) (signed_32 y)))

abbrev pub bit_or : Content → Content → Computed Content
bit_or = on_numbers (λ x y. Some (int_bit_or w32 (signed_32 x) (signed_32 y)))

abbrev pub bit_xor : Content → Content → Computed Content
bit_xor = on_numbers (λ x y. Some (int_bit_xor w32 (signed_32 x) (signed_32 y)))

-- `<<`
abbrev pub shift_left : Content → Content → Computed Content
shift_left = on_numbers (λ x y. Some (int_shl w32 (signed_32 x) (shift_count y)))

-- `>>`
abbrev pub shift_right : Content → Content → Computed Content
shift_right = on_numbers (λ x y. Some (int_shr (signed_32 x) (shift_count y)))

-- `>>>`
abbrev pub shift_right_unsigned : Content → Content → Computed Content
shift_right_unsigned = on_numbers (λ x y. Some (pos (unsigned_abs (unsigned_32 x) / 2 ^ shift_count y)))

-- ---- operators on one value

-- `+` in front (13.5.4)
abbrev pub as_number : Content → Computed Content
as_number u = and_then (to_number u) (λ x. Gives (Number x))

-- `-` in front (13.5.5)
abbrev pub negate : Content → Computed Content
negate u = and_then (to_number u) (λ x. Gives (Number (neg_ℤ x)))

-- `~` (13.5.6)
abbrev pub bit_not : Content → Computed Content
bit_not u = and_then (to_number u) (λ x. Gives (Number (int_bit_not w32 (signed_32 x))))

-- what `++` and `--` put in the old value's place (13.4)
abbrev pub increment : Content → Computed Content
increment u = and_then (to_number u) (λ x. number_result (sum_of x (pos 1)))

abbrev pub decrement : Content → Computed Content
decrement u = and_then (to_number u) (λ x. number_result (difference_of x (pos 1)))
