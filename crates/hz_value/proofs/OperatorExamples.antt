-- Examples of conversions and operators, accepted by computing.
use Rattle.std.proofs.Common.{◌≡◌, pos, negsuc, true, false, [], codes, refl}
use Rattle.std.specs.Fmt.{digits}
use Rattle.hz_value.specs.declared.leaving.Left.TheVariants.{NotSafe, NotBuilt}
use Rattle.hz_value.specs.operators.Messages.{SymbolConversion}
use Rattle.hz_value.specs.operators.Contents.{Undefined, Null, Boolean, Number, Text, Symbol, Object}
use Rattle.hz_value.specs.operators.Computed.{Gives, Throws, Leaves}
use Rattle.hz_value.specs.operators.Arithmetic.{add, subtract, divide_to_int32, bit_not, shift_right_unsigned}
use Rattle.hz_value.specs.operators.Arithmetic.{increment}
use Rattle.hz_value.specs.operators.Comparisons.{less, greater, loosely_equal, strictly_equal}

-- `1 + "2"`
number_and_text : add (Number (pos 1)) (Text (codes "2")) ≡ Gives (Text (codes "12"))
unfolding digits
number_and_text = refl

-- `"3" - true`
text_and_boolean : subtract (Text (codes "3")) (Boolean true) ≡ Gives (Number (pos 2))
text_and_boolean = refl

-- both operands of `+` become primitives first; the left one of `-` becomes a number first
undefined_plus_object : add Undefined (Object 6) ≡ Leaves NotBuilt
undefined_plus_object = refl

undefined_minus_object : subtract Undefined (Object 6) ≡ Leaves NotSafe
undefined_minus_object = refl

symbol_plus_text : add (Symbol 0) (Text []) ≡ Throws SymbolConversion
symbol_plus_text = refl

not_safe : increment (Number (pos 9007199254740991)) ≡ Leaves NotSafe
not_safe = refl

-- `(-7 / 2) | 0`, `(5 / 0) | 0`, `~0`, `-1 >>> 28`
quotients : divide_to_int32 (Number (negsuc 6)) (Number (pos 2)) ≡ Gives (Number (negsuc 2))
quotients = refl

by_zero : divide_to_int32 (Number (pos 5)) (Number (pos 0)) ≡ Gives (Number (pos 0))
by_zero = refl

complement : bit_not (Number (pos 0)) ≡ Gives (Number (negsuc 0))
complement = refl

unsigned : shift_right_unsigned (Number (negsuc 0)) (Number (pos 28)) ≡ Gives (Number (pos 15))
unsigned = refl

-- texts are compared by their units; of `>` the right operand becomes a number first
texts_in_order : less (Text (codes "10")) (Text (codes "9")) ≡ Gives true
texts_in_order = refl

right_first : greater Undefined (Symbol 0) ≡ Throws SymbolConversion
right_first = refl

left_first : less Undefined (Symbol 0) ≡ Leaves NotSafe
left_first = refl

-- `null == undefined`, `null == 0`, `"1" == true`, `1 === "1"`, `undefined == print`, `0 == print`
null_undefined : loosely_equal Null Undefined ≡ Gives true
null_undefined = refl

null_zero : loosely_equal Null (Number (pos 0)) ≡ Gives false
null_zero = refl

text_boolean : loosely_equal (Text (codes "1")) (Boolean true) ≡ Gives true
text_boolean = refl

other_types : strictly_equal (Number (pos 1)) (Text (codes "1")) ≡ false
other_types = refl

undefined_object : loosely_equal Undefined (Object 6) ≡ Gives false
undefined_object = refl

number_object : loosely_equal (Number (pos 0)) (Object 6) ≡ Leaves NotBuilt
number_object = refl
