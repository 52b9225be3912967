-- Conversions of values (ECMA-262, 7.1).
--
-- An object becomes a primitive by calls of its methods, in steps of a routine that an activation enters before
-- it comes here. Until that routine is built, an object that is met here leaves the run as NotBuilt.
use Rattle.std.specs.Prelude.{ℕ, ℤ, pos, Bool, true, false, not, nat_lt, if◌then◌else◌, List, length, codes}
use Rattle.std.specs.Fmt.{signed_decimal}
use Rattle.hz_value.specs.declared.leaving.Left.TheVariants as left
use Rattle.hz_value.specs.Numbers.{is_zero}
use Rattle.hz_value.specs.NumberTexts.{text_value}
use Rattle.hz_value.specs.operators.Messages.{SymbolConversion}
use Rattle.hz_value.specs.operators.Contents.{Content, Undefined, Null, Boolean, Number, Text, Symbol, Object}
use Rattle.hz_value.specs.operators.Computed.{Computed, Gives, Throws, Leaves, safely, and_then}

-- ToPrimitive (7.1.1)
abbrev pub to_primitive : Content → Computed Content
to_primitive (Object o) = Leaves left.NotBuilt
to_primitive primitive = Gives primitive

-- ToBoolean (7.1.2)
abbrev pub to_boolean : Content → Bool
to_boolean Undefined = false
to_boolean Null = false
to_boolean (Boolean b) = b
to_boolean (Number z) = not (is_zero z)
to_boolean (Text t) = nat_lt 0 (length t)
to_boolean (Symbol s) = true
to_boolean (Object o) = true

-- ToNumber (7.1.4), and ToNumeric (7.1.3), since no BigInt is there
abbrev pub to_number : Content → Computed ℤ
to_number Undefined = Leaves left.NotSafe
to_number Null = Gives (pos 0)
to_number (Boolean b) = Gives (if b then pos 1 else pos 0)
to_number (Number z) = Gives z
to_number (Text t) = safely (text_value t)
to_number (Symbol s) = Throws SymbolConversion
to_number (Object o) = Leaves left.NotBuilt

-- ToString (7.1.17)
abbrev pub to_text : Content → Computed (List ℕ)
to_text Undefined = Gives (codes "undefined")
to_text Null = Gives (codes "null")
to_text (Boolean b) = Gives (if b then codes "true" else codes "false")
to_text (Number z) = Gives (signed_decimal z)
to_text (Text t) = Gives t
to_text (Symbol s) = Throws SymbolConversion
to_text (Object o) = Leaves left.NotBuilt

-- ToPropertyKey (7.1.19): a text or a symbol
abbrev pub key_of_primitive : Content → Computed Content
key_of_primitive (Symbol s) = Gives (Symbol s)
key_of_primitive u = and_then (to_text u) (λ t. Gives (Text t))

abbrev pub to_property_key : Content → Computed Content
to_property_key u = and_then (to_primitive u) key_of_primitive
