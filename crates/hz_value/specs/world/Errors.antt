-- The errors that the engine throws, as objects (ECMA-262, 20.5.6).
use Rattle.std.specs.Prelude.{ℕ, true, false, [], ◌∷◌, length, Some}
use Rattle.hz_value.specs.declared.values.Value.{Value}
use Rattle.hz_value.specs.declared.values.Value.TheVariants as value
use Rattle.hz_value.specs.declared.values.Property.{Property}
use Rattle.hz_value.specs.declared.values.Property.TheVariants.{Data}
use Rattle.hz_value.specs.operators.Messages.{Message, ErrorKind, TypeError, RangeError, ReferenceError, kind_of}
use Rattle.hz_value.specs.operators.Messages.{text_of}
use Rattle.hz_value.specs.world.Objects.{Object, Error, blank}
use Rattle.hz_value.specs.world.Store.{Store, number_of, with_text, with_object}

-- the numbers of the texts `name` and `message`
abbrev pub name_name : ℕ
name_name = 1

abbrev pub message_name : ℕ
message_name = 2

-- the number of the prototype of these errors
abbrev pub prototype_of : ErrorKind → ℕ
prototype_of TypeError = 3
prototype_of RangeError = 4
prototype_of ReferenceError = 5

-- a property that is not enumerable and can be changed otherwise, as ECMA-262 makes those of built-ins (18)
abbrev pub hidden_property : Value → Property
hidden_property v = Data v true false true

-- an error whose message is the text with this number
abbrev pub error_object : ErrorKind → ℕ → Object
error_object kind text =
    record (blank (Some (prototype_of kind)) Error) { names = (message_name, hidden_property (value.Text text)) ∷ [] }

-- the store behind the making of an error, and the error
abbrev pub with_error : Message → Store → Store
with_error m s = with_object (error_object (kind_of m) (number_of s.texts (text_of m))) (with_text (text_of m) s)

abbrev pub new_error : Store → Value
new_error s = value.Object (length s.objects)
