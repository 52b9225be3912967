-- What is told of a value that nobody caught. No code of the script runs for it. This project's own.
use Rattle.std.specs.Prelude.{ℕ, nat_lt, if◌then◌else◌, List, [], ◌++◌, length, codes, Option, Some, None, unwrap_or}
use Rattle.std.specs.Prelude.{slice_index_or}
use Rattle.std.specs.Fmt.{signed_decimal}
use Rattle.hz_value.specs.declared.values.Value.{Value}
use Rattle.hz_value.specs.declared.values.Value.TheVariants as value
use Rattle.hz_value.specs.declared.values.Key.TheVariants as key
use Rattle.hz_value.specs.declared.values.Property.{Property}
use Rattle.hz_value.specs.declared.values.Property.TheVariants.{Data, Accessor}
use Rattle.hz_value.specs.world.Objects.{Kind, Error, Function, BuiltIn}
use Rattle.hz_value.specs.world.Store.{Store, text, object, found}
use Rattle.hz_value.specs.world.Errors.{name_name, message_name}

abbrev pub text_in : Store → Value → Option (List ℕ)
text_in s (value.Text n) = Some (text s n)
text_in s v = None

-- the text that a property holds, where it is a data property with a text
abbrev pub text_held : Store → Option Property → Option (List ℕ)
text_held s (Some (Data v writable enumerable configurable)) = text_in s v
text_held s (Some (Accessor get set enumerable configurable)) = None
text_held s None = None

-- the first property of this name along the prototypes, as a text
abbrev pub shown : Store → ℕ → ℕ → Option (List ℕ)
shown s o name = text_held s (found s o (key.Name name))

-- an empty message, or one that is no text, is left out
abbrev pub with_message : List ℕ → List ℕ → List ℕ
with_message name message = if nat_lt 0 (length message) then name ++ codes ": " ++ message else name

abbrev pub error_description : Store → ℕ → List ℕ
error_description s o =
    with_message (unwrap_or (shown s o name_name) (codes "Error")) (unwrap_or (shown s o message_name) [])

abbrev pub object_description : Store → ℕ → Kind → List ℕ
object_description s o Error = error_description s o
object_description s o (Function closure) = codes "function"
object_description s o (BuiltIn routine) = codes "function"
object_description s o kind = codes "object"

-- the description of a symbol; one without a description has an empty one
abbrev pub symbol_description : Store → Option ℕ → List ℕ
symbol_description s (Some n) = text s n
symbol_description s None = []

abbrev pub describe : Store → Value → List ℕ
describe s value.Undefined = codes "undefined"
describe s value.Null = codes "null"
describe s (value.Bool b) = if b then codes "true" else codes "false"
describe s (value.Num z) = signed_decimal z
describe s (value.Text n) = text s n
describe s (value.Symbol n) = codes "Symbol(" ++ symbol_description s (slice_index_or s.symbols n None) ++ codes ")"
describe s (value.Object o) = object_description s o (object s o).kind
