-- The world at the start of a run: `print`, the globals that are no safe integers, `undefined`, and the prototypes
-- of the errors that the engine throws.
use Rattle.std.specs.Prelude.{ℕ, true, false, List, [], ◌∷◌, codes, Some, None, pos}
use Rattle.hz_value.specs.declared.values.Value.{Value}
use Rattle.hz_value.specs.declared.values.Value.TheVariants as value
use Rattle.hz_value.specs.declared.values.Property.{Property}
use Rattle.hz_value.specs.declared.values.Property.TheVariants.{Data}
use Rattle.hz_value.specs.world.Objects.{Object, Plain, BuiltIn, blank, length_name}
use Rattle.hz_value.specs.world.Store.{Store}
use Rattle.hz_value.specs.world.Errors.{name_name, message_name, hidden_property}
use Rattle.hz_value.specs.world.Globals.{Globals, ordinary}
use Rattle.hz_value.specs.world.Records.{no_record, no_environment}
use Rattle.hz_value.specs.world.World.{World, Line}

-- the routines of built-in functions, by number
abbrev pub function_prototype_routine : ℕ
function_prototype_routine = 0

abbrev pub print_routine : ℕ
print_routine = 1

-- no object of the start is `readline`
abbrev pub readline_routine : ℕ
readline_routine = 2

-- the texts that are there from the start; the first three are `length_name`, `name_name` and `message_name`
abbrev pub texts0 : List (List ℕ)
texts0 =
    codes "length" ∷ codes "name" ∷ codes "message" ∷ codes "" ∷ codes "Error" ∷ codes "TypeError"
    ∷ codes "RangeError" ∷ codes "ReferenceError" ∷ codes "print" ∷ []

-- `length` and `name` of a built-in function (10.3.4)
abbrev pub function_property : Value → Property
function_property v = Data v false false true

-- a built-in function of no parameters that are counted, whose name is the text with this number
abbrev pub built_in : ℕ → ℕ → Object
built_in routine name =
    record (blank (Some 1) (BuiltIn routine)) {
      names = (length_name, function_property (value.Num (pos 0)))
          ∷ (name_name, function_property (value.Text name)) ∷ [];
    }

-- the prototype of a kind of errors (20.5.3, 20.5.6.3), under that of the object with this number
abbrev pub error_prototype : ℕ → ℕ → Object
error_prototype behind name =
    record (blank (Some behind) Plain) {
      names = (name_name, hidden_property (value.Text name))
          ∷ (message_name, hidden_property (value.Text 3)) ∷ [];
    }

-- Object.prototype (20.1.3), Function.prototype (20.2.3), Error.prototype, and those of TypeError, RangeError and
-- ReferenceError; `print`
abbrev pub objects0 : List Object
objects0 =
    blank None Plain
    ∷ record (built_in function_prototype_routine 3) { prototype = Some 0 }
    ∷ error_prototype 0 4 ∷ error_prototype 2 5 ∷ error_prototype 2 6 ∷ error_prototype 2 7
    ∷ built_in print_routine 8 ∷ []

abbrev pub store0 : Store
store0 = record { texts = texts0; symbols = []; objects = objects0 }

-- `undefined`, `NaN` and `Infinity` are read-only (19.1)
abbrev pub globals0 : Globals
globals0 =
    (codes "print", ordinary (value.Object 6))
    ∷ (codes "undefined", record { value = Some value.Undefined; writable = false })
    ∷ (codes "NaN", record { value = None; writable = false })
    ∷ (codes "Infinity", record { value = None; writable = false }) ∷ []

-- with these lines to read and so many turns
abbrev pub world0 : List Line → ℕ → World
world0 lines turns = record {
  store = store0;
  globals = globals0;
  records = λ r. no_record;
  record_count = 0;
  environments = λ e. no_environment;
  environment_count = 0;
  lines = lines;
  turns = turns;
  calls = 0;
  mark = 0;
}
