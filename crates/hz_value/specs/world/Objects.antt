-- Objects (ECMA-262, 6.1.7 and 10.1): prototype, kind, the mark of being extensible, and properties.
--
-- The properties are three lists, since the order between elements, names and symbols cannot be seen: own keys
-- are listed by class (10.1.11.1).
use Rattle.std.specs.Prelude.{ℕ, Bool, true, false, ◌==◌, nat_eq, if◌then◌else◌, List, [], Option, Some, pos}
use Rattle.std.specs.Map.{lookup}
use Rattle.hz_value.specs.declared.values.Value.TheVariants as value
use Rattle.hz_value.specs.declared.values.Key.{Key}
use Rattle.hz_value.specs.declared.values.Key.TheVariants as key
use Rattle.hz_value.specs.declared.values.Property.{Property}
use Rattle.hz_value.specs.declared.values.Property.TheVariants.{Data}

-- what a function of the source closes over: which function it is, and its environment. The evaluator over trees
-- keeps the records, innermost first; code keeps an environment by its number
pub record Closure : Type 0 where
  pub function : ℕ
  pub records : List ℕ
  pub environment : Option ℕ

-- [[GeneratorState]] (27.5.2)
pub data GeneratorState : Type 0 where
  SuspendedStart : GeneratorState
  SuspendedYield : GeneratorState
  Executing : GeneratorState
  Completed : GeneratorState

-- what an object is besides its properties
pub data Kind : Type 0 where
  Plain : Kind
  -- an array has its `length` here (10.4.2)
  Array : (length : ℕ) (writable : Bool) → Kind
  -- made by an error constructor or by the engine (20.5.4)
  Error : Kind
  -- a function of the source (10.2)
  Function : (closure : Closure) → Kind
  -- a built-in function (10.3), by the number of its routine
  BuiltIn : (routine : ℕ) → Kind
  -- a generator, with the number of its activation
  Generator : (state : GeneratorState) (activation : ℕ) → Kind

-- elements under their indices, names and symbols under their numbers
abbrev pub Entries : Type 0
Entries = List (ℕ × Property)

-- elements rise by index; names, and symbols, stand in the order of their creation
pub record Object : Type 0 where
  pub prototype : Option ℕ
  pub kind : Kind
  pub extensible : Bool
  pub elements : Entries
  pub names : Entries
  pub symbols : Entries

abbrev pub blank : Option ℕ → Kind → Object
blank prototype kind = record {
  prototype = prototype;
  kind = kind;
  extensible = true;
  elements = [];
  names = [];
  symbols = [];
}

-- the number of the text `length`
abbrev pub length_name : ℕ
length_name = 0

-- an array's `length` as a property
abbrev pub length_property : ℕ → Bool → Property
length_property n writable = Data (value.Num (pos n)) writable false false

abbrev pub own_name : Kind → Entries → ℕ → Option Property
own_name (Array n writable) names k =
    if k == length_name then Some (length_property n writable) else lookup (nat_eq k) names
own_name kind names k = lookup (nat_eq k) names

-- [[GetOwnProperty]] (10.1.5, 10.4.2)
abbrev pub own : Object → Key → Option Property
own o (key.Index i) = lookup (nat_eq i) o.elements
own o (key.Name n) = own_name o.kind o.names n
own o (key.Symbol s) = lookup (nat_eq s) o.symbols
