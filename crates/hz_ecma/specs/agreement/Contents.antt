-- Parts of worlds with a text's units in place of its number: two worlds may keep the same texts under other numbers.
use Rattle.std.specs.Prelude.{◌≡◌, ℕ, Bool, List, [], ◌∷◌, map, Option, option_map, ⊤}
use Rattle.hz_value.specs.declared.values.Value.{Value}
use Rattle.hz_value.specs.declared.values.Property.{Property}
use Rattle.hz_value.specs.declared.values.Property.TheVariants.{Data, Accessor}
use Rattle.hz_value.specs.operators.Contents.{Content}
use Rattle.hz_value.specs.world.Objects.{Object, Kind, Plain, Array, Error, Function, BuiltIn, Generator}
use Rattle.hz_value.specs.world.Objects.{GeneratorState}
use Rattle.hz_value.specs.world.Objects.{Entries}
use Rattle.hz_value.specs.world.Store.{Store, text, content_of}
use Rattle.hz_value.specs.world.Globals.{Globals, Global}
use Rattle.hz_value.specs.world.Records.{Binding}
use Rattle.hz_value.specs.world.Valid.{IsLive}

-- both are live: else a text that comes later could change what one of them is
pub record SameValue (s s1 : Store) (v v1 : Value) : Type 0 where
  pub live : IsLive s v
  pub live_other : IsLive s1 v1
  pub content : content_of s v ≡ content_of s1 v1

abbrev pub SameValues : Store → Store → List Value → List Value → Type 0
SameValues s s1 [] [] = ⊤
SameValues s s1 (v ∷ vs) (v1 ∷ vs1) = SameValue s s1 v v1 × SameValues s s1 vs vs1
SameValues s s1 vs vs1 = ⊥

-- not initialised, or what a binding holds; None where there is no such binding
abbrev pub binding_content : Store → Option Binding → Option (Option Content)
binding_content s b = option_map (λ x. option_map (content_of s) x) b

pub data PropertyContent : Type 0 where
  DataContent : (value : Content) (writable enumerable configurable : Bool) → PropertyContent
  AccessorContent : (get set : Option ℕ) (enumerable configurable : Bool) → PropertyContent

abbrev pub property_content : Store → Property → PropertyContent
property_content s (Data v writable enumerable configurable) =
    DataContent (content_of s v) writable enumerable configurable
property_content s (Accessor get set enumerable configurable) = AccessorContent get set enumerable configurable

-- a function without what it closes over
pub data KindContent : Type 0 where
  PlainContent : KindContent
  ArrayContent : (length : ℕ) (writable : Bool) → KindContent
  ErrorContent : KindContent
  FunctionContent : (function : ℕ) → KindContent
  BuiltInContent : (routine : ℕ) → KindContent
  GeneratorContent : (state : GeneratorState) (activation : ℕ) → KindContent

abbrev pub kind_content : Kind → KindContent
kind_content Plain = PlainContent
kind_content (Array n writable) = ArrayContent n writable
kind_content Error = ErrorContent
kind_content (Function closure) = FunctionContent closure.function
kind_content (BuiltIn routine) = BuiltInContent routine
kind_content (Generator state n) = GeneratorContent state n

abbrev pub entries_content : Store → Entries → List (ℕ × PropertyContent)
entries_content s entries = map (λ e. (e.0, property_content s e.1)) entries

-- names by their units
abbrev pub names_content : Store → Entries → List (List ℕ × PropertyContent)
names_content s entries = map (λ e. (text s e.0, property_content s e.1)) entries

pub record ObjectContent : Type 0 where
  pub prototype : Option ℕ
  pub kind : KindContent
  pub extensible : Bool
  pub elements : List (ℕ × PropertyContent)
  pub names : List (List ℕ × PropertyContent)
  pub symbols : List (ℕ × PropertyContent)

abbrev pub object_content : Store → Object → ObjectContent
object_content s o = record {
  prototype = o.prototype;
  kind = kind_content o.kind;
  extensible = o.extensible;
  elements = entries_content s o.elements;
  names = names_content s o.names;
  symbols = entries_content s o.symbols;
}

abbrev pub objects_content : Store → List ObjectContent
objects_content s = map (object_content s) s.objects

-- the descriptions of symbols
abbrev pub symbols_content : Store → List (Option (List ℕ))
symbols_content s = map (option_map (text s)) s.symbols

pub record GlobalContent : Type 0 where
  pub value : Option Content
  pub writable : Bool

abbrev pub global_content : Store → Global → GlobalContent
global_content s g = record { value = option_map (content_of s) g.value; writable = g.writable }

abbrev pub globals_content : Store → Globals → List (List ℕ × GlobalContent)
globals_content s gs = map (λ g. (g.0, global_content s g.1)) gs
