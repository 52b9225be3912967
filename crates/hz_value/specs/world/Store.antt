-- The part of a world that a heap keeps: texts, symbols and objects under their numbers. Reads are total: what
-- is not there reads as the empty text, no description, a plain object without properties.
use Rattle.std.specs.Prelude.{ℕ, zero, suc, nat_le, Bool, true, false, ◌&&◌, if◌then◌else◌, List, [], ◌∷◌, ◌++◌}
use Rattle.std.specs.Prelude.{length, Option, Some, None, option_and_then, slice_get, slice_index_or, slice_set}
use Rattle.std.specs.Prelude.{bytes_eq, codes, decimal}
use Rattle.std.specs.List.{list_any, position_or_len}
use Rattle.std.specs.Option.{option_or}
use Rattle.hz_value.specs.declared.values.Value.{Value}
use Rattle.hz_value.specs.declared.values.Value.TheVariants as value
use Rattle.hz_value.specs.declared.values.Key.{Key}
use Rattle.hz_value.specs.declared.values.Key.TheVariants as key
use Rattle.hz_value.specs.declared.values.Property.{Property}
use Rattle.hz_value.specs.NumberTexts.{natural_of}
use Rattle.hz_value.specs.operators.Contents.{Content, Undefined, Null, Boolean, Number, Text, Symbol}
use Rattle.hz_value.specs.operators.Contents as content
use Rattle.hz_value.specs.world.Objects.{Object, Kind, Plain, Function, BuiltIn, blank, own}

-- a text is its UTF-16 units and stands once; a symbol is the number of the text that describes it, where there
-- is one
pub record Store : Type 0 where
  pub texts : List (List ℕ)
  pub symbols : List (Option ℕ)
  pub objects : List Object

-- ---- texts

abbrev pub text : Store → ℕ → List ℕ
text s n = slice_index_or s.texts n []

-- the number of a text: that of an equal one, else the next
abbrev pub number_of : List (List ℕ) → List ℕ → ℕ
number_of texts t = position_or_len (bytes_eq t) texts

abbrev pub interned : List (List ℕ) → List ℕ → List (List ℕ)
interned texts t = if list_any (bytes_eq t) texts then texts else texts ++ t ∷ []

abbrev pub with_text : List ℕ → Store → Store
with_text t s = record s { texts = interned s.texts t }

-- ---- values

-- what a value is
abbrev pub content_of : Store → Value → Content
content_of s value.Undefined = Undefined
content_of s value.Null = Null
content_of s (value.Bool b) = Boolean b
content_of s (value.Num z) = Number z
content_of s (value.Text n) = Text (text s n)
content_of s (value.Symbol n) = Symbol n
content_of s (value.Object n) = content.Object n

-- the value that is so, in the store that keeps it
abbrev pub value_of : Store → Content → Value
value_of s Undefined = value.Undefined
value_of s Null = value.Null
value_of s (Boolean b) = value.Bool b
value_of s (Number z) = value.Num z
value_of s (Text t) = value.Text (number_of s.texts t)
value_of s (Symbol n) = value.Symbol n
value_of s (content.Object n) = value.Object n

abbrev pub with_content : Content → Store → Store
with_content (Text t) s = with_text t s
with_content u s = s

-- ---- keys

-- the greatest array index (6.1.7)
abbrev pub max_index : ℕ
max_index = 4294967294

abbrev pub index_if_spelled : List ℕ → ℕ → Option ℕ
index_if_spelled t n = if nat_le n max_index && bytes_eq (decimal n) t then Some n else None

-- the array index that a text spells: in decimal digits, without a leading zero
abbrev pub index_spelled : List ℕ → Option ℕ
index_spelled t = option_and_then (index_if_spelled t) (natural_of 10 t)

abbrev pub key_for : Store → List ℕ → Option ℕ → Key
key_for s t (Some i) = key.Index i
key_for s t None = key.Name (number_of s.texts t)

-- the key that a property key names, in the store that keeps it
abbrev pub key_of : Store → Content → Key
key_of s (Symbol n) = key.Symbol n
key_of s (Text t) = key_for s t (index_spelled t)
key_of s u = key_for s [] None

-- ---- objects

abbrev pub object : Store → ℕ → Object
object s o = slice_index_or s.objects o (blank None Plain)

-- a new object gets the next number
abbrev pub with_object : Object → Store → Store
with_object o s = record s { objects = s.objects ++ o ∷ [] }

abbrev pub set_object : ℕ → Object → Store → Store
set_object n o s = record s { objects = slice_set s.objects n o }

abbrev pub set_kind : ℕ → Kind → Store → Store
set_kind n kind s = set_object n (record (object s n) { kind = kind }) s

-- what is found of an object: its own property, else what is found behind
abbrev pub found_in : (Option ℕ → Option Property) → Option Object → Key → Option Property
found_in behind None k = None
found_in behind (Some o) k = option_or (own o k) (behind o.prototype)

-- the property under a key along the prototypes (10.1.8.1); a chain is at most as long as there are objects
abbrev pub found_within : ℕ → List Object → Option ℕ → Key → Option Property
found_within zero os o k = None
found_within (suc n) os None k = None
found_within (suc n) os (Some o) k = found_in (λ p. found_within n os p k) (slice_get os o) k

abbrev pub found : Store → ℕ → Key → Option Property
found s o k = found_within (length s.objects) s.objects (Some o) k

-- ---- functions

abbrev pub is_function : Kind → Bool
is_function (Function closure) = true
is_function (BuiltIn routine) = true
is_function kind = false

-- IsCallable (7.2.3)
abbrev pub is_callable : Store → Value → Bool
is_callable s (value.Object o) = is_function (object s o).kind
is_callable s v = false

-- the result of `typeof` (13.5.3)
abbrev pub type_name : Store → Value → List ℕ
type_name s value.Undefined = codes "undefined"
type_name s value.Null = codes "object"
type_name s (value.Bool b) = codes "boolean"
type_name s (value.Num z) = codes "number"
type_name s (value.Text n) = codes "string"
type_name s (value.Symbol n) = codes "symbol"
type_name s (value.Object o) = if is_function (object s o).kind then codes "function" else codes "object"
