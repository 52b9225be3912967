-- What is live means the same where texts are added.
use Rattle.std.proofs.Common.{◌≡◌, ◌<◌, arith, refl, ap, ◌∙◌, ℕ, zero, suc, Bool, true, false, if◌then◌else◌, List, []}
use Rattle.std.proofs.Common.{◌∷◌, ◌++◌, map, length, slice_index_or, Option, Some, None}
use Rattle.std.proofs.Math.ListN.{get_or-append}
use Rattle.std.specs.Prelude.{All, IfSome, bytes_eq, option_map}
use Rattle.std.specs.List.{list_any}
use Rattle.hz_value.specs.declared.values.Value.{Value}
use Rattle.hz_value.specs.declared.values.Value.TheVariants as value
use Rattle.hz_value.specs.declared.values.Property.{Property}
use Rattle.hz_value.specs.declared.values.Property.TheVariants.{Data, Accessor}
use Rattle.hz_value.specs.operators.Contents.{Content, Text}
use Rattle.hz_value.specs.world.Globals.{Global}
use Rattle.hz_value.specs.world.Objects.{Object, Entries}
use Rattle.hz_value.specs.world.Store.{Store, text, with_text, content_of}
use Rattle.hz_value.specs.world.Valid.{IsLive, IsLiveProperty, IsValid, IsValidObject, AreLive}
use Rattle.hz_value.specs.world.World.{World}
use Rattle.hz_ecma.specs.agreement.Contents.{PropertyContent, DataContent, property_content, entries_content}
use Rattle.hz_ecma.specs.agreement.Contents.{names_content, ObjectContent, object_content, kind_content}
use Rattle.hz_ecma.specs.agreement.Contents.{symbols_content, GlobalContent, global_content, globals_content}

-- each text that is there keeps its units
pub record Grows (s s1 : Store) : Type 0 where
  pub texts : (n : ℕ) → n < length s.texts → text s1 n ≡ text s n

interned_stays : (b : Bool) (ts : List (List ℕ)) (t : List ℕ) (n : ℕ) → n < length ts
    → slice_index_or (if b then ts else ts ++ t ∷ []) n [] ≡ slice_index_or ts n []
interned_stays true ts t n lt = refl
interned_stays false ts t n lt = get_or-append ts (t ∷ []) [] n lt

pub grows_text : (t : List ℕ) (s : Store) → Grows s (with_text t s)
grows_text t s = record { texts = λ n lt. interned_stays (list_any (bytes_eq t) s.texts) s.texts t n lt }

same_map : {A B : Type 0} (f g : A → B) (xs : List A) → All (λ x. f x ≡ g x) xs → map f xs ≡ map g xs
same_map f g [] h = refl
same_map f g (x ∷ xs) h =
    ap (λ y. y ∷ map f xs) (h zero x (omega arith))
    ∙ ap (λ ys. g x ∷ ys) (same_map f g xs (λ k d lt. h (suc k) d (omega (arith, lt))))

pub content_stays : (s s1 : Store) → Grows s s1 → (v : Value) → IsLive s v → content_of s1 v ≡ content_of s v
content_stays s s1 g (value.Text n) live = ap (λ t. Text t) (g.texts n live)
content_stays s s1 g value.Undefined live = refl
content_stays s s1 g value.Null live = refl
content_stays s s1 g (value.Bool b) live = refl
content_stays s s1 g (value.Num z) live = refl
content_stays s s1 g (value.Symbol n) live = refl
content_stays s s1 g (value.Object n) live = refl

property_stays : (s s1 : Store) → Grows s s1 → (p : Property) → IsLiveProperty s p
    → property_content s1 p ≡ property_content s p
property_stays s s1 g (Data v writable enumerable configurable) live =
    ap (λ c. DataContent c writable enumerable configurable) (content_stays s s1 g v live)
property_stays s s1 g (Accessor get set enumerable configurable) live = refl

entries_stay : (s s1 : Store) → Grows s s1 → (n : ℕ) (es : Entries) → AreLive s n es
    → entries_content s1 es ≡ entries_content s es
entries_stay s s1 g n es live =
    same_map (λ e. (e.0, property_content s1 e.1)) (λ e. (e.0, property_content s e.1)) es
    (λ k d lt. ap (λ p. ((slice_index_or es k d).0, p))
    (property_stays s s1 g (slice_index_or es k d).1 (live k d lt).1))

names_stay : (s s1 : Store) → Grows s s1 → (es : Entries) → AreLive s (length s.texts) es
    → names_content s1 es ≡ names_content s es
names_stay s s1 g es live =
    same_map (λ e. (text s1 e.0, property_content s1 e.1)) (λ e. (text s e.0, property_content s e.1)) es
    (λ k d lt.
    ap (λ t. (t, property_content s1 (slice_index_or es k d).1)) (g.texts (slice_index_or es k d).0 (live k d lt).0)
    ∙ ap (λ p. (text s (slice_index_or es k d).0, p))
    (property_stays s s1 g (slice_index_or es k d).1 (live k d lt).1))

with_properties : Object → List (ℕ × PropertyContent) → List (List ℕ × PropertyContent) → List (ℕ × PropertyContent)
    → ObjectContent
with_properties o elements names symbols = record {
  prototype = o.prototype;
  kind = kind_content o.kind;
  extensible = o.extensible;
  elements = elements;
  names = names;
  symbols = symbols;
}

object_stays : (w : World) (s1 : Store) → Grows w.store s1 → (o : Object) → IsValidObject w o
    → object_content s1 o ≡ object_content w.store o
unfolding with_properties
object_stays w s1 g o h =
    ap (λ es. with_properties o es (names_content s1 o.names) (entries_content s1 o.symbols))
    (entries_stay w.store s1 g 4294967295 o.elements h.elements)
    ∙ ap (λ es. with_properties o (entries_content w.store o.elements) es (entries_content s1 o.symbols))
    (names_stay w.store s1 g o.names h.names)
    ∙ ap (λ es. with_properties o (entries_content w.store o.elements) (names_content w.store o.names) es)
    (entries_stay w.store s1 g (length w.store.symbols) o.symbols h.symbols)

-- the objects that were there
pub objects_stay : (w : World) (s1 : Store) → Grows w.store s1 → IsValid w
    → map (object_content s1) w.store.objects ≡ map (object_content w.store) w.store.objects
objects_stay w s1 g h =
    same_map (object_content s1) (object_content w.store) w.store.objects
    (λ k d lt. object_stays w s1 g (slice_index_or w.store.objects k d) (h.objects k d lt))

description_stays : (s s1 : Store) → Grows s s1 → (d : Option ℕ) → IfSome d (λ n. n < length s.texts)
    → option_map (text s1) d ≡ option_map (text s) d
description_stays s s1 g None live = refl
description_stays s s1 g (Some n) live = ap (λ t. Some t) (g.texts n live)

pub symbols_stay : (w : World) (s1 : Store) → Grows w.store s1 → IsValid w
    → map (option_map (text s1)) w.store.symbols ≡ symbols_content w.store
symbols_stay w s1 g h =
    same_map (option_map (text s1)) (option_map (text w.store)) w.store.symbols
    (λ k d lt. description_stays w.store s1 g (slice_index_or w.store.symbols k d) (h.symbols k d lt))

held_stays : (s s1 : Store) → Grows s s1 → (v : Option Value) → IfSome v (λ x. IsLive s x)
    → option_map (content_of s1) v ≡ option_map (content_of s) v
held_stays s s1 g None live = refl
held_stays s s1 g (Some v) live = ap (λ c. Some c) (content_stays s s1 g v live)

with_value : Global → Option Content → GlobalContent
with_value x v = record { value = v; writable = x.writable }

pub globals_stay : (w : World) (s1 : Store) → Grows w.store s1 → IsValid w
    → globals_content s1 w.globals ≡ globals_content w.store w.globals
unfolding with_value
globals_stay w s1 g h =
    same_map (λ x. (x.0, global_content s1 x.1)) (λ x. (x.0, global_content w.store x.1)) w.globals
    (λ k d lt. ap (λ v. ((slice_index_or w.globals k d).0, with_value (slice_index_or w.globals k d).1 v))
    (held_stays w.store s1 g (slice_index_or w.globals k d).1.value (h.globals k d lt)))
