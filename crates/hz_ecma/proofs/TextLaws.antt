-- A tree that keeps a text stays in agreement: the text gets a number on its side alone.
use Rattle.std.proofs.Common.{◌≡◌, ◌<◌, ◌≤◌, arith, refl, ◌∙◌, ℕ, Bool, true, false}
use Rattle.std.proofs.Common.{if◌then◌else◌, List, [], ◌∷◌, ◌++◌, length, Option, Some, None}
use Rattle.std.proofs.lemmas.Cmp.{nat_list_eq_equiv}
use Rattle.std.proofs.lemmas.List.{length_push}
use Rattle.std.proofs.lemmas.Map.Keys.{IsDistinct-push}
use Rattle.std.specs.Prelude.{IfSome, bytes_eq}
use Rattle.std.specs.List.{list_any, IsDistinct}
use Rattle.hz_value.specs.declared.values.Value.{Value}
use Rattle.hz_value.specs.declared.values.Value.TheVariants as value
use Rattle.hz_value.specs.declared.values.Property.{Property}
use Rattle.hz_value.specs.declared.values.Property.TheVariants.{Data, Accessor}
use Rattle.hz_value.specs.operators.Contents.{Text}
use Rattle.hz_value.specs.world.Objects.{Object, Entries}
use Rattle.hz_value.specs.world.Records.{Binding}
use Rattle.hz_value.specs.world.Store.{Store, with_text}
use Rattle.hz_value.specs.world.Valid.{IsLive, IsLiveProperty, IsLiveBinding, AreLive, IsValidObject, IsValid}
use Rattle.hz_value.specs.world.World.{World, keeping}
use Rattle.hz_ecma.specs.agreement.Layouts.{Layout}
use Rattle.hz_ecma.specs.agreement.Agreement.{Matching, HasStart, Agree}
use Rattle.hz_ecma.proofs.ContentLaws.{grows_text, objects_stay, symbols_stay, globals_stay}
use Rattle.hz_ecma.proofs.StoreLaws.{agree_store}

-- ---- validity

pub texts_more : (b : Bool) (ts : List (List ℕ)) (t : List ℕ) → length ts ≤ length (if b then ts else ts ++ t ∷ [])
texts_more true ts t = omega arith
texts_more false ts t = omega (arith, length_push ts t)

distinct_if : (b : Bool) (ts : List (List ℕ)) (t : List ℕ) → list_any (bytes_eq t) ts ≡ b → IsDistinct bytes_eq ts
    → IsDistinct bytes_eq (if b then ts else ts ++ t ∷ [])
distinct_if true ts t e h = h
distinct_if false ts t e h = IsDistinct-push nat_list_eq_equiv ts t h e

module _ (s : Store) (t : List ℕ) where
  more : length s.texts ≤ length (with_text t s).texts
  more = texts_more (list_any (bytes_eq t) s.texts) s.texts t

  number_more : (d : Option ℕ) → IfSome d (λ n. n < length s.texts) → IfSome d (λ n. n < length (with_text t s).texts)
  number_more None h = tt
  number_more (Some n) h = omega (arith, h, more)

  pub live_more : (v : Value) → IsLive s v → IsLive (with_text t s) v
  live_more (value.Text n) h = omega (arith, h, more)
  live_more value.Undefined h = tt
  live_more value.Null h = tt
  live_more (value.Bool b) h = tt
  live_more (value.Num z) h = tt
  live_more (value.Symbol n) h = h
  live_more (value.Object n) h = h

  property_more : (p : Property) → IsLiveProperty s p → IsLiveProperty (with_text t s) p
  property_more (Data v writable enumerable configurable) h = live_more v h
  property_more (Accessor get set enumerable configurable) h = h

  entries_more : (n n1 : ℕ) (es : Entries) → n ≤ n1 → AreLive s n es → AreLive (with_text t s) n1 es
  entries_more n n1 es le h = λ k d lt. (omega (arith, (h k d lt).0, le), property_more _ (h k d lt).1)

  held_more : (v : Option Value) → IfSome v (λ x. IsLive s x) → IfSome v (λ x. IsLive (with_text t s) x)
  held_more None h = tt
  held_more (Some v) h = live_more v h

  binding_more : (b : Option Binding) → IsLiveBinding s b → IsLiveBinding (with_text t s) b
  binding_more None h = tt
  binding_more (Some x) h = held_more x h

object_text : (w : World) (t : List ℕ) (o : Object) → IsValidObject w o → IsValidObject (keeping (Text t) w) o
object_text w t o h = record {
  prototype = h.prototype;
  kind = h.kind;
  elements = entries_more w.store t 4294967295 4294967295 o.elements (omega arith) h.elements;
  names = entries_more w.store t (length w.store.texts) (length (with_text t w.store).texts) o.names
      (more w.store t) h.names;
  symbols = entries_more w.store t (length w.store.symbols) (length w.store.symbols) o.symbols (omega arith)
      h.symbols;
}

pub valid_text : (w : World) (t : List ℕ) → HasStart w.store → IsValid w → IsValid (keeping (Text t) w)
valid_text w t start h = record {
  texts = distinct_if (list_any (bytes_eq t) w.store.texts) w.store.texts t refl h.texts;
  length_text = (grows_text t w.store).texts 0 (omega (arith, start.text_count)) ∙ h.length_text;
  symbols = λ k d lt. number_more w.store t _ (h.symbols k d lt);
  objects = λ k d lt. object_text w t _ (h.objects k d lt);
  no_circle = h.no_circle;
  globals = λ k d lt. held_more w.store t _ (h.globals k d lt);
  records = λ r name lt. binding_more w.store t _ (h.records r name lt);
  slots = λ e i lt. binding_more w.store t _ (h.slots e i lt);
  parents = h.parents;
}

pub start_text : (s : Store) (t : List ℕ) → HasStart s → HasStart (with_text t s)
start_text s t h = record {
  objects = h.objects;
  text_count = omega (arith, h.text_count, more s t);
  texts = λ n lt. (grows_text t s).texts n (omega (arith, lt, h.text_count)) ∙ h.texts n lt;
}

-- ---- agreement

pub agree_text : (layout : Layout) (m : Matching) (w w1 : World) (t : List ℕ) → Agree layout m w w1
    → Agree layout m (keeping (Text t) w) w1
agree_text layout m w w1 t h =
    agree_store layout m w w1 (with_text t w.store) w1.store h (grows_text t w.store) (record { texts = λ n lt. refl })
    (valid_text w t h.start h.valid) h.valid_other (start_text w.store t h.start) h.start_other
    (objects_stay w (with_text t w.store) (grows_text t w.store) h.valid ∙ h.objects) h.closures
    (symbols_stay w (with_text t w.store) (grows_text t w.store) h.valid ∙ h.symbols)
    (globals_stay w (with_text t w.store) (grows_text t w.store) h.valid ∙ h.globals)
