-- Worlds agree still where both read the same line and keep its text.
use Rattle.std.proofs.Common.{arith, refl, sym, ap, ◌∙◌, ℕ, List, [], ◌∷◌}
use Rattle.std.specs.Prelude.{bytes_eq}
use Rattle.std.specs.List.{list_any}
use Rattle.hz_value.specs.declared.values.Value.{Value}
use Rattle.hz_value.specs.operators.Contents.{Text}
use Rattle.hz_value.specs.world.Objects.{Object}
use Rattle.hz_value.specs.world.Store.{Store, value_of, with_text}
use Rattle.hz_value.specs.world.Valid.{IsValid, IsValidObject}
use Rattle.hz_value.specs.world.World.{World, Line, keeping}
use Rattle.hz_ecma.specs.agreement.Agreement.{Matching, SameBindings, Agree}
use Rattle.hz_ecma.specs.agreement.Contents.{SameValue, SameValues}
use Rattle.hz_ecma.specs.agreement.Layouts.{Layout}
use Rattle.hz_ecma.specs.agreement.Replies.{Later}
use Rattle.hz_ecma.proofs.ContentLaws.{grows_text, content_stays, objects_stay, symbols_stay, globals_stay}
use Rattle.hz_ecma.proofs.ErrorLaws.{text_kept, text_live}
use Rattle.hz_ecma.proofs.OnwardLaws.{Onward}
use Rattle.hz_ecma.proofs.ScopeLaws.{scopes_same, closures_later}
use Rattle.hz_ecma.proofs.StoreLaws.{agree_store}
use Rattle.hz_ecma.proofs.TextLaws.{live_more, start_text, texts_more, valid_text}

-- ---- other lines to be read

abbrev reading : List Line → World → World
reading lines w = record w { lines = lines }

object_reading : (lines : List Line) (w : World) (o : Object) → IsValidObject w o → IsValidObject (reading lines w) o
object_reading lines w o h = record {
  prototype = h.prototype;
  kind = h.kind;
  elements = h.elements;
  names = h.names;
  symbols = h.symbols;
}

valid_reading : (lines : List Line) (w : World) → IsValid w → IsValid (reading lines w)
valid_reading lines w h = record {
  texts = h.texts;
  length_text = h.length_text;
  symbols = h.symbols;
  objects = λ k d lt. object_reading lines w _ (h.objects k d lt);
  no_circle = h.no_circle;
  globals = h.globals;
  records = h.records;
  slots = h.slots;
  parents = h.parents;
}

bindings_reading : (lines : List Line) (layout : Layout) (w w1 : World) (r e : ℕ) → SameBindings layout w w1 r e
    → SameBindings layout (reading lines w) (reading lines w1) r e
bindings_reading lines layout w w1 r e h = record {
  live = h.live;
  live_environment = h.live_environment;
  slots = h.slots;
  same = h.same;
}

-- the same lines are left on both sides
pub agree_reading : (lines : List Line) (layout : Layout) (m : Matching) (w w1 : World) → Agree layout m w w1
    → Agree layout m (reading lines w) (reading lines w1)
agree_reading lines layout m w w1 h = record {
  valid = valid_reading lines w h.valid;
  valid_other = valid_reading lines w1 h.valid_other;
  start = h.start;
  start_other = h.start_other;
  pairs = λ r e is. bindings_reading lines layout w w1 r e (h.pairs r e is);
  one_environment = h.one_environment;
  one_record = h.one_record;
  objects = h.objects;
  closures = λ o.
      closures_later layout m m w w1 (reading lines w) (reading lines w1)
      (scopes_same m w w1 (reading lines w) (reading lines w1)
      (λ r e is. (h.pairs r e is).live_environment) refl refl refl)
      _ _ (h.closures o);
  symbols = h.symbols;
  globals = h.globals;
  lines = refl;
  turns = h.turns;
  calls = h.calls;
}

-- ---- the same text more

agree_kept : (t : List ℕ) (layout : Layout) (m : Matching) (w w1 : World) → Agree layout m w w1
    → Agree layout m (keeping (Text t) w) (keeping (Text t) w1)
agree_kept t layout m w w1 h =
    agree_store layout m w w1 (with_text t w.store) (with_text t w1.store) h (grows_text t w.store)
    (grows_text t w1.store) (valid_text w t h.start h.valid) (valid_text w1 t h.start_other h.valid_other)
    (start_text w.store t h.start) (start_text w1.store t h.start_other)
    (objects_stay w (with_text t w.store) (grows_text t w.store) h.valid ∙ h.objects
    ∙ sym (objects_stay w1 (with_text t w1.store) (grows_text t w1.store) h.valid_other))
    h.closures
    (symbols_stay w (with_text t w.store) (grows_text t w.store) h.valid ∙ h.symbols
    ∙ sym (symbols_stay w1 (with_text t w1.store) (grows_text t w1.store) h.valid_other))
    (globals_stay w (with_text t w.store) (grows_text t w.store) h.valid ∙ h.globals
    ∙ sym (globals_stay w1 (with_text t w1.store) (grows_text t w1.store) h.valid_other))

-- ---- a line that is read

-- its text is kept, and these lines are left
abbrev pub line_world : List ℕ → List Line → World → World
line_world t lines w = keeping (Text t) (reading lines w)

later_line : (t : List ℕ) (lines : List Line) (w : World) → Later w (line_world t lines w)
later_line t lines w = record {
  texts = (grows_text t w.store).texts;
  text_count = texts_more (list_any (bytes_eq t) w.store.texts) w.store.texts t;
  symbols = omega arith;
  objects = omega arith;
  arrays = λ o lt is. is;
  record_count = omega arith;
  scopes = λ r lt. refl;
  names = λ r name lt. refl;
  environment_count = omega arith;
  parents = λ e lt. refl;
  slots = λ e i lt. refl;
}

pub onward_line : (t : List ℕ) (lines : List Line) (layout : Layout) (m : Matching) (w w1 : World)
    → Agree layout m w w1 → Onward layout m w w1 (line_world t lines w) (line_world t lines w1)
onward_line t lines layout m w w1 h = record {
  agree = agree_kept t layout m (reading lines w) (reading lines w1) (agree_reading lines layout m w w1 h);
  later = later_line t lines w;
  later_other = later_line t lines w1;
  turns = omega arith;
  records = refl;
}

module _ (t : List ℕ) (s s1 : Store) where
  -- the text that is kept
  pub line_value : SameValue (with_text t s) (with_text t s1) (value_of s (Text t)) (value_of s1 (Text t))
  line_value = record {
    live = text_live s t;
    live_other = text_live s1 t;
    content = ap (λ x. Text x) (text_kept s t) ∙ sym (ap (λ x. Text x) (text_kept s1 t));
  }

  value_kept : (v v1 : Value) → SameValue s s1 v v1 → SameValue (with_text t s) (with_text t s1) v v1
  value_kept v v1 h = record {
    live = live_more s t v h.live;
    live_other = live_more s1 t v1 h.live_other;
    content =
        content_stays s (with_text t s) (grows_text t s) v h.live ∙ h.content
        ∙ sym (content_stays s1 (with_text t s1) (grows_text t s1) v1 h.live_other);
  }

  pub values_kept : (vs vs1 : List Value) → SameValues s s1 vs vs1
      → SameValues (with_text t s) (with_text t s1) vs vs1
  values_kept [] [] h = tt
  values_kept (v ∷ vs) (v1 ∷ vs1) h = (value_kept v v1 h.0, values_kept vs vs1 h.1)
  values_kept [] (v1 ∷ vs1) h = absurd h
  values_kept (v ∷ vs) [] h = absurd h
