-- Agreement of worlds: at the start, and behind changes of turns, calls and marks.
use Rattle.std.proofs.Common.{◌≡◌, arith, refl, subst, ℕ, zero, suc, List, []}
use Rattle.hz_value.specs.world.Objects.{Object}
use Rattle.hz_value.specs.world.Start.{world0, store0}
use Rattle.hz_value.specs.world.Store.{object}
use Rattle.hz_value.specs.world.Valid.{IsValid, IsValidObject}
use Rattle.hz_value.specs.world.World.{World, Line}
use Rattle.hz_value.proofs.StartLaws.{world0_valid}
use Rattle.hz_ecma.specs.agreement.Layouts.{Layout}
use Rattle.hz_ecma.specs.agreement.Agreement.{Matching, Matched, SameBindings, SameClosures}
use Rattle.hz_ecma.specs.agreement.Agreement.{HasStart, Agree}
use Rattle.hz_ecma.proofs.ScopeLaws.{scopes_same, closures_later}

-- ---- the start

start_closures : (layout : Layout) (w w1 : World) (o : ℕ)
    → SameClosures layout [] w w1 (object store0 o).kind (object store0 o).kind
start_closures layout w w1 zero = tt
start_closures layout w w1 (suc zero) = tt
start_closures layout w w1 (suc (suc zero)) = tt
start_closures layout w w1 (suc (suc (suc zero))) = tt
start_closures layout w w1 (suc (suc (suc (suc zero)))) = tt
start_closures layout w w1 (suc (suc (suc (suc (suc zero))))) = tt
start_closures layout w w1 (suc (suc (suc (suc (suc (suc zero)))))) = tt
start_closures layout w w1 (suc (suc (suc (suc (suc (suc (suc o))))))) = tt

none_matched : (r e : ℕ) → Matched [] r e → ⊥
none_matched r e (k, is) = absurd (cc)

start_has : HasStart store0
start_has = record { objects = omega arith; text_count = omega arith; texts = λ n lt. refl }

pub starts_agree : (layout : Layout) (lines : List Line) (turns : ℕ)
    → Agree layout [] (world0 lines turns) (world0 lines turns)
starts_agree layout lines turns = record {
  valid = world0_valid lines turns;
  valid_other = world0_valid lines turns;
  start = start_has;
  start_other = start_has;
  pairs = λ r e h. absurd (none_matched r e h);
  one_environment = λ r e e1 h k. absurd (none_matched r e h);
  one_record = λ r r1 e h k. absurd (none_matched r e h);
  objects = refl;
  closures = λ o. start_closures layout (world0 lines turns) (world0 lines turns) o;
  symbols = refl;
  globals = refl;
  lines = refl;
  turns = refl;
  calls = refl;
}

-- ---- turns, calls and marks

abbrev pub counting : World → (turns calls mark : ℕ) → World
counting w turns calls mark = record w { turns = turns; calls = calls; mark = mark }

object_counting : (w : World) (turns calls mark : ℕ) (o : Object) → IsValidObject w o
    → IsValidObject (counting w turns calls mark) o
object_counting w turns calls mark o h = record {
  prototype = h.prototype;
  kind = h.kind;
  elements = h.elements;
  names = h.names;
  symbols = h.symbols;
}

valid_counting : (w : World) (turns calls mark : ℕ) → IsValid w → IsValid (counting w turns calls mark)
valid_counting w turns calls mark h = record {
  texts = h.texts;
  length_text = h.length_text;
  symbols = h.symbols;
  objects = λ k d lt. object_counting w turns calls mark _ (h.objects k d lt);
  no_circle = h.no_circle;
  globals = h.globals;
  records = h.records;
  slots = h.slots;
  parents = h.parents;
}

bindings_counting : (layout : Layout) (w w1 : World) (turns calls mark mark1 r e : ℕ) → SameBindings layout w w1 r e
    → SameBindings layout (counting w turns calls mark) (counting w1 turns calls mark1) r e
bindings_counting layout w w1 turns calls mark mark1 r e h = record {
  live = h.live;
  live_environment = h.live_environment;
  slots = h.slots;
  same = h.same;
}

-- both go on with the same turns and calls, each with a mark of its own
agree_counting : (layout : Layout) (m : Matching) (w w1 : World) (turns calls mark mark1 : ℕ)
    → Agree layout m w w1
    → Agree layout m (counting w turns calls mark) (counting w1 turns calls mark1)
agree_counting layout m w w1 turns calls mark mark1 h = record {
  valid = valid_counting w turns calls mark h.valid;
  valid_other = valid_counting w1 turns calls mark1 h.valid_other;
  start = h.start;
  start_other = h.start_other;
  pairs = λ r e is. bindings_counting layout w w1 turns calls mark mark1 r e (h.pairs r e is);
  one_environment = h.one_environment;
  one_record = h.one_record;
  objects = h.objects;
  closures = λ o.
      closures_later layout m m w w1 (counting w turns calls mark) (counting w1 turns calls mark1)
      (scopes_same m w w1 (counting w turns calls mark) (counting w1 turns calls mark1)
      (λ r e is. (h.pairs r e is).live_environment) refl refl refl)
      _ _ (h.closures o);
  symbols = h.symbols;
  globals = h.globals;
  lines = h.lines;
  turns = refl;
  calls = refl;
}

pub agree_counts : (layout : Layout) (m : Matching) (w w1 : World) (turns turns1 calls calls1 mark mark1 : ℕ)
    → turns ≡ turns1 → calls ≡ calls1 → Agree layout m w w1
    → Agree layout m (counting w turns calls mark) (counting w1 turns1 calls1 mark1)
agree_counts layout m w w1 turns turns1 calls calls1 mark mark1 same_turns same_calls h =
    subst (λ n. Agree layout m (counting w turns calls mark) (counting w1 n calls1 mark1)) same_turns
    (subst (λ n. Agree layout m (counting w turns calls mark) (counting w1 turns n mark1)) same_calls
    (agree_counting layout m w w1 turns calls mark mark1 h))
