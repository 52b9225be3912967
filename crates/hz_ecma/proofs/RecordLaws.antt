-- A tree that makes a record stays in agreement: no pair has it, so code need not make an environment.
use Rattle.std.proofs.Common.{◌≡◌, ◌<◌, arith, refl, sym, ap, subst, ℕ, zero, suc, ◌==◌, Bool, true, false}
use Rattle.std.proofs.Common.{if◌then◌else◌, List, ◌∷◌, length, slice_index_or, Some}
use Rattle.std.proofs.lemmas.Bool.{eqb-true, eqb-false}
use Rattle.std.specs.Prelude.{Contains, is_some}
use Rattle.hz_value.specs.world.Objects.{Object, Entries, Kind, Plain, Array, Error, Function, BuiltIn}
use Rattle.hz_value.specs.world.Objects.{Generator}
use Rattle.hz_value.specs.world.Records.{Record, put}
use Rattle.hz_value.specs.world.Valid.{IsLiveBinding, IsValid, IsValidKind, IsValidObject}
use Rattle.hz_value.specs.world.World.{World, with_record}
use Rattle.hz_ecma.specs.agreement.Agreement.{Matching, SameBindings, Agree}
use Rattle.hz_ecma.specs.agreement.Contents.{binding_content}
use Rattle.hz_ecma.specs.agreement.Layouts.{Layout}
use Rattle.hz_ecma.specs.agreement.Replies.{Later, IsQuiet}
use Rattle.hz_ecma.proofs.ScopeLaws.{closures_later}

put_if : {X : Type 0} (f : ℕ → X) (n k : ℕ) (x : X) (b : Bool) → k == n ≡ b → k < n → (if b then x else f k) ≡ f k
put_if f n k x true e lt = absurd (omega (arith, eqb-true k n e, lt))
put_if f n k x false e lt = refl

-- what stands before a place is as it was
pub put_before : {X : Type 0} (f : ℕ → X) (n k : ℕ) (x : X) → k < n → put f n x k ≡ f k
put_before f n k x lt = put_if f n k x (k == n) refl lt

module _ (w : World) (new : Record) where
  old : (r : ℕ) → r < w.record_count → (with_record new w).records r ≡ w.records r
  old r lt = put_before w.records w.record_count r new lt

  pub later_record : Later w (with_record new w)
  later_record = record {
    texts = λ n lt. refl;
    text_count = omega arith;
    symbols = omega arith;
    objects = omega arith;
    arrays = λ o lt is. is;
    record_count = omega arith;
    scopes = λ r lt. ap {A = Record} (λ x. x.scope) (old r lt);
    names = λ r name lt. ap {A = Record} (λ x. is_some (x.bindings name)) (old r lt);
    environment_count = omega arith;
    parents = λ e lt. refl;
    slots = λ e i lt. refl;
  }

  -- it is the activation's own
  pub quiet_record : (layout : Layout) (own : List ℕ) → IsQuiet layout own w (w.record_count ∷ own) (with_record new w)
  quiet_record layout own = record {
    keeps = λ r lt out name slot. ap {A = Record} (λ x. x.bindings name) (old r lt);
    new = λ r lt is. is_old r lt is.0 is.1 is.2;
    live = λ are r is. is_live are r is.0 is.1 is.2;
  }
    where
      is_old : (r : ℕ) → r < w.record_count → (k : ℕ) → k < length (w.record_count ∷ own)
          → slice_index_or (w.record_count ∷ own) k r ≡ r → Contains own r
      is_old r lt zero below is = absurd (omega (arith, lt, is))
      is_old r lt (suc k) below is = (k, omega (arith, below), is)

      is_live : ((r : ℕ) → Contains own r → r < w.record_count) → (r k : ℕ)
          → k < length (w.record_count ∷ own) → slice_index_or (w.record_count ∷ own) k r ≡ r
          → r < suc w.record_count
      is_live are r zero below is = omega (arith, is)
      is_live are r (suc k) below is = omega (arith, are r (k, omega (arith, below), is))

-- ---- validity

kind_record : (w : World) (new : Record) (k : Kind) (elements : Entries) → IsValidKind w k elements
    → IsValidKind (with_record new w) k elements
kind_record w new (Function c) elements h = (λ k d lt. omega (arith, h.0 k d lt), h.1)
kind_record w new (Array n writable) elements h = h
kind_record w new Plain elements h = tt
kind_record w new Error elements h = tt
kind_record w new (BuiltIn routine) elements h = tt
kind_record w new (Generator state n) elements h = tt

object_record : (w : World) (new : Record) (o : Object) → IsValidObject w o → IsValidObject (with_record new w) o
object_record w new o h = record {
  prototype = h.prototype;
  kind = kind_record w new o.kind o.elements h.kind;
  elements = h.elements;
  names = h.names;
  symbols = h.symbols;
}

valid_record : (w : World) (new : Record) → IsValid w
    → ((name : List ℕ) → IsLiveBinding w.store (new.bindings name)) → IsValid (with_record new w)
valid_record w new h live = record {
  texts = h.texts;
  length_text = h.length_text;
  symbols = h.symbols;
  objects = λ k d lt. object_record w new _ (h.objects k d lt);
  no_circle = h.no_circle;
  globals = h.globals;
  records = λ r name lt. binding_live (r == w.record_count) r name refl lt;
  slots = h.slots;
  parents = h.parents;
}
  where
    binding_live : (b : Bool) (r : ℕ) (name : List ℕ) → r == w.record_count ≡ b → r < suc w.record_count
        → IsLiveBinding w.store ((if b then new else w.records r).bindings name)
    binding_live true r name e lt = live name
    binding_live false r name e lt = h.records r name (omega (arith, lt, eqb-false r w.record_count e))

-- ---- agreement

bindings_record : (layout : Layout) (w w1 : World) (new : Record) (r e : ℕ) → SameBindings layout w w1 r e
    → SameBindings layout (with_record new w) w1 r e
bindings_record layout w w1 new r e h = record {
  live = omega (arith, h.live);
  live_environment = h.live_environment;
  slots = subst (λ x. (n : ℕ) × (layout.count x.scope ≡ Some n)) (sym (old w new r h.live)) h.slots;
  same = subst (λ x. (name : List ℕ) (i : ℕ) → layout.slot x.scope name ≡ Some i
      → binding_content w.store (x.bindings name) ≡ binding_content w1.store ((w1.environments e).slots i))
      (sym (old w new r h.live)) h.same;
}

pub agree_record : (layout : Layout) (m : Matching) (w w1 : World) (new : Record)
    → ((name : List ℕ) → IsLiveBinding w.store (new.bindings name)) → Agree layout m w w1
    → Agree layout m (with_record new w) w1
agree_record layout m w w1 new live h = record {
  valid = valid_record w new h.valid live;
  valid_other = h.valid_other;
  start = h.start;
  start_other = h.start_other;
  pairs = λ r e is. bindings_record layout w w1 new r e (h.pairs r e is);
  one_environment = h.one_environment;
  one_record = h.one_record;
  objects = h.objects;
  closures = λ o.
      closures_later layout m m w w1 (with_record new w) w1
      (record {
        larger = record { has = λ r e is. is };
        live = λ r e is. (h.pairs r e is).live_environment;
        record_count = omega arith;
        scopes = (later_record w new).scopes;
        names = (later_record w new).names;
        parents = λ e lt. refl;
      })
      _ _ (h.closures o);
  symbols = h.symbols;
  globals = h.globals;
  lines = h.lines;
  turns = h.turns;
  calls = h.calls;
}
