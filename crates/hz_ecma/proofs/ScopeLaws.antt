-- Records and an environment that stand for scopes stand for them later too.
use Rattle.std.proofs.Common.{◌≡◌, ◌<◌, ◌≤◌, arith, refl, sym, ap, subst, ◌∙◌, ℕ, List, [], ◌∷◌, Option, Some}
use Rattle.std.proofs.Common.{None, false}
use Rattle.std.specs.Prelude.{is_some}
use Rattle.hz_value.specs.world.Objects.{Kind, Function}
use Rattle.hz_value.specs.world.Records.{Scope, Binding, Record, Environment}
use Rattle.hz_value.specs.world.World.{World, binding}
use Rattle.hz_ecma.specs.agreement.Agreement.{Matching, Matched, IsLarger, Passes, Stands, SameClosures}
use Rattle.hz_ecma.specs.agreement.Layouts.{Layout}

-- what records and environments keep from the worlds w and w1 to the worlds w2 and w3
pub record ScopesStay (m m2 : Matching) (w w1 w2 w3 : World) : Type 0 where
  pub larger : IsLarger m m2
  pub live : (r e : ℕ) → Matched m r e → e < w1.environment_count
  pub record_count : w.record_count ≤ w2.record_count
  pub scopes : (r : ℕ) → r < w.record_count → (w2.records r).scope ≡ (w.records r).scope
  pub names : (r : ℕ) (name : List ℕ) → r < w.record_count
      → is_some (binding w2 r name) ≡ is_some (binding w r name)
  pub parents : (e : ℕ) → e < w1.environment_count → (w3.environments e).parent ≡ (w1.environments e).parent

none_still : (b : Option Binding) → is_some b ≡ false → b ≡ None
none_still None e = refl
none_still (Some x) e = absurd (cc)

module _ (layout : Layout) (m m2 : Matching) (w w1 w2 w3 : World) (h : ScopesStay m m2 w w1 w2 w3) where
  passes_later : (rest rest1 : Option ℕ → Type 0) (r : ℕ) (e n : Option ℕ)
      → ((e1 : Option ℕ) → rest e1 → rest1 e1) → Passes m w1 n rest r e → Passes m2 w3 n rest1 r e
  passes_later rest rest1 r e None go k = go e k
  passes_later rest rest1 r e (Some n) go k = (
    k.0,
    k.1,
    h.larger.has r k.0 k.2,
    subst rest1 (sym (h.parents k.0 (h.live r k.0 k.2))) (go (w1.environments k.0).parent k.3),
  )

  pub stands_later : (ss : List Scope) (rs : List ℕ) (top top1 : ℕ) (e : Option ℕ) → top ≤ w.record_count
      → top ≤ top1 → Stands layout m w w1 ss rs top e → Stands layout m2 w2 w3 ss rs top1 e
  stands_later [] [] top top1 e le le1 k = tt
  stands_later (s ∷ ss) (r ∷ rs) top top1 e le le1 k = record {
    live = omega (arith, k.live, le1);
    scope = h.scopes r (omega (arith, k.live, le)) ∙ k.scope;
    absent = λ name is.
        none_still (binding w2 r name)
        (h.names r name (omega (arith, k.live, le)) ∙ ap (λ b. is_some b) (k.absent name is));
    next = passes_later _ _ r e (layout.count s)
        (λ e1 k1. stands_later ss rs r r e1 (omega (arith, k.live, le)) (omega arith) k1) k.next;
  }
  stands_later [] (r ∷ rs) top top1 e le le1 k = k
  stands_later (s ∷ ss) [] top top1 e le le1 k = k

  pub closures_later : (c c1 : Kind) → SameClosures layout m w w1 c c1 → SameClosures layout m2 w2 w3 c c1
  closures_later (Function c) (Function c1) k =
      stands_later (layout.around c.function) c.records w.record_count w2.record_count c1.environment (omega arith)
      h.record_count k
  closures_later c c1 k = tt

-- where records and environments are the same
pub scopes_same : (m : Matching) (w w1 w2 w3 : World) → ((r e : ℕ) → Matched m r e → e < w1.environment_count)
    → w2.records ≡ w.records → w2.record_count ≡ w.record_count → w3.environments ≡ w1.environments
    → ScopesStay m m w w1 w2 w3
scopes_same m w w1 w2 w3 live records count environments = record {
  larger = record { has = λ r e is. is };
  live = live;
  record_count = omega (arith, count);
  scopes = λ r lt. ap {A = ℕ → Record} (λ rs. (rs r).scope) records;
  names = λ r name lt. ap {A = ℕ → Record} (λ rs. is_some ((rs r).bindings name)) records;
  parents = λ e lt. ap {A = ℕ → Environment} (λ es. (es e).parent) environments;
}
