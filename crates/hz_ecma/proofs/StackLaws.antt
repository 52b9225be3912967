-- Activations that wait on both sides, one below the other, wait still behind what the others do.
use Rattle.std.proofs.Common.{◌≡◌, ◌<◌, ◌≤◌, arith, ℕ, suc, List, [], ◌∷◌}
use Rattle.std.specs.Prelude.{Contains, ⊤}
use Rattle.hz_value.specs.system.Acts.{Reply, IsCompletion}
use Rattle.hz_value.specs.system.System.{Meaning, Frame, Source, Role, Resumed}
use Rattle.hz_value.specs.world.World.{World}
use Rattle.hz_ecma.specs.agreement.Agreement.{Matching}
use Rattle.hz_ecma.specs.agreement.Layouts.{Layout}
use Rattle.hz_ecma.specs.agreement.Replies.{SameReply, Allowed}
use Rattle.hz_ecma.specs.agreement.Same.{Simulates}
use Rattle.hz_ecma.specs.evaluator.Activations.{Activation}
use Rattle.hz_ecma.specs.evaluator.Steps.{tree_answered}
use Rattle.hz_ecma.proofs.OnwardLaws.{Grown, grown_less, grown_trans, Owns}
use Rattle.hz_ecma.proofs.SameLaws.{fewer}

-- no generator was resumed
abbrev pub IsStanding : Role → Type 0
IsStanding (Resumed g) = ⊥
IsStanding role = ⊤

module _ (T : Type 0) (other : Meaning T) (layout : Layout) where
  -- It did its act in the worlds `from`, and waits in w and w1. Its own records are those from `low` to `high`.
  pub record Waits (n : ℕ) (m : Matching) (w w1 : World) (low high : ℕ) (a : Activation) (t : T) : Type 0 where
    pub before : Matching
    pub from : World
    pub other_from : World
    pub grown : Grown layout high before from other_from m w w1
    pub order : low ≤ high
    pub own : (r : ℕ) → Contains a.own r → (low ≤ r) × (r < high)
    pub back : (c c1 : Reply) (m2 : Matching) (w2 w3 : World) → IsCompletion c → SameReply w2.store w3.store c c1
        → Allowed layout a.own before from other_from m2 w2 w3
        → Simulates T other layout n m2 (tree_answered a c) w2 (other.answered t c1) w3

  -- the innermost first; the records of all lie below `high`
  abbrev pub Stack : ℕ → Matching → World → World → ℕ → List (Frame Activation) → List (Frame T) → Type 0
  Stack n m w w1 high [] [] = ⊤
  Stack n m w w1 high (Source role a ∷ fs) (Source role1 t ∷ fs1) =
      (low : ℕ) × (role ≡ role1) × IsStanding role × Waits n m w w1 low high a t × Stack n m w w1 low fs fs1
  Stack n m w w1 high fs fs1 = ⊥

  waits_grown : (n : ℕ) (m m2 : Matching) (w w1 w2 w3 : World) (low high : ℕ) (a : Activation) (t : T)
      → Waits n m w w1 low high a t → Grown layout high m w w1 m2 w2 w3 → Waits n m2 w2 w3 low high a t
  waits_grown n m m2 w w1 w2 w3 low high a t h g = record {
    before = h.before;
    from = h.from;
    other_from = h.other_from;
    grown = grown_trans layout high h.before m m2 h.from h.other_from w w1 w2 w3 h.grown g;
    order = h.order;
    own = h.own;
    back = h.back;
  }

  pub stack_grown : (n : ℕ) (m m2 : Matching) (w w1 w2 w3 : World) (high : ℕ) (fs : List (Frame Activation))
      (fs1 : List (Frame T)) → Stack n m w w1 high fs fs1 → Grown layout high m w w1 m2 w2 w3
      → Stack n m2 w2 w3 high fs fs1
  stack_grown n m m2 w w1 w2 w3 high [] [] h g = tt
  stack_grown n m m2 w w1 w2 w3 high (Source role a ∷ fs) (Source role1 t ∷ fs1) h g = (
    h.0,
    h.1,
    h.2,
    waits_grown n m m2 w w1 w2 w3 h.0 high a t h.3 g,
    stack_grown n m m2 w w1 w2 w3 h.0 fs fs1 h.4 (grown_less layout h.0 high m m2 w w1 w2 w3 h.3.order g),
  )
  stack_grown n m m2 w w1 w2 w3 high fs fs1 h g = absurd h

  pub stack_fewer : (n : ℕ) (m : Matching) (w w1 : World) (high : ℕ) (fs : List (Frame Activation))
      (fs1 : List (Frame T)) → Stack (suc n) m w w1 high fs fs1 → Stack n m w w1 high fs fs1
  stack_fewer n m w w1 high [] [] h = tt
  stack_fewer n m w w1 high (Source role a ∷ fs) (Source role1 t ∷ fs1) h = (
    h.0,
    h.1,
    h.2,
    record {
      before = h.3.before;
      from = h.3.from;
      other_from = h.3.other_from;
      grown = h.3.grown;
      order = h.3.order;
      own = h.3.own;
      back = λ c c1 m2 w2 w3 is same allowed.
          fewer T other layout n m2 _ w2 _ w3 (h.3.back c c1 m2 w2 w3 is same allowed);
    },
    stack_fewer n m w w1 h.0 fs fs1 h.4,
  )
  stack_fewer n m w w1 high fs fs1 h = absurd h

  -- the innermost goes on with a reply, and owns what it did
  pub waits_back : (n : ℕ) (m : Matching) (w w1 : World) (low high : ℕ) (a : Activation) (t : T) (c c1 : Reply)
      → Waits n m w w1 low high a t → IsCompletion c → SameReply w.store w1.store c c1
      → Simulates T other layout n m (tree_answered a c) w (other.answered t c1) w1
  waits_back n m w w1 low high a t c c1 h is same =
      h.back c c1 m w w1 is same (record {
        larger = h.grown.larger;
        agree = h.grown.agree;
        later = h.grown.later;
        later_other = h.grown.later_other;
        turns = h.grown.turns;
        keeps = λ r in_own. h.grown.keeps r (h.own r in_own).1;
      })

  pub waits_owns : (n : ℕ) (m : Matching) (w w1 : World) (low high : ℕ) (a : Activation) (t : T)
      → Waits n m w w1 low high a t → Owns low w a.own
  waits_owns n m w w1 low high a t h = record {
    low_is_live = omega (arith, h.order, h.grown.below, h.grown.later.record_count);
    above = λ r is. (h.own r is).0;
    live = λ r is. omega (arith, (h.own r is).1, h.grown.below, h.grown.later.record_count);
  }
