-- The way of an activation to its next act, in the system.
use Rattle.std.proofs.Common.{◌≡◌, ◌≤◌, arith, refl, ap, subst, ◌∙◌, ℕ, zero, suc, List, Option}
use Rattle.hz_value.specs.system.Acts.{Act, Next, Goes, Does, go_on, run}
use Rattle.hz_value.specs.system.Acts.{next_map}
use Rattle.hz_value.specs.system.Runs.{after, world_behind}
use Rattle.hz_value.specs.system.Step.{acted, moved}
use Rattle.hz_value.specs.system.System.{Meaning, Frame, Source, Role, Event, State, Running, System}
use Rattle.hz_value.specs.world.World.{World}
use Rattle.hz_ecma.specs.evaluator.Activations.{Activation}
use Rattle.hz_ecma.specs.evaluator.Steps.{tree_step}
use Rattle.hz_ecma.proofs.FunctionLaws.{NoneMade, none_made, none_made_trans}
use Rattle.hz_ecma.proofs.StepLaws.{IsPlain, step_plain, step_made, step_turns}

-- ---- what is known of a tree's act

pub record Plain (w : World) (next : Next Activation) : Type 0 where
  pub act : IsPlain next
  pub turns : (world_behind next).turns ≤ w.turns
  pub made : NoneMade w.store.objects (world_behind next).store.objects

ran_on : (n : ℕ) (w : World) (next : Next Activation) → Plain w next
    → ((a : Activation) (w1 : World) → Plain w1 (run tree_step n a w1)) → Plain w (go_on (run tree_step n) next)
ran_on n w (Goes a w1) h more = record {
  act = (more a w1).act;
  turns = omega (arith, h.turns, (more a w1).turns);
  made = none_made_trans w.store.objects w1.store.objects (world_behind (run tree_step n a w1)).store.objects h.made
      (more a w1).made;
}
ran_on n w (Does act a w1) h more = h

ran : (n : ℕ) (a : Activation) (w : World) → Plain w (run tree_step n a w)
ran zero a w = record { act = tt; turns = omega arith; made = none_made w.store.objects }
ran (suc n) a w =
    ran_on n w (tree_step a w) (record { act = step_plain a w; turns = step_turns a w; made = step_made a w })
    (λ a1 w1. ran n a1 w1)

pub act_plain : (n : ℕ) (a a1 : Activation) (w w1 : World) (act : Act) → run tree_step n a w ≡ Does act a1 w1
    → Plain w (Does act a1 w1)
act_plain n a a1 w w1 act e = subst (Plain w) e (ran n a w)

-- ---- in the system

abbrev pub system : {A : Type 0} → World → List Event → List (Option A) → State A → System A
system w es suspended state = record { world = w; events = es; suspended = suspended; state = state }

-- so many steps on, the system does the act
pub record Lifted {A : Type 0} (m : Meaning A) (s : System A) (role : Role) (a : A) (below : List (Frame A)) (w : World)
    (act : Act) : Type 0 where
  pub steps : ℕ
  pub place : ℕ
  pub before : System A
  pub events : before.events ≡ s.events
  pub is : after m (suc steps) s ≡ acted m before place (Source role a) below w act

module _ (A : Type 0) (m : Meaning A) (role : Role) (below : List (Frame A)) (es : List Event)
    (suspended : List (Option A)) where
  abbrev at : A → World → System A
  at a w = system w es suspended (Running (Source role a) below)

  lifted_on : (n : ℕ) (a a1 : A) (w w1 : World) (act : Act) (next : Next A) → m.step a w ≡ next
      → go_on (run m.step n) next ≡ Does act a1 w1
      → ((a2 : A) (w2 : World) → run m.step n a2 w2 ≡ Does act a1 w1 → Lifted m (at a2 w2) role a1 below w1 act)
      → Lifted m (at a w) role a1 below w1 act
  lifted_on n a a1 w w1 act (Goes a2 w2) is e more = record {
    steps = suc (more a2 w2 e).steps;
    place = (more a2 w2 e).place;
    before = (more a2 w2 e).before;
    events = (more a2 w2 e).events;
    is = ap (λ x. after m (suc (more a2 w2 e).steps)
        (moved m (at a w) (m.statement a) below (next_map (Source role) x))) is
        ∙ (more a2 w2 e).is;
  }
  lifted_on n a a1 w w1 act (Does act2 a2 w2) is e more = record {
    steps = 0;
    place = m.statement a;
    before = at a w;
    events = refl;
    is = ap (λ x. moved m (at a w) (m.statement a) below (next_map (Source role) x)) (is ∙ e);
  }

  pub lifted : (n : ℕ) (a a1 : A) (w w1 : World) (act : Act) → run m.step n a w ≡ Does act a1 w1
      → Lifted m (at a w) role a1 below w1 act
  lifted zero a a1 w w1 act e = absurd (cc)
  lifted (suc n) a a1 w w1 act e =
      lifted_on n a a1 w w1 act (m.step a w) refl e (λ a2 w2 e2. lifted n a2 a1 w2 w1 act e2)
