-- Where the code of each function of a source does what its tree does, the runs over both end alike.
use Rattle.std.proofs.Common.{◌≡◌, ◌<◌, arith, refl, sym, subst, ◌∙◌, ℕ, zero, suc, List, [], Option}
use Rattle.hz_value.specs.system.Acts.{Act, Does}
use Rattle.hz_value.specs.system.Runs.{start, after}
use Rattle.hz_value.specs.system.Step.{acted}
use Rattle.hz_value.specs.system.System.{Meaning, Ending, Ended, Running, Frame, Source, Role, Script, Event, System}
use Rattle.hz_value.specs.system.System.{statement_in_hand}
use Rattle.hz_value.specs.world.Objects.{Function, Closure}
use Rattle.hz_value.specs.world.Start.{world0, objects0}
use Rattle.hz_value.specs.world.World.{World, Line}
use Rattle.hz_ecma.specs.agreement.Agreement.{Matching}
use Rattle.hz_ecma.specs.agreement.Correct.{CorrectScript, Correct, CorrectSource}
use Rattle.hz_ecma.specs.agreement.Endings.{EndedAlike, EndAlike}
use Rattle.hz_ecma.specs.agreement.Layouts.{Layout}
use Rattle.hz_ecma.specs.agreement.Same.{Same, Meet}
use Rattle.hz_ecma.specs.evaluator.Activations.{Activation}
use Rattle.hz_ecma.specs.evaluator.Steps.{Trees, script_activation, tree_meaning}
use Rattle.hz_ecma.specs.runs.Outcomes.{tree_start}
use Rattle.hz_ecma.proofs.ActLaws.{act_moved}
use Rattle.hz_ecma.proofs.AgreeLaws.{starts_agree}
use Rattle.hz_ecma.proofs.EndLaws.{Moved, Lives, Stops, Ahead, ends_to}
use Rattle.hz_ecma.proofs.FunctionLaws.{kind_at, AreKnown, known_later}
use Rattle.hz_ecma.proofs.LiftLaws.{Plain, act_plain, system, Lifted, lifted}
use Rattle.hz_ecma.proofs.OnwardLaws.{Owns, owns_nothing, owns_then, grown_then}
use Rattle.hz_ecma.proofs.StackLaws.{IsStanding, Stack, stack_grown, stack_fewer}
use Rattle.hz_ecma.proofs.SystemLaws.{Alive, InSource, InRoutine, Comes, routine_moved}

known_at_start : (count : ℕ) → AreKnown count objects0
known_at_start count = record { by = at }
  where
    at : (o : ℕ) (c : Closure) → kind_at objects0 o ≡ Function c → (0 < c.function) × (c.function < count)
    at zero c e = absurd (cc)
    at (suc zero) c e = absurd (cc)
    at (suc (suc zero)) c e = absurd (cc)
    at (suc (suc (suc zero))) c e = absurd (cc)
    at (suc (suc (suc (suc zero)))) c e = absurd (cc)
    at (suc (suc (suc (suc (suc zero))))) c e = absurd (cc)
    at (suc (suc (suc (suc (suc (suc zero)))))) c e = absurd (cc)
    at (suc (suc (suc (suc (suc (suc (suc o))))))) c e = absurd (cc)

module _ (T : Type 0) (other : Meaning T) (layout : Layout) (trees : Trees) (count : ℕ)
    (functions : (k : ℕ) → 0 < k → k < count → Correct T other layout trees k) where
  abbrev Steps : ℕ → System Activation → System T → Type 0
  Steps n s s1 = Ahead (tree_meaning trees) other (λ x y. Comes T other layout trees count n x y) s s1

  lifted_both : (n : ℕ) (s : System Activation) (s1 : System T) (role : Role) (a : Activation) (t : T)
      (fs : List (Frame Activation)) (fs1 : List (Frame T)) (w w1 : World) (act act1 : Act)
      → Lifted (tree_meaning trees) s role a fs w act → Lifted other s1 role t fs1 w1 act1
      → ((x : System Activation) (y : System T) (place place1 : ℕ) → x.events ≡ s.events → y.events ≡ s1.events
      → Comes T other layout trees count n (acted (tree_meaning trees) x place (Source role a) fs w act)
      (acted other y place1 (Source role t) fs1 w1 act1))
      → Steps n s s1
  lifted_both n s s1 role a t fs fs1 w w1 act act1 h k go = record {
    steps = h.steps;
    other_steps = k.steps;
    is = subst (λ x. Comes T other layout trees count n x (after other (suc k.steps) s1)) (sym h.is)
        (subst (λ y. Comes T other layout trees count n
        (acted (tree_meaning trees) h.before h.place (Source role a) fs w act) y) (sym k.is)
        (go h.before k.before h.place k.place h.events k.events));
  }

  -- a function of the source comes to its act, and the system does it
  source_moved : (n : ℕ) (w w1 : World) (es es1 : List Event) (ss : List (Option Activation)) (ss1 : List (Option T))
      (role : Role) (a : Activation) (t : T) (fs : List (Frame Activation)) (fs1 : List (Frame T)) (m : Matching)
      (low : ℕ) → es ≡ es1 → AreKnown count w.store.objects → IsStanding role → Owns low w a.own
      → Stack T other layout (suc n) m w w1 low fs fs1
      → Meet T other layout (Same T other layout n) m a w t w1
      → Steps n (system w es ss (Running (Source role a) fs)) (system w1 es1 ss1 (Running (Source role t) fs1))
  source_moved n w w1 es es1 ss ss1 role a t fs fs1 m low events known standing owns stack meet =
      let w2 : World = meet.tree_world in
      let w3 : World = meet.other_world in
      let plain : Plain w (Does meet.act meet.tree_then w2) =
      act_plain meet.tree.steps a meet.tree_then w w2 meet.act meet.tree.by in
      let own : List ℕ = meet.tree_then.own in
      lifted_both n (system w es ss (Running (Source role a) fs)) (system w1 es1 ss1 (Running (Source role t) fs1)) role
      meet.tree_then meet.other_then fs fs1 w2 w3 meet.act meet.other_act
      (lifted Activation (tree_meaning trees) role fs es ss meet.tree.steps a meet.tree_then w w2 meet.act meet.tree.by)
      (lifted T other role fs1 es1 ss1 meet.code.steps t meet.other_then w1 w3 meet.other_act meet.code.by)
      (λ x y place place1 e e1.
      act_moved T other layout trees count functions n x y role standing w2 w3 meet.tree_then meet.other_then fs fs1
      meet.matching low place place1 (e ∙ events ∙ sym e1)
      (known_later count w.store.objects w2.store.objects known plain.made) meet.agree
      (owns_then layout low a.own own w w2 owns meet.later meet.quiet)
      (stack_grown T other layout n m meet.matching w w1 w2 w3 low fs fs1
      (stack_fewer T other layout n m w w1 low fs fs1 stack)
      (grown_then layout low a.own own w w2 owns meet.later meet.quiet m meet.matching w1 w3 meet.larger meet.agree
      meet.later_other plain.turns))
      meet.act meet.other_act plain.act meet.same meet.behind)

  advance : (n : ℕ) (s : System Activation) (s1 : System T) → Alive T other layout trees count (suc n) s s1
      → Steps n s s1
  advance n s s1 (InSource w w1 es es1 ss ss1 role a t fs fs1 m low events known standing owns stack sim) =
      source_moved n w w1 es es1 ss ss1 role a t fs fs1 m low events known standing owns stack sim.is
  advance n s s1 (InRoutine w w1 es es1 ss ss1 role r r1 fs fs1 m low events known standing le agree same stack) =
      record {
        steps = 0;
        other_steps = 0;
        is = routine_moved T other layout trees count n s s1 w w1 role r r1 fs fs1 m low
            (statement_in_hand (tree_meaning trees) fs) (statement_in_hand other fs1) events known standing le agree
            same (stack_fewer T other layout n m w w1 low fs fs1 stack);
      }

  tree_runs : (n : ℕ) (s : System Activation) (s1 : System T) (e : Ending) → Alive T other layout trees count n s s1
      → s.state ≡ Ended e → ⊥
  tree_runs n s s1 e (InSource w w1 es es1 ss ss1 role a t fs fs1 m low e1 known standing owns h sim) is =
      absurd (cc)
  tree_runs n s s1 e (InRoutine w w1 es es1 ss ss1 role r r1 fs fs1 m low e1 known standing le agree same h) is =
      absurd (cc)

  other_runs : (n : ℕ) (s1 : System T) (s : System Activation) (e : Ending) → Alive T other layout trees count n s s1
      → s1.state ≡ Ended e → ⊥
  other_runs n s1 s e (InSource w w1 es es1 ss ss1 role a t fs fs1 m low e1 known standing owns h sim) is =
      absurd (cc)
  other_runs n s1 s e (InRoutine w w1 es es1 ss ss1 role r r1 fs fs1 m low e1 known standing le agree same h) is =
      absurd (cc)

  abbrev Turned : ℕ → System T → System Activation → Type 0
  Turned n s1 s = Moved (λ k y x. Alive T other layout trees count k x y) (λ y x. EndedAlike layout x y) n s1 s

  turned_round : (n : ℕ) (s : System Activation) (s1 : System T) → Comes T other layout trees count n s s1
      → Turned n s1 s
  turned_round n s s1 (Lives h) = Lives h
  turned_round n s s1 (Stops h) = Stops h

  advance_round : (n : ℕ) (s1 : System T) (s : System Activation) → Alive T other layout trees count (suc n) s s1
      → Ahead other (tree_meaning trees) (λ y x. Turned n y x) s1 s
  advance_round n s1 s h =
      let k : Steps n s s1 = advance n s s1 h in
      record { steps = k.other_steps; other_steps = k.steps; is = turned_round n _ _ k.is }

  begins : (script : T) (lines : List Line) (turns n : ℕ) → CorrectScript T other layout trees script
      → Alive T other layout trees count n (tree_start trees lines turns) (start script (world0 lines turns))
  begins script lines turns n h =
      let w : World = world0 lines turns in
      InSource w w [] [] [] [] Script (script_activation trees) script [] [] [] 0 refl (known_at_start count) tt
      (owns_nothing 0 w (omega arith)) tt (h.by n [] w w (starts_agree layout lines turns))

  alike : (script : T) (lines : List Line) (turns : ℕ) → CorrectScript T other layout trees script
      → EndAlike layout (tree_meaning trees) other (tree_start trees lines turns) (start script (world0 lines turns))
  alike script lines turns h = record {
    to = λ n e is.
        ends_to Activation T (tree_meaning trees) other (λ k x y. Alive T other layout trees count k x y)
        (λ x y. EndedAlike layout x y) tree_runs (λ x y k. (k.ending, k.state)) advance n n
        (tree_start trees lines turns) (start script (world0 lines turns)) e (omega arith)
        (begins script lines turns n h) is;
    from = λ n e is.
        ends_to T Activation other (tree_meaning trees) (λ k y x. Alive T other layout trees count k x y)
        (λ y x. EndedAlike layout x y) other_runs (λ y x k. (k.other_ending, k.other_state)) advance_round n n
        (start script (world0 lines turns)) (tree_start trees lines turns) e (omega arith)
        (begins script lines turns n h) is;
  }

pub runs_end_alike : (T : Type 0) (other : Meaning T) (layout : Layout) (trees : Trees) (count : ℕ) (script : T)
    (lines : List Line) (turns : ℕ) → CorrectSource T other layout trees count script
    → EndAlike layout (tree_meaning trees) other (tree_start trees lines turns) (start script (world0 lines turns))
runs_end_alike T other layout trees count script lines turns h =
    alike T other layout trees count h.of_functions script lines turns h.of_script
