-- A run that asks for a line.
use Rattle.std.proofs.Common.{◌≡◌, ℕ, Bool, true, false, not, List, Option, Some, None, refl, sym, subst}
use Rattle.std.specs.Prelude.{Result, Ok, Err, IfOk, is_none, is_some}
use Rattle.hz_value.specs.system.Routines.{RoutineActivation}
use Rattle.hz_ops.specs.code.Activations.{Program, Activation}
use Rattle.hz_machine.specs.declared.machine.Answer.{Answer}
use Rattle.hz_machine.specs.declared.machine.Answer.TheVariants as answer
use Rattle.hz_machine.specs.declared.machine.Status.{Status}
use Rattle.hz_machine.specs.declared.machine.Status.TheVariants as status
use Rattle.hz_machine.specs.Kept.{KeptWorld}
use Rattle.hz_machine.specs.Machines.{RunState, Steps, Proceeds, Asks, Reads, IsRunning, running, is_waiting}
use Rattle.hz_machine.specs.Machines.{machine_of, lines_before, lines_behind}

-- a step that was taken is what came of it
proceeds : (p : Program) (old : RunState) (a : Answer) (new : RunState) → Steps p old a new → Proceeds p old a new
proceeds p old answer.WantLine new h = absurd h.tells
proceeds p old a new h = h

pub proceeds_ok : {E : Type 0} (result : Result Answer E) (p : Program) (old new : RunState) →
    IfOk result (λ a. Steps p old a new) → IfOk result (λ a. Proceeds p old a new)
proceeds_ok (Ok a) p old new h = proceeds p old a new h
proceeds_ok (Err e) p old new h = tt

waiting_is : (s : Status) → is_waiting s ≡ true → s ≡ status.Waiting
waiting_is status.Waiting e = refl
waiting_is status.Running e = absurd (cc)
waiting_is (status.Ended x) e = absurd (cc)
waiting_is status.Failed e = absurd (cc)

ended_is : (text : Option (List ℕ)) (b : Bool) → is_some text ≡ not b → b ≡ is_none text
ended_is (Some t) true e = absurd (cc)
ended_is (Some t) false e = refl
ended_is None true e = refl
ended_is None false e = absurd (cc)

runs : (a : Activation) (r : Option RoutineActivation) → IsRunning (running a r)
runs a None = tt
runs a (Some r) = tt

-- a machine that waits reads the line
pub line_read : (text : Option (List ℕ)) (k k1 : KeptWorld) (a : Activation) (r r1 : Option RoutineActivation)
    (s : Status) (b b1 : Bool) → is_waiting s ≡ true → is_some text ≡ not b1 →
    Asks (lines_before text) (lines_behind text) (machine_of k a r status.Waiting) (machine_of k1 a r1 status.Running) →
    Reads text (record { run = machine_of k a r s; at_end = b })
    (record { run = machine_of k1 a r1 status.Running; at_end = b1 })
line_read text k k1 a r r1 s b b1 waits ended asks = record {
  run = subst (λ x. Asks (lines_before text) (lines_behind text) (machine_of k a r x)
      (machine_of k1 a r1 status.Running)) (sym (waiting_is s waits)) asks;
  goes_on = runs a r1;
  at_end = ended_is text b1 ended;
}
