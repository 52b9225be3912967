-- Built-in functions as the machine runs them.
use Rattle.std.specs.Prelude.{◌≡◌, ℕ, Bool, ◌==◌, ◌&&◌, is_none, List, map, Result, Ok, Err, IfOk}
use Rattle.hz_value.specs.declared.values.Value.{Value}
use Rattle.hz_value.specs.operators.Computed.{Computed, Gives}
use Rattle.hz_value.specs.operators.Conversions.{to_text}
use Rattle.hz_value.specs.world.Start.{readline_routine}
use Rattle.hz_value.specs.world.Store.{Store, content_of}
use Rattle.hz_value.specs.world.World.{World, Line}
use Rattle.hz_value.specs.system.Acts as act
use Rattle.hz_value.specs.system.Routines.{RoutineActivation, text_or_empty}
use Rattle.hz_operators.specs.declared.halt.Halt.{Halt}
use Rattle.hz_operators.specs.Outcomes.{halted}
use Rattle.hz_machine.specs.declared.routine.RoutineAct.{RoutineAct}
use Rattle.hz_machine.specs.declared.routine.RoutineAct.TheVariants.{Go, Print, Return, Throw, Leave}
use Rattle.hz_machine.specs.Kept.{KeptWorld, world_of}

abbrev pub texts_of : Store → List Value → List (List ℕ)
texts_of s values = map (λ v. text_or_empty (to_text (content_of s v))) values

-- there is a text, or it halted for this cause
abbrev pub HasText : Result (Unit {0}) Halt → Computed (List ℕ) → Type 0
HasText (Ok done) found = found ≡ Gives (text_or_empty found)
HasText (Err cause) found = found ≡ halted cause

abbrev pub next_of_routine : RoutineAct → RoutineActivation → World → act.Next RoutineActivation
next_of_routine Go r w = act.Goes r w
next_of_routine (Print line) r w = act.Does (act.Print line.items) r w
next_of_routine (Return v) r w = act.Does (act.Return v) r w
next_of_routine (Throw v) r w = act.Does (act.Throw v) r w
next_of_routine (Leave reason) r w = act.Does (act.Leave reason) r w

-- whatever lines are to be read, the act is that of this step
abbrev pub FollowsRoutine : {E : Type 0} → Result RoutineAct E → RoutineActivation → KeptWorld →
    (List Line → act.Next RoutineActivation) → Type 0
FollowsRoutine result r k step =
    IfOk result (λ a. (lines : List Line) → next_of_routine a r (world_of lines k) ≡ step lines)

-- it is `readline`, and no line came back yet
abbrev pub wants_line : RoutineActivation → Bool
wants_line r = r.routine == readline_routine && is_none r.reply
