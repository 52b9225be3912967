-- The machine as the system over the meaning of code.
use Rattle.std.specs.Prelude.{◌≡◌, ℕ, Bool, true, false, List, [], ◌∷◌, ◌++◌, Option, Some, None, option_map, is_none}
use Rattle.std.specs.Prelude.{◌==◌, if◌then◌else◌, ⊤}
use Rattle.hz_value.specs.declared.leaving.Left.TheVariants.{LongLine}
use Rattle.hz_value.specs.declared.values.Value.{Value}
use Rattle.hz_value.specs.declared.values.Value.TheVariants as value
use Rattle.hz_value.specs.operators.Contents.{Text}
use Rattle.hz_value.specs.world.Start.{readline_routine, world0}
use Rattle.hz_value.specs.world.Store.{value_of, with_text}
use Rattle.hz_value.specs.world.World.{Line, Units, TooLong}
use Rattle.hz_value.specs.system.Acts.{WantLine, Does, next_map}
use Rattle.hz_value.specs.system.Routines.{RoutineActivation, entered}
use Rattle.hz_value.specs.system.System as system
use Rattle.hz_value.specs.system.Step.{system_step, moved, call_to}
use Rattle.hz_ops.specs.code.Activations.{Program, Activation, code_script}
use Rattle.hz_ops.specs.code.Steps.{code_meaning, code_start}
use Rattle.hz_machine.specs.declared.act.Act.{Act}
use Rattle.hz_machine.specs.declared.act.Act.TheVariants as act
use Rattle.hz_machine.specs.declared.routine.RoutineAct.{RoutineAct}
use Rattle.hz_machine.specs.declared.machine.Ending.{Ending}
use Rattle.hz_machine.specs.declared.machine.Ending.TheVariants as ending
use Rattle.hz_machine.specs.declared.machine.Answer.{Answer}
use Rattle.hz_machine.specs.declared.machine.Answer.TheVariants as answer
use Rattle.hz_machine.specs.declared.machine.Status.{Status}
use Rattle.hz_machine.specs.declared.machine.Status.TheVariants as status
use Rattle.hz_machine.specs.Frames.{next_of}
use Rattle.hz_machine.specs.Routines.{next_of_routine}
use Rattle.hz_machine.specs.Kept.{KeptWorld, world_of, store_of}

abbrev pub ending_of : Ending → system.Ending
ending_of ending.Done = system.Done
ending_of (ending.Uncaught v) = system.Uncaught v
ending_of (ending.Left reason) = system.LeftFor reason
ending_of ending.TurnsSpent = system.TurnsSpent
ending_of ending.BadCode = system.BadCode

-- the script runs, or a built-in function that it called
abbrev pub running : Activation → Option RoutineActivation → system.State Activation
running a None = system.Running (system.Source system.Script a) []
running a (Some r) = system.Running (system.Routine system.Called r) (system.Source system.Script a ∷ [])

-- what asked for a line: it is `readline`, and none came back
abbrev pub asking : Option RoutineActivation → RoutineActivation
asking (Some r) = record r { routine = readline_routine; reply = None }
asking None = entered readline_routine []

abbrev pub state_of : Status → Activation → Option RoutineActivation → system.State Activation
state_of (status.Ended e) a r = system.Ended (ending_of e)
state_of status.Running a r = running a r
state_of status.Waiting a r = running a (Some (asking r))
state_of status.Failed a r = running a r

-- memory ran out
abbrev pub has_failed : Status → Bool
has_failed status.Failed = true
has_failed s = false

-- a line was asked for, and none was given
abbrev pub is_waiting : Status → Bool
is_waiting status.Waiting = true
is_waiting s = false

pub record RunState : Type 0 where
  pub failed : Bool
  pub waits : Bool
  pub kept : KeptWorld
  pub state : system.State Activation

-- a run, and whether it was told that no line is left
pub record MachineState : Type 0 where
  pub run : RunState
  pub at_end : Bool

-- the system, behind these events and with these lines to be read
abbrev pub system_of : List system.Event → List Line → RunState → system.System Activation
system_of events lines m =
    record { world = world_of lines m.kept; events = events; suspended = []; state = m.state }

-- the events behind an answer
abbrev pub noted : Answer → List system.Event → List system.Event
noted (answer.Print line) events = events ++ system.Printed line ∷ []
noted a events = events

abbrev pub IsRunning : system.State Activation → Type 0
IsRunning (system.Running top below) = ⊤
IsRunning (system.Ended e) = ⊥

-- what an answer tells of the state
abbrev pub Tells : Answer → system.State Activation → Type 0
Tells answer.Go state = IsRunning state
Tells (answer.Print line) state = IsRunning state
Tells (answer.Ended e) state = state ≡ system.Ended (ending_of e)
Tells a state = ⊥

-- the run takes the step of the system, and answers it
pub record Steps (p : Program) (old : RunState) (a : Answer) (new : RunState) : Type 0 where
  pub system : (events : List system.Event) (lines : List Line) →
      system_step (code_meaning p) (system_of events lines old) ≡ system_of (noted a events) lines new
  pub tells : Tells a new.state
  pub fine : new.failed ≡ false
  pub awake : new.waits ≡ false

-- the frame at the top asks for a line: that is all that its step does
abbrev pub AsksLine : Program → KeptWorld → system.State Activation → Type 0
AsksLine p k (system.Running top below) = (lines : List Line) →
    system.frame_step (code_meaning p) (system.statement_in_hand (code_meaning p) (top ∷ below)) top (world_of lines k)
    ≡ Does WantLine top (world_of lines k)
AsksLine p k (system.Ended e) = ⊥

-- a line is asked for: the run waits, and has not taken the step yet
pub record Waits (p : Program) (old new : RunState) : Type 0 where
  pub asks : AsksLine p old.kept old.state
  pub same : new ≡ record old { waits = true }

-- what comes of a step: a line is asked for, or the step was taken
abbrev pub Proceeds : Program → RunState → Answer → RunState → Type 0
Proceeds p old answer.WantLine new = Waits p old new
Proceeds p old a new = Steps p old a new

abbrev pub machine_of : KeptWorld → Activation → Option RoutineActivation → Status → RunState
machine_of k a r s = record { failed = has_failed s; waits = is_waiting s; kept = k; state = state_of s a r }

-- the system behind an answer, where it was s before
abbrev pub behind : system.System Activation → List Line → Answer → RunState → system.System Activation
behind s lines a new =
    record s { world = world_of lines new.kept; events = noted a s.events; state = new.state }

-- what the system does: under a program, from some state on, with these lines to be read
abbrev pub Doing : Type 0
Doing = Program → system.System Activation → List Line → system.System Activation

-- an act of the script
abbrev pub script_moved : KeptWorld → Activation → Act → Doing
script_moved k a act p s lines =
    moved (code_meaning p) s 0 [] (next_map (system.Source system.Script) (next_of act a (world_of lines k)))

-- an act of a built-in function that the script called
abbrev pub routine_moved : KeptWorld → Activation → RoutineActivation → RoutineAct → Doing
routine_moved k a r act p s lines =
    moved (code_meaning p) s 0 (system.Source system.Script a ∷ [])
    (next_map (system.Routine system.Called) (next_of_routine act r (world_of lines k)))

-- a call of the built-in function with this number, or of what is no function
abbrev pub called : KeptWorld → Activation → Value → List Value → Option ℕ → Doing
called k a this arguments found p s lines =
    call_to (code_meaning p) s 0 (system.Source system.Script a ∷ []) (world_of lines k)
    (option_map (λ n. system.Routine system.Called (entered n (this ∷ arguments))) found)

-- the routine of the built-in functions that there are from the start
abbrev pub routine_number : Value → Option ℕ
routine_number (value.Object o) = if o == 1 then Some 0 else if o == 6 then Some 1 else None
routine_number v = None

-- the run does so, and answers it
pub record Acts (done : Doing) (a : Answer) (new : RunState) : Type 0 where
  pub system : (p : Program) (s : system.System Activation) (lines : List Line) →
      done p s lines ≡ behind s lines a new
  pub tells : Tells a new.state
  pub fine : new.failed ≡ false
  pub awake : new.waits ≡ false

abbrev pub IsNoCall : Act → Type 0
IsNoCall (act.Call callee this arguments) = ⊥
IsNoCall a = ⊤

-- what an answer of the machine says: memory ran out, or the step was that of the system
abbrev pub Answers : Program → MachineState → Answer → MachineState → Type 0
Answers p old answer.Memory new = new.run.failed ≡ true
Answers p old a new = (old.run.failed ≡ false) × Proceeds p old.run a new.run × (new.at_end ≡ old.at_end)

-- ---- lines

-- what comes of a line: its text is kept
abbrev pub with_line : Option (List ℕ) → KeptWorld → KeptWorld
with_line (Some t) k = record k { texts = (with_text t (store_of k)).texts }
with_line None k = k

-- the value that comes back
abbrev pub line_value : Option (List ℕ) → KeptWorld → Value
line_value (Some t) k = value_of (store_of k) (Text t)
line_value None k = value.Undefined

-- the lines to be read where this one comes, and those behind it
abbrev pub lines_before : Option (List ℕ) → List Line → List Line
lines_before (Some t) lines = Units t ∷ lines
lines_before None lines = []

abbrev pub lines_behind : Option (List ℕ) → List Line → List Line
lines_behind (Some t) lines = lines
lines_behind None lines = []

-- the run takes the step of the system that asks for a line, where these lines are to be read, and those behind it
pub record Asks (before behind : List Line → List Line) (old new : RunState) : Type 0 where
  pub system : (p : Program) (events : List system.Event) (lines : List Line) →
      system_step (code_meaning p) (system_of events (before lines) old)
      ≡ system_of (events ++ system.Asked ∷ []) (behind lines) new
  pub fine : new.failed ≡ false
  pub awake : new.waits ≡ false

-- a line is given, or there is none
pub record Reads (text : Option (List ℕ)) (old new : MachineState) : Type 0 where
  pub run : Asks (lines_before text) (lines_behind text) old.run new.run
  pub goes_on : IsRunning new.run.state
  pub at_end : new.at_end ≡ is_none text

-- the next line is too long
pub record Leaves (old new : MachineState) : Type 0 where
  pub run : Asks (λ lines. TooLong ∷ lines) (λ lines. lines) old.run new.run
  pub ends : new.run.state ≡ system.Ended (system.LeftFor LongLine)
  pub at_end : new.at_end ≡ old.at_end

-- ---- the start

-- the machine is at the start of a run of the program with so many turns
pub record Starts (p : Program) (turns : ℕ) (m : MachineState) : Type 0 where
  pub system : (lines : List Line) → system_of [] lines m.run ≡ code_start p lines turns
  pub fine : m.run.failed ≡ false
  pub awake : m.run.waits ≡ false
  pub at_end : m.at_end ≡ false

-- the system at that start, where the script has called `readline`
abbrev pub reading_start : Program → List Line → ℕ → system.System Activation
reading_start p lines turns =
    record (code_start p lines turns) {
      world = record (world0 lines turns) { calls = 1 };
      state = running (code_script p) (Some (entered readline_routine (value.Undefined ∷ [])));
    }

-- the machine is at that start
pub record StartsReading (p : Program) (turns : ℕ) (m : MachineState) : Type 0 where
  pub system : (lines : List Line) → system_of [] lines m.run ≡ reading_start p lines turns
  pub fine : m.run.failed ≡ false
  pub awake : m.run.waits ≡ false
  pub at_end : m.at_end ≡ false
