-- The run of a file's code: what its answer says of the meaning of code, and what out got.
use Rattle.std.specs.Prelude.{◌≡◌, ℕ, ◌≤◌, List, [], Result, Ok, Err}
use Rattle.hz_io.specs.Causes.{Rose}
use Rattle.hz_io.specs.Contents.{Told}
use Rattle.hz_ops.specs.Activations.{Module}
use Rattle.hz_ops.specs.Runs as run
use Rattle.hermes.specs.declared.first.run.held.Held.{Held}
use Rattle.hermes.specs.declared.first.run.stop.FirstEnd.{FirstEnd}
use Rattle.hermes.specs.declared.first.run.stop.FirstEnd.TheVariants.{Done, Left, BadCode, WriteFault, Memory}
use Rattle.hermes.specs.declared.first.run.stop.Stop.{Stop}
use Rattle.hermes.specs.declared.first.run.stop.Stop.TheVariants.{End, Unbuilt}
use Rattle.hermes.specs.Printing.{Prints, PrintsFront, PrintsSome}
use Rattle.hermes.specs.first.Rows.{activation, Stopped}

-- the run of the script ends so, and out got its lines
abbrev pub EndsWith : Module → Told → Told → run.End → Type 0
EndsWith m old new end = (lines : List (List ℕ)) × run.Ends m (run.start_of m) lines end × Prints old new lines

-- the run of the script prints lines in some number of steps, and out got a front of them
abbrev pub IsCut : Module → Told → Told → Type 0
IsCut m old new = (n : ℕ) × PrintsFront old new (run.after m n (run.start_of m)).lines

-- what the answer says of the run of the script, and of what out got
abbrev pub RunsTo : Module → Told → Told → FirstEnd → Type 0
RunsTo m old new Done = EndsWith m old new run.Done
RunsTo m old new (Left reason) = EndsWith m old new (run.LeftFor reason)
RunsTo m old new BadCode = EndsWith m old new run.BadCode
RunsTo m old new WriteFault = IsCut m old new
RunsTo m old new Memory = IsCut m old new

-- the answer to a run that ends so and prints these lines
abbrev pub Agrees : List (List ℕ) → run.End → Told → Told → FirstEnd → Type 0
Agrees lines end old new Done = (end ≡ run.Done) × Prints old new lines
Agrees lines end old new (Left reason) = (end ≡ run.LeftFor reason) × Prints old new lines
Agrees lines end old new BadCode = (end ≡ run.BadCode) × Prints old new lines
Agrees lines end old new WriteFault = PrintsSome old new lines
Agrees lines end old new Memory = PrintsSome old new lines

-- the same of the run of code that may come to what the rows that there are do not say
abbrev pub StopsTo : Module → Told → Told → Stop → Type 0
StopsTo m old new (End end) = RunsTo m old new end
StopsTo m old new Unbuilt = ⊥

-- a count of faults, which rose where a write failed, and else stayed
abbrev pub Counts : ℕ → ℕ → FirstEnd → Type 0
Counts before now Done = now ≡ before
Counts before now (Left reason) = now ≡ before
Counts before now BadCode = now ≡ before
Counts before now WriteFault = Rose before now × (before ≤ now)
Counts before now Memory = now ≡ before

-- the same where the run may come to what the rows that there are do not say
abbrev pub CountsStop : ℕ → ℕ → Stop → Type 0
CountsStop before now (End end) = Counts before now end
CountsStop before now Unbuilt = Unit {0}

-- ---- one instruction whose line goes out

-- the answer to the step of an instruction that gives this system, where the registers are then these
abbrev pub Sent : run.System → Result ℕ Stop → List Held → Told → Told → Type 0
Sent system (Ok next) held old new = (system.state ≡ run.Running (activation next held)) × Prints old new system.lines
Sent system (Err (End WriteFault)) held old new = PrintsFront old new system.lines
Sent system (Err (End Memory)) held old new = Prints old new []
Sent system (Err (End Done)) held old new = Stopped system (End Done) × Prints old new []
Sent system (Err (End (Left reason))) held old new = Stopped system (End (Left reason)) × Prints old new []
Sent system (Err (End BadCode)) held old new = Stopped system (End BadCode) × Prints old new []
Sent system (Err Unbuilt) held old new = Stopped system Unbuilt

-- the count of faults behind that step
abbrev pub CountsSent : ℕ → ℕ → Result ℕ Stop → Type 0
CountsSent before now (Ok next) = now ≡ before
CountsSent before now (Err stop) = CountsStop before now stop

-- the script runs and stands at this place with these registers, and out got the lines that it printed so far
pub record Reached (m : Module) (place : ℕ) (held : List Held) (old now : Told) : Type 0 where
  pub steps : ℕ
  pub lines : List (List ℕ)
  pub here : run.after m steps (run.start_of m) ≡ record { lines = lines; state = run.Running (activation place held) }
  pub told : Prints old now lines
