-- What the answers of the interpreter's rows say of the meaning of code.
use Rattle.std.specs.Prelude.{◌≡◌, ℕ, ◌<◌, ℤ, List, [], ◌∷◌, ◌++◌, map, length, slice_get, slice_set, Option, None}
use Rattle.std.specs.Prelude.{Some, option_map, Result, Ok, Err, Vec, String, string_bytes}
use Rattle.hz_ops.specs.Step as row
use Rattle.hz_ops.specs.Contents as content
use Rattle.hz_ops.specs.Activations.{Activation, Next, Does, Bad}
use Rattle.hz_ops.specs.declared.op.Operand.{Operand}
use Rattle.hz_ops.specs.declared.op.Operand.TheVariants as operand
use Rattle.hz_ops.specs.Runs as run
use Rattle.hermes.specs.Printing.{printed}
use Rattle.hermes.specs.declared.first.run.operands.CallOperands.{CallOperands}
use Rattle.hermes.specs.declared.first.run.held.Held.{Held}
use Rattle.hermes.specs.declared.first.run.held.Held.TheVariants.{Undefined, Number, Text, Print}
use Rattle.hermes.specs.declared.first.run.stop.FirstEnd.TheVariants.{Done, Left, BadCode, WriteFault, Memory}
use Rattle.hermes.specs.declared.first.run.step.Stepped.{Stepped}
use Rattle.hermes.specs.declared.first.run.stop.Stop.{Stop}
use Rattle.hermes.specs.declared.first.run.stop.Stop.TheVariants.{End, Unbuilt}

-- A step is stated by the system that it gives where no line was printed before.

-- what a register holds
abbrev pub content_of : Held → content.Content
content_of Undefined = content.Undefined
content_of (Number z) = content.Number z
content_of (Text units) = content.Text units
content_of Print = content.print_object

-- the script at a place, with these registers
abbrev pub activation : ℕ → List Held → Activation
activation place registers = record { function = 0; place = place; registers = map content_of registers }

-- the state that an answer tells, with this activation where the run goes on
abbrev pub Tells : {T : Type 0} → Result T Stop → Activation → run.State → Type 0
Tells (Ok value) a state = state ≡ run.Running a
Tells (Err (End Done)) a state = state ≡ run.Ended run.Done
Tells (Err (End (Left reason))) a state = state ≡ run.Ended (run.LeftFor reason)
Tells (Err (End BadCode)) a state = state ≡ run.Ended run.BadCode
Tells (Err (End WriteFault)) a state = ⊥
Tells (Err (End Memory)) a state = ⊥
Tells (Err Unbuilt) a state = state ≡ run.Unbuilt

-- a step that prints nothing, with this answer
abbrev pub IsStep : {T : Type 0} → Next → Result T Stop → Activation → Type 0
IsStep next result a = ((run.next_system [] next).lines ≡ []) × Tells result a (run.next_system [] next).state

-- register r held x and now holds y, or it is not there, which is bad code
abbrev pub Put : {T : Type 0} → List Held → List Held → ℕ → Held → Result T Stop → Type 0
Put old new r x (Ok value) = (r < length old) × (new ≡ slice_set old r x)
Put old new r x (Err stop) = (slice_get old r ≡ None) × (stop ≡ End BadCode)

-- registers r, x and y are there, and the last two hold these numbers; or the answer is what an operator
-- does on what they hold
abbrev pub HasNumbers : List Held → ℕ → ℕ → ℕ → Result (ℤ × ℤ) Stop → Type 0
HasNumbers held r x y (Ok p) =
    (r < length held) × (slice_get held x ≡ Some (Number p.0)) × (slice_get held y ≡ Some (Number p.1))
HasNumbers held r x y (Err stop) = (operator : ℤ → ℤ → Option ℤ) (place next : ℕ)
    → IsStep {T = ℤ} (row.arithmetic operator next (activation place held) r x y) (Err stop) (activation next held)

-- the answer to a text that may not be there: what the rows that there are say nothing of, or too little memory
abbrev pub NoText : Option (List ℕ) → Stop → Type 0
NoText text Unbuilt = text ≡ None
NoText text (End Memory) = Unit {0}
NoText text (End Done) = ⊥
NoText text (End (Left reason)) = ⊥
NoText text (End BadCode) = ⊥
NoText text (End WriteFault) = ⊥

-- the text was written behind the others
abbrev pub Wrote : {T : Type 0} → List ℕ → List ℕ → Option (List ℕ) → Result T Stop → Type 0
Wrote old new text (Ok value) = option_map (λ t. old ++ t) text ≡ Some new
Wrote old new text (Err stop) = NoText text stop

-- the line is the text
abbrev pub MadeLine : {A : Type 0} → Option (List ℕ) → Result (Vec ℕ A) Stop → Type 0
MadeLine text (Ok line) = text ≡ Some line.items
MadeLine text (Err stop) = NoText text stop

-- a step that prints one line, whose bytes are the answer
abbrev pub PrintsLine : {A : Type 0} → Next → Result (String A) Stop → Activation → Type 0
PrintsLine next (Ok text) a =
    (string_bytes text ≡ printed (run.next_system [] next).lines) × (length (run.next_system [] next).lines ≡ 1)
    × ((run.next_system [] next).state ≡ run.Running a)
PrintsLine next (Err (End Memory)) a = Unit {0}
PrintsLine next (Err stop) a = IsStep {T = ℕ} next (Err stop) a

-- the step of a call with these operands
abbrev pub called : ℕ → ℕ → List Held → CallOperands → Next
called place next held c = row.call next (activation place held) c.result c.callee c.this c.first c.count

-- a call that prints these arguments
abbrev pub CallsPrint : List Held → CallOperands → List Held → Type 0
CallsPrint held c arguments =
    (c.result < length held)
    × ((place next : ℕ) → called place next held c
    ≡ row.line_to next (activation place held) c.result (content.line_of (map content_of arguments)))

-- a call that does not
abbrev pub Stops : List Held → CallOperands → Stop → Type 0
Stops held c stop = (place next : ℕ) → IsStep {T = ℕ} (called place next held c) (Err stop) (activation next held)

-- the bytes of a line that may not be there, and how many lines this is
abbrev pub bytes_of : {A : Type 0} → Option (String A) → List ℕ
bytes_of None = []
bytes_of (Some text) = string_bytes text

abbrev pub count_of : {A : Type 0} → Option (String A) → ℕ
count_of None = 0
count_of (Some text) = 1

-- a step that is the last, and prints nothing; where memory ran out nothing is said
abbrev pub Stopped : run.System → Stop → Type 0
Stopped system (End Done) = system ≡ record { lines = []; state = run.Ended run.Done }
Stopped system (End (Left reason)) = system ≡ record { lines = []; state = run.Ended (run.LeftFor reason) }
Stopped system (End BadCode) = system ≡ record { lines = []; state = run.Ended run.BadCode }
Stopped system (End WriteFault) = ⊥
Stopped system (End Memory) = Unit {0}
Stopped system Unbuilt = system ≡ record { lines = []; state = run.Unbuilt }

-- a step with this answer: the bytes of what it prints, and the state behind it
abbrev pub Steps : {A : Type 0} → run.System → Result (Option (String A)) Stop → Activation → Type 0
Steps system (Ok line) a =
    (bytes_of line ≡ printed system.lines) × (count_of line ≡ length system.lines) × (system.state ≡ run.Running a)
Steps system (Err stop) a = Stopped system stop

-- ---- operands of a shape, or what the row does with others

-- one register
abbrev pub IsRegister : List Operand → Result ℕ Stop → Type 0
IsRegister os (Ok r) = os ≡ operand.Register r ∷ []
IsRegister os (Err stop) = (stop ≡ End BadCode)
    × ((a : Activation) (go : ℕ → Next) → row.at_register os a go ≡ Does Bad a)

-- a register and an integer
abbrev pub IsRegisterInt : List Operand → Result (ℕ × ℤ) Stop → Type 0
IsRegisterInt os (Ok p) = os ≡ operand.Register p.0 ∷ operand.Int p.1 ∷ []
IsRegisterInt os (Err stop) =
    (stop ≡ End BadCode) × ((a : Activation) (go : ℕ → ℤ → Next) → row.at_register_int os a go ≡ Does Bad a)

-- a register and the id of a text
abbrev pub IsRegisterText : List Operand → Result (ℕ × ℕ) Stop → Type 0
IsRegisterText os (Ok p) = os ≡ operand.Register p.0 ∷ operand.Text p.1 ∷ []
IsRegisterText os (Err stop) =
    (stop ≡ End BadCode) × ((a : Activation) (go : ℕ → ℕ → Next) → row.at_register_text os a go ≡ Does Bad a)

-- three registers
abbrev pub AreThreeRegisters : List Operand → Result (ℕ × ℕ × ℕ) Stop → Type 0
AreThreeRegisters os (Ok p) = os ≡ operand.Register p.0 ∷ operand.Register p.1 ∷ operand.Register p.2 ∷ []
AreThreeRegisters os (Err stop) =
    (stop ≡ End BadCode) × ((a : Activation) (go : ℕ → ℕ → ℕ → Next) → row.at_three_registers os a go ≡ Does Bad a)

-- the operands of a call
abbrev pub AreCallOperands : List Operand → Result CallOperands Stop → Type 0
AreCallOperands os (Ok c) = os
    ≡ operand.Register c.result ∷ operand.Register c.callee ∷ operand.Register c.this ∷ operand.Register c.first
    ∷ operand.Count c.count ∷ []
AreCallOperands os (Err stop) =
    (stop ≡ End BadCode) × ((a : Activation) (go : ℕ → ℕ → ℕ → ℕ → ℕ → Next) → row.at_call os a go ≡ Does Bad a)

-- ---- the step at a place of the code

-- the answer to a step that gives this system, where the registers are then these
abbrev pub StepsTo : run.System → Result Stepped Stop → List Held → Type 0
StepsTo system (Ok step) held = Steps system (Ok step.line) (activation step.next held)
StepsTo system (Err stop) held = Stopped system stop
