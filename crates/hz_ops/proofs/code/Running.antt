-- What code that is written out by hand prints and how it ends, by computing.
use Rattle.std.specs.Prelude.{ℕ, zero, suc, ℤ, List, [], ◌∷◌, ◌++◌, codes}
use Rattle.hz_value.specs.Leaving.{name_of_left}
use Rattle.hz_value.specs.world.Descriptions.{describe}
use Rattle.hz_value.specs.world.World.{World}
use Rattle.hz_value.specs.system.System.{Event, Printed, Asked, Ending, Done, Uncaught, LeftFor, TurnsSpent, BadCode}
use Rattle.hz_value.specs.system.System.{State, Running, Ended, System}
use Rattle.hz_value.specs.system.Step.{system_step}
use Rattle.hz_ops.specs.declared.op.Op.{Op}
use Rattle.hz_ops.specs.declared.op.Op.TheVariants as op
use Rattle.hz_ops.specs.declared.op.Operand.TheVariants.{Register, Text, Int, Jump, Count}
use Rattle.hz_ops.specs.declared.instr.Instr.{Instr}
use Rattle.hz_ops.specs.Coding.{spellings, shortest_of}
use Rattle.hz_ops.specs.code.Activations.{Program, Activation}
use Rattle.hz_ops.specs.code.Bytes.{program_of, script_module}
use Rattle.hz_ops.specs.code.Steps.{code_meaning, code_start}

-- ---- code

abbrev pub load_int : ℕ → ℤ → Instr
load_int r z = shortest_of op.LoadInt (Register r ∷ Int z ∷ [])

abbrev pub one : Op → ℕ → Instr
one o r = shortest_of o (Register r ∷ [])

abbrev pub two : Op → ℕ → ℕ → Instr
two o r x = shortest_of o (Register r ∷ Register x ∷ [])

abbrev pub three : Op → ℕ → ℕ → ℕ → Instr
three o r x y = shortest_of o (Register r ∷ Register x ∷ Register y ∷ [])

abbrev pub with_text : Op → ℕ → ℕ → Instr
with_text o r s = shortest_of o (Register r ∷ Text s ∷ [])

-- a jump of so many bytes
abbrev pub jump : ℤ → Instr
jump way = shortest_of op.Jump (Jump way ∷ [])

abbrev pub branch : Op → ℕ → ℤ → Instr
branch o r way = shortest_of o (Register r ∷ Jump way ∷ [])

abbrev pub call : (r callee this first n : ℕ) → Instr
call r callee this first n =
    shortest_of op.Call (Register r ∷ Register callee ∷ Register this ∷ Register first ∷ Count n ∷ [])

-- prints what register 2 holds, and ends; the name of `print` is text 0
abbrev pub printing : List Instr
printing =
    with_text op.LoadGlobal 3 0 ∷ one op.LoadUndefined 4 ∷ call 5 3 4 2 1 ∷ one op.Return 5 ∷ []

-- a script of these bytes with six registers
abbrev pub texts : List (List ℕ)
texts = codes "print" ∷ codes "x" ∷ codes "12" ∷ []

abbrev pub script_of : List ℕ → Program
script_of code = program_of (script_module code 6 [] texts)

-- ---- runs

-- at most n steps, and none behind the end
abbrev pub finish : Program → ℕ → System Activation → System Activation
finish p zero s = s
finish p (suc n) s =
    elim s.state [
      | Running top below ↦ finish p n (system_step (code_meaning p) s)
      | Ended e ↦ s
    ]

abbrev pub lines_of : List Event → List ℕ
lines_of [] = []
lines_of (Printed line ∷ es) = line ++ 10 ∷ lines_of es
lines_of (Asked ∷ es) = lines_of es

abbrev pub ending_of : World → Ending → List ℕ
ending_of w Done = codes "done"
ending_of w (Uncaught v) = codes "uncaught " ++ describe w.store v
ending_of w (LeftFor reason) = codes "left " ++ name_of_left reason
ending_of w TurnsSpent = codes "turns spent"
ending_of w BadCode = codes "bad code"

abbrev pub state_of : World → State Activation → List ℕ
state_of w (Running top below) = codes "runs"
state_of w (Ended e) = ending_of w e

-- the lines that are printed, each with its newline, and the ending
abbrev pub told_of : System Activation → List ℕ
told_of s = lines_of s.events ++ state_of s.world s.state

abbrev pub run_bytes : ℕ → List ℕ → List ℕ
run_bytes turns code = told_of (finish (script_of code) 40 (code_start (script_of code) [] turns))

-- with so many turns
abbrev pub run_code : ℕ → List Instr → List ℕ
run_code turns is = run_bytes turns (spellings is)
