-- A step of an activation of code, and what the functions of a program mean.
use Rattle.std.specs.Prelude.{ℕ, ◌+◌, List, ◌∷◌, Option, Some, None}
use Rattle.hz_value.specs.declared.values.Value.{Value}
use Rattle.hz_value.specs.world.World.{World, Line}
use Rattle.hz_value.specs.world.Start.{world0}
use Rattle.hz_value.specs.system.Acts.{Reply, Normal, Thrown, Returned, Next, Does, Throw, Return}
use Rattle.hz_value.specs.system.System.{Meaning, System}
use Rattle.hz_value.specs.system.Runs.{start}
use Rattle.hz_ops.specs.declared.instr.Instr.{Instr}
use Rattle.hz_ops.specs.declared.op.Operand.{Operand}
use Rattle.hz_ops.specs.declared.op.Operand.TheVariants.{Register}
use Rattle.hz_ops.specs.code.Activations.{Program, Activation, code_entered, code_script}
use Rattle.hz_ops.specs.code.Operands.{register}
use Rattle.hz_ops.specs.code.Effects.{is_bad, tested_to, puts_value}
use Rattle.hz_ops.specs.code.Rows.{row}

-- the result goes into the register that the instruction names first
abbrev pub result_into : ℕ → Activation → World → Value → List Operand → Next Activation
result_into next a w v (Register r ∷ os) = tested_to a w (register a.registers r) (λ to. puts_value next a w to v)
result_into next a w v os = is_bad a w

-- the instruction in hand, with its length, gets the reply that came back to it
abbrev pub replied : Activation → World → Instr × ℕ → Reply → Next Activation
replied a w i (Normal v) = result_into (a.place + i.1) a w v i.0.args.items
replied a w i (Thrown v) = Does (Throw v) a w
replied a w i (Returned v) = Does (Return v) a w

abbrev pub instruction_step : Program → Activation → World → Instr × ℕ → Option Reply → Next Activation
instruction_step p a w i None = row p (a.place + i.1) a w i.0.args.items i.0.op
instruction_step p a w i (Some c) = replied a w i c

-- one step: a place where no whole instruction stands is bad code
abbrev pub code_step : Program → Activation → World → Next Activation
code_step p a w =
    tested_to a w (p.fetch a.function a.place) (λ i. instruction_step p a w i a.reply)

abbrev pub code_answered : Activation → Reply → Activation
code_answered a c = record a { reply = Some c }

-- what the functions of a program mean; code tells no statement that is in hand
abbrev pub code_meaning : Program → Meaning Activation
code_meaning p = record {
  step = code_step p;
  answered = code_answered;
  enter = code_entered p;
  statement = λ a. 0;
}

-- the system at the start of a run, with these lines to read and so many turns
abbrev pub code_start : Program → List Line → ℕ → System Activation
code_start p lines turns = start (code_script p) (world0 lines turns)
