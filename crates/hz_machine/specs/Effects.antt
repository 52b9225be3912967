-- What the machine's rows do.
use Rattle.std.specs.Prelude.{◌≡◌, List, Result, IfOk}
use Rattle.hz_value.specs.operators.Messages.{SymbolConversion}
use Rattle.hz_value.specs.world.World.{Line}
use Rattle.hz_value.specs.system.Acts.{Next, Does, Leave}
use Rattle.hz_operators.specs.declared.halt.Halt.{Halt}
use Rattle.hz_operators.specs.declared.halt.Halt.TheVariants as halt
use Rattle.hz_operators.specs.declared.halt.TextHalt.{TextHalt}
use Rattle.hz_operators.specs.declared.halt.TextHalt.TheVariants as text_halt
use Rattle.hz_ops.specs.code.Activations.{Activation}
use Rattle.hz_ops.specs.code.Effects.{raises}
use Rattle.hz_machine.specs.declared.act.Act.{Act}
use Rattle.hz_machine.specs.Frames.{next_of}
use Rattle.hz_machine.specs.Kept.{KeptWorld, world_of}

-- whatever lines are to be read, the act is that of this step, and the activation and the world stand behind it so
abbrev pub TakesStep : Act → Activation → KeptWorld → (List Line → Next Activation) → Type 0
TakesStep act a k step = (lines : List Line) → next_of act a (world_of lines k) ≡ step lines

-- the same where memory does not run out
abbrev pub Follows : {E : Type 0} → Result Act E → Activation → KeptWorld → (List Line → Next Activation) → Type 0
Follows result a k step = IfOk result (λ act. TakesStep act a k step)

-- the act of an operator without a result
abbrev pub Stops : Act → Halt → KeptWorld → KeptWorld → Type 0
Stops act halt.Symbol old new = (a : Activation) (lines : List Line)
    → next_of act a (world_of lines new) ≡ raises a (world_of lines old) SymbolConversion
Stops act (halt.Leaves reason) old new = (a : Activation) (lines : List Line)
    → next_of act a (world_of lines new) ≡ Does (Leave reason) a (world_of lines old)

-- the same of one that makes a text; want of memory is no act
abbrev pub StopsText : Act → TextHalt → KeptWorld → KeptWorld → Type 0
StopsText act (text_halt.Halt cause) old new = Stops act cause old new
StopsText act text_halt.Memory old new = ⊥
