use Rattle.std.proofs.Common.{◌≡◌, take}
use Rattle.hz_ops.proofs.instr.Instr.new.Given as goal

abbrev pub invariant-loop-operand : goal.invariant-loop-operand
invariant-loop-operand l = l.args.items ≡ take l.operand-index l.operands
