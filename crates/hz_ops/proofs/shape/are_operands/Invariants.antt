use Rattle.std.proofs.Common.{◌≡◌, drop}
use Rattle.hz_ops.specs.Coding.{operands_fit}
use Rattle.hz_ops.proofs.shape.are_operands.Given as goal

-- what is left decides
abbrev pub invariant-loop-kind : goal.invariant-loop-kind
invariant-loop-kind l =
    operands_fit l.long (drop l.kind-index l.kinds) l.left ≡ operands_fit l.long l.kinds l.fn.args
