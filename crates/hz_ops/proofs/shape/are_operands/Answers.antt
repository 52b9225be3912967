use Rattle.std.proofs.Common.{◌<◌, length, drop, ◌∙◌, sym, arith}
use Rattle.std.proofs.lemmas.List.{length-drop}
use Rattle.hz_ops.proofs.Fitting.{none_fit}
use Rattle.hz_ops.proofs.shape.are_operands.Goals as goal

pub returns-in_default : goal.returns-in_default
returns-in_default c =
    let some : 0 < length (drop c.loop-kind.kind-index c.args.kinds.now) =
    omega (arith, length-drop c.loop-kind.kind-index c.args.kinds.now) in
    sym (none_fit c.args.long (drop c.loop-kind.kind-index c.args.kinds.now) c.loop-kind.left.now some
    c.in_default.len_below) ∙ c.loop-kind.invariant
