use Rattle.std.proofs.Common.{◌≡◌, length}
use Rattle.hz_value.specs.operators.Comparisons.{is_before}
use Rattle.hz_operators.proofs.comparisons.is_before.Given as goal

abbrev pub invariant-loop-right : goal.invariant-loop-right
invariant-loop-right l = is_before l.left l.right ≡ is_before l.fn.first l.fn.second

abbrev pub decreases-loop-right : goal.decreases-loop-right
decreases-loop-right l = length l.right
