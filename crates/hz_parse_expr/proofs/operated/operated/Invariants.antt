use Rattle.std.proofs.Common.{◌≡◌, length}
use Rattle.hz_parse_expr.specs.Trees.{operated_by}
use Rattle.hz_parse_expr.proofs.operated.operated.Given as goal

abbrev pub invariant-loop-operator : goal.invariant-loop-operator
invariant-loop-operator l = operated_by l.tree l.left ≡ operated_by l.fn.head l.fn.operators

abbrev pub decreases-loop-operator : goal.decreases-loop-operator
decreases-loop-operator l = length l.left
