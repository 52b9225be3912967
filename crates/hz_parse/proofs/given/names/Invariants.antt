use Rattle.std.proofs.Common.{◌≡◌, ◌++◌, length}
use Rattle.hz_tree.specs.trees.FunctionTrees.{names_of}
use Rattle.hz_parse.proofs.given.names.Given as goal

abbrev pub invariant-loop-bound : goal.invariant-loop-bound
invariant-loop-bound l = l.names.items ++ names_of l.left ≡ names_of l.fn.bounds

abbrev pub decreases-loop-bound : goal.decreases-loop-bound
decreases-loop-bound l = length l.left
