use Rattle.std.proofs.Common.{◌≡◌, ◌++◌, map, length}
use Rattle.hz_tree.specs.tokens.Tokens as spec
use Rattle.hz_scan.proofs.list.list_tokens.Given as goal

abbrev pub invariant-loop-all : goal.invariant-loop-all
invariant-loop-all l = map spec.lexeme l.all.items ++ l.left ≡ spec.tokens l.source

abbrev pub decreases-loop-all : goal.decreases-loop-all
decreases-loop-all l = length l.left
