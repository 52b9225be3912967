-- So many tokens were taken, and the others are left.
use Rattle.std.proofs.Common.{◌≡◌, ◌+◌, length}
use Rattle.hz_tree.specs.tokens.Tokens.{tokens}
use Rattle.hz_scan_bench.proofs.count_tokens.Given as goal

abbrev pub invariant-loop-left : goal.invariant-loop-left
invariant-loop-left l = l.count + length l.left ≡ length (tokens l.source)

abbrev pub decreases-loop-left : goal.decreases-loop-left
decreases-loop-left l = length l.left
