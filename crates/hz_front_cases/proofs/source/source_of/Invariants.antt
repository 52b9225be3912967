use Rattle.std.proofs.Common.{length}
use Rattle.std.specs.Bool.{⊤}
use Rattle.hz_front_cases.proofs.source.source_of.Given as goal

abbrev pub invariant-loop-byte : goal.invariant-loop-byte
invariant-loop-byte l = ⊤

abbrev pub decreases-loop-byte : goal.decreases-loop-byte
decreases-loop-byte l = length l.left
