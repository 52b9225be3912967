-- The handlers that were passed do not hold the place.
use Rattle.std.proofs.Common.{◌≡◌, length}
use Rattle.hz_ops.specs.code.Bytes.{target_at}
use Rattle.hz_machine_tests.proofs.script.target_at.Given as goal

abbrev pub invariant-loop-left : goal.invariant-loop-left
invariant-loop-left l = target_at l.fn.handlers l.place ≡ target_at l.left l.place

abbrev pub decreases-loop-left : goal.decreases-loop-left
decreases-loop-left l = length l.left
