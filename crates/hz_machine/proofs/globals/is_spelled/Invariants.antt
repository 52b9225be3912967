use Rattle.std.proofs.Common.{◌≡◌, bytes_eq, length}
use Rattle.hz_machine.proofs.globals.is_spelled.Given as goal

abbrev pub invariant-loop-right : goal.invariant-loop-right
invariant-loop-right l = bytes_eq l.left l.right ≡ bytes_eq l.fn.units l.fn.text

abbrev pub decreases-loop-right : goal.decreases-loop-right
decreases-loop-right l = length l.right
