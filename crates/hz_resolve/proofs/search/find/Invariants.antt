use Rattle.std.proofs.Common.{◌≡◌, ◌≤◌, Some, length}
use Rattle.hz_resolve.specs.Numbered.{found_from}
use Rattle.hz_resolve.proofs.search.find.Given as goal

abbrev pub decreases-loop-left : goal.decreases-loop-left
decreases-loop-left l = l.left

abbrev pub invariant-loop-left : goal.invariant-loop-left
invariant-loop-left l =
    found_from l.within l.name l.left l.scopes l.next
    ≡ found_from l.within l.name (length l.scopes) l.scopes (Some l.start)
