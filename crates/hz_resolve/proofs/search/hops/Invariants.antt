use Rattle.std.proofs.Common.{◌≡◌, ◌+◌, ◌≤◌, length, Some}
use Rattle.hz_resolve.specs.Numbered.{scopes_of}
use Rattle.hz_resolve.specs.Passes.{hops_from}
use Rattle.hz_resolve.proofs.search.hops.Given as goal

abbrev pub invariant-loop-left : goal.invariant-loop-left
invariant-loop-left l = record {
  total : l.hops + hops_from (scopes_of l.scopes) l.within l.to l.left l.next
      ≡ hops_from (scopes_of l.scopes) l.within l.to (length l.scopes) (Some l.start);
  few : l.hops + l.left ≤ length l.scopes;
}

abbrev pub decreases-loop-left : goal.decreases-loop-left
decreases-loop-left l = l.left
