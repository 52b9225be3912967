use Rattle.std.proofs.Common.{◌≡◌, ◌+◌, ◌-◌, ◌++◌, ◌≤◌, take, length}
use Rattle.hz_resolve.specs.Numbered.{numbered, uses_of}
use Rattle.hz_resolve.specs.Starts.{all_placed_in}
use Rattle.hz_resolve.proofs.build.add_scopes.Given as goal

abbrev pub invariant-loop-scope : goal.invariant-loop-scope
invariant-loop-scope l = record {
  known : l.scopes.items
      ≡ l.initial.scopes.items ++ numbered l.next (all_placed_in l.function l.function.first (take l.i l.own));
  names : l.past ≡ l.next + length (uses_of (all_placed_in l.function l.function.first (take l.i l.own)));
  few : l.past ≤ 4294967295;
}

abbrev pub decreases-loop-scope : goal.decreases-loop-scope
decreases-loop-scope l = length l.own - l.i
