use Rattle.std.proofs.Common.{◌≡◌, ◌||◌, length}
use Rattle.hz_tree.specs.trees.FunctionScopes.{used_within}
use Rattle.hz_scopes.specs.Links.{without}
use Rattle.hz_scopes.proofs.uses.Uses.take_out.Given as goal

abbrev pub invariant-loop-inner : goal.invariant-loop-inner
invariant-loop-inner l = record {
  others : without l.name l.self.inner ≡ without l.name l.initial.self.inner;
  found : (l.found || used_within l.self.inner l.name) ≡ used_within l.initial.self.inner l.name;
  outer : l.self.outer ≡ l.initial.self.outer;
}

abbrev pub decreases-loop-inner : goal.decreases-loop-inner
decreases-loop-inner l = length l.self.inner
