use Rattle.std.proofs.Common.{◌≡◌, map, take}
use Rattle.hz_tree.specs.sources.Refusals.{functions}
use Rattle.hz_tree.specs.trees.FunctionTrees.{tokens_within}
use Rattle.hz_front_dump.proofs.own.extents.Given as goal

abbrev pub invariant-loop-k : goal.invariant-loop-k
invariant-loop-k l =
    l.owns.items
    ≡ map (λ f. tokens_within l.index.source f.start f.end) (take l.k (functions l.index.source))
