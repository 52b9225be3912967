use Rattle.std.proofs.Common.{take}
use Rattle.hz_tree.specs.sources.Refusals.{functions}
use Rattle.hz_front_dump.specs.Places.{HasOwn}
use Rattle.hz_front_dump.proofs.own.own_counts.Given as goal

abbrev pub invariant-loop-k : goal.invariant-loop-k
invariant-loop-k l = HasOwn l.index.source (take l.k (functions l.index.source)) l.owns.items
