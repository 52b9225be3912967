use Rattle.std.proofs.Common.{◌≡◌}
use Rattle.hz_tree.specs.tokens.Tokens.{tokens}
use Rattle.hz_front_dump.specs.Places.{HasBefore, begin_before}
use Rattle.hz_front_dump.proofs.places.sums.Given as goal

abbrev pub invariant-loop-count : goal.invariant-loop-count
invariant-loop-count l =
    HasBefore (tokens l.source) l.count-index l.before.items
    × (l.total ≡ begin_before l.count-index (tokens l.source))
