use Rattle.std.proofs.Common.{◌≡◌, ◌+◌, length}
use Rattle.hz_tree.specs.tokens.Text as spec
use Rattle.hz_scan.proofs.run.run.Given as goal

abbrev pub invariant-parts : goal.invariant-parts
invariant-parts g l =
    (spec.joined (record { len = l.len; marked = l.marked }) (spec.run (g.P.Repeats.part_of l.parts) l.z)
    ≡ spec.run (g.P.Repeats.part_of l.parts) l.initial.z)
    × (l.len + length l.z ≡ length l.initial.z)

abbrev pub decreases-parts : goal.decreases-parts
decreases-parts g l = length l.z
