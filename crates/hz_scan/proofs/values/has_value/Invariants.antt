use Rattle.std.proofs.Common.{◌≡◌, length}
use Rattle.std.specs.Str.{bytes_eq}
use Rattle.hz_tree.specs.tokens.Values.{meant_from, part_meant, text_value}
use Rattle.hz_scan.proofs.values.has_value.Given as goal

abbrev pub invariant-parts : goal.invariant-parts
invariant-parts l = bytes_eq l.wanted (meant_from part_meant 0 l.z) ≡ bytes_eq l.fn.wanted (text_value l.written)

abbrev pub decreases-parts : goal.decreases-parts
decreases-parts l = length l.z
