use Rattle.std.proofs.Common.{◌≡◌, ◌+◌, drop}
use Rattle.hz_file.specs.Rules.{first_difference}
use Rattle.hz_file.proofs.rules.footer.difference.Given as goal

abbrev pub invariant-loop-i : goal.invariant-loop-i
invariant-loop-i l =
    first_difference (l.at + l.i) (drop l.i l.want) (drop l.i l.bytes) ≡ first_difference l.at l.want l.bytes
