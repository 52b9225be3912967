use Rattle.std.proofs.Common.{◌≡◌, ◌+◌, drop}
use Rattle.hz_file.specs.Rules.{first_nonzero}
use Rattle.hz_file.proofs.rules.header.nonzero.Given as goal

abbrev pub invariant-loop-i : goal.invariant-loop-i
invariant-loop-i l = first_nonzero (l.at + l.i) (drop l.i l.bytes) ≡ first_nonzero l.at l.bytes
