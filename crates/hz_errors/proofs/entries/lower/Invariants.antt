use Rattle.std.proofs.Common.{◌≡◌}
use Rattle.hz_errors.specs.Runs.{lowered}
use Rattle.hz_errors.proofs.entries.lower.Given as goal

abbrev pub invariant-loop-k : goal.invariant-loop-k
invariant-loop-k l = l.places.items ≡ lowered l.k l.end l.other l.initial.places.items
