-- What was written is a front of the bytes.
use Rattle.std.proofs.Common.{◌≤◌, length, take}
use Rattle.std.specs.Io.KnownBytes.{Appends}
use Rattle.hermes.proofs.disk.write_all.Given as goal

abbrev pub invariant-loop : goal.invariant-loop
invariant-loop g l =
    let write = g.W.Write in
    (l.at ≤ length l.bytes)
    × Appends (write.contents l.initial.stream) (write.contents l.stream) (take l.at l.bytes)
