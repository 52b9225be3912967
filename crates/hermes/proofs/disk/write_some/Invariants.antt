-- Writes that were interrupted wrote nothing.
use Rattle.std.specs.Io.KnownBytes.{Keeps}
use Rattle.hermes.proofs.disk.write_some.Given as goal

abbrev pub invariant-loop : goal.invariant-loop
invariant-loop g l =
    let write = g.W.Write in
    Keeps (write.contents l.initial.stream) (write.contents l.stream)
