-- Reads that were interrupted took nothing.
use Rattle.std.specs.Io.KnownBytes.{Keeps}
use Rattle.hermes.proofs.disk.read_some.Given as goal

abbrev pub invariant-loop : goal.invariant-loop
invariant-loop g l =
    let read = g.R.Read in
    Keeps (read.remaining l.initial.stream) (read.remaining l.stream)
