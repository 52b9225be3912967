-- The bytes that were read are no more than asked for, and stood in front of what is left.
use Rattle.std.proofs.Common.{◌≤◌, vec_len}
use Rattle.std.specs.Io.KnownBytes.{Consumes}
use Rattle.hermes.proofs.disk.read_front.Given as goal

abbrev pub invariant-loop : goal.invariant-loop
invariant-loop g l =
    let read = g.R.Read in
    (vec_len l.bytes ≤ l.max) × Consumes (read.remaining l.initial.stream) (read.remaining l.stream) l.bytes.items
