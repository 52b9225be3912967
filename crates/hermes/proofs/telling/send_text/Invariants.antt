-- The text of the units that are left is what has not gone out yet.
use Rattle.std.proofs.Common.{length}
use Rattle.hermes.specs.Printing.{utf8}
use Rattle.hermes.proofs.Pieces.{SentBefore}
use Rattle.hermes.proofs.telling.send_text.Given as goal

abbrev pub invariant-loop-rest : goal.invariant-loop-rest
invariant-loop-rest g l =
    let sink = g.E.Sink in
    SentBefore (sink.told l.fn.err).got (sink.told l.err).got (sink.count l.fn.err) (sink.count l.err) (utf8 l.rest)
    (utf8 l.fn.units)

abbrev pub decreases-loop-rest : goal.decreases-loop-rest
decreases-loop-rest g l = length l.rest
