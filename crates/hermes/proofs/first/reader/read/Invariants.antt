use Rattle.hermes.specs.first.Reading.{IsRead}
use Rattle.hermes.proofs.first.reader.read.Given as goal

abbrev pub invariant-loop-at : goal.invariant-loop-at
invariant-loop-at l = IsRead l.strict l.source l.at l.state l.calls
