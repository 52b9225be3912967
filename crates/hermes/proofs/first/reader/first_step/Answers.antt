use Rattle.std.proofs.Common.{refl}
use Rattle.hermes.proofs.first_texts.reading.Opening.{directive_moves, call_moves, nothing_begins}
use Rattle.hermes.proofs.first.reader.first_step.Goals as goal

pub returns-then-byte-eq34 : goal.returns-then-byte-eq34
returns-then-byte-eq34 c = λ source. (tt, directive_moves c.args.strict c.args.byte c.if-byte-eq34.true)

pub returns-then-strict : goal.returns-then-strict
returns-then-strict c = λ source. (tt, call_moves c.args.strict c.args.byte c.if-strict.true c.if-byte-eq112.true)

pub returns-else-byte-eq112 : goal.returns-else-byte-eq112
returns-else-byte-eq112 c = λ source.
    (refl, nothing_begins c.args.strict c.args.byte c.if-byte-eq34.false c.else-byte-eq112.either)
