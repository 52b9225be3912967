use Rattle.hermes.proofs.first_texts.reading.Opening.{nothing_read, nothing_refused}
use Rattle.hermes.proofs.first.reader.read_nothing.Goals as goal

pub returns-then-strict : goal.returns-then-strict
returns-then-strict c = nothing_read c.args.strict c.new.result c.if-strict.true c.new.ensures

pub returns-else-strict : goal.returns-else-strict
returns-else-strict c = nothing_refused c.args.strict c.if-strict.false
