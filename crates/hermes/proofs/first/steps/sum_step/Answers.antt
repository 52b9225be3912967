use Rattle.std.proofs.Common.{refl}
use Rattle.hermes.proofs.first_texts.reading.Arguments.{sum_halts}
use Rattle.hermes.proofs.first_texts.reading.Steps.{sum_closes, sum_goes_on}
use Rattle.hermes.proofs.first.steps.sum_step.Goals as goal

pub returns-then-byte-eq41 : goal.returns-then-byte-eq41
returns-then-byte-eq41 c = λ source.
    (tt, sum_closes c.args.sum c.args.byte c.args.calls.now c.push.new.self c.if-byte-eq41.true c.in_ok-push.ensures.ok)

pub returns-in-Some : goal.returns-in-Some
returns-in-Some c = λ source.
    (tt, sum_goes_on c.args.sum c.in-Some.operator c.args.byte c.args.calls.now c.in-Some.ensures)

pub returns-in-None : goal.returns-in-None
returns-in-None c = λ source.
    (refl, sum_halts c.args.sum c.args.calls.now c.args.byte c.requires c.if-byte-eq41.false c.in-None.ensures)
