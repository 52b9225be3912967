use Rattle.hermes.proofs.first_texts.reading.SumSteps.{first_grown}
use Rattle.hermes.proofs.first.sums.multiplied.Goals as goal

pub returns-in_ok-push-in-None-clause-value : goal.returns-in_ok-push-in-None-clause-value
returns-in_ok-push-in-None-clause-value c =
    first_grown c.args.sum c.push-in-None.new.self c.pop.new.self c.args.number c.in_ok-push-in-None.ensures.ok
    c.in-None.ensures.last c.in-None.ensures.none
