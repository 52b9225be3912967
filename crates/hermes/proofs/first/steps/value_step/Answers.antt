use Rattle.hermes.proofs.first_texts.reading.Digits.{number_done, done_number}
use Rattle.hermes.proofs.first_texts.reading.Steps.{at_digit, step_from}
use Rattle.std.proofs.Common.{◌∷◌}
use Rattle.hermes.proofs.first.steps.value_step.Goals as goal

pub returns-in-Some : goal.returns-in-Some
returns-in-Some c = λ source.
    at_digit _ source c.args.at c.args.byte c.in-Some.digit c.args.calls.now c.digit_step.result c.in-Some.ensures.1
    (c.digit_step.ensures source c.args.calls.now)

pub returns-in_ok-sum-in-None : goal.returns-in_ok-sum-in-None
returns-in_ok-sum-in-None c = λ source.
    let sum = c.in_ok-sum-in-None.sum in
    step_from _ _ source c.args.at c.args.byte c.behind_step.new.calls c.behind_step.result
    (number_done c.args.before c.args.value sum c.args.calls.now c.args.byte c.requires.value c.in-None.ensures
    c.in_ok-sum-in-None.ensures.value)
    (λ r calls x. done_number c.args.before c.args.value sum c.args.calls.now c.requires.value
    c.in_ok-sum-in-None.ensures.value (c.args.byte ∷ r) calls x)
    (c.behind_step.ensures source)
