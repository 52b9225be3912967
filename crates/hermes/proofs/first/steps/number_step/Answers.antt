use Rattle.std.proofs.Common.{refl}
use Rattle.hermes.proofs.first_texts.reading.Arguments.{number_halts}
use Rattle.hermes.proofs.first_texts.reading.Steps.{digit_goes_on, digit_number}
use Rattle.hermes.proofs.first.steps.number_step.Goals as goal

pub returns-in-Some : goal.returns-in-Some
returns-in-Some c = λ source done. (
  digit_number c.in-Some.digit c.in-Some.ensures.0,
  digit_goes_on c.args.sum c.args.operator c.args.byte c.in-Some.digit done c.in-Some.ensures.0
      c.in-Some.ensures.1,
)

pub returns-in-None : goal.returns-in-None
returns-in-None c = λ source done.
    (refl, number_halts c.args.sum c.args.operator done c.args.byte c.requires c.in-None.ensures)
