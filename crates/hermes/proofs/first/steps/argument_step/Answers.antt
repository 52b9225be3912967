use Rattle.std.proofs.Common.{arith, refl}
use Rattle.hermes.proofs.first_texts.reading.Arguments.{argument_halts}
use Rattle.hermes.proofs.first_texts.reading.Steps.{quote_opens, digit_opens, digit_number}
use Rattle.hermes.proofs.first.steps.argument_step.Goals as goal

pub returns-then-byte-eq34 : goal.returns-then-byte-eq34
returns-then-byte-eq34 c = λ source done.
    ((omega arith, omega arith), quote_opens source c.args.at c.args.byte done c.if-byte-eq34.true)

pub returns-in-Some : goal.returns-in-Some
returns-in-Some c = λ source done. (
  digit_number c.in-Some.digit c.in-Some.ensures.0,
  digit_opens c.args.byte c.in-Some.digit done c.in-Some.ensures.0 c.in-Some.ensures.1,
)

pub returns-in-None : goal.returns-in-None
returns-in-None c = λ source done.
    (refl, argument_halts done c.args.byte c.requires.solid c.if-byte-eq34.false c.in-None.ensures)
