use Rattle.std.proofs.Common.{refl}
use Rattle.hermes.proofs.first_texts.reading.Steps.{digit_longer, no_zero_in_front, too_large}
use Rattle.hermes.proofs.first.steps.digit_step.Goals as goal

pub returns-then-value-eq0 : goal.returns-then-value-eq0
returns-then-value-eq0 c = λ source done.
    (refl, no_zero_in_front c.args.before c.args.value c.args.digit done c.requires.digit c.if-value-eq0.true)

pub returns-then-longer-gt-MAX_SAFE : goal.returns-then-longer-gt-MAX_SAFE
returns-then-longer-gt-MAX_SAFE c = λ source done. (
  refl,
  too_large c.args.before c.args.value c.args.digit done c.requires.value c.requires.digit
      c.if-longer-gt-MAX_SAFE.true,
)

pub returns : goal.returns
returns c = λ source done.
    digit_longer c.args.before c.args.value c.args.digit done c.requires.value c.requires.digit c.if-value-eq0.false
    c.if-longer-gt-MAX_SAFE.false
