use Rattle.std.proofs.Common.{sym, arith}
use Rattle.hz_value.proofs.DigitRuns.{are_digits_more, digits_value_step, natural_too_large}
use Rattle.hz_value.proofs.number_texts.natural.Goals as goal

pub returns-then-value-gt-MAX_SAFE-clause-value : goal.returns-then-value-gt-MAX_SAFE-clause-value
returns-then-value-gt-MAX_SAFE-clause-value c =
    let loop = c.loop-unit in
    let step = digits_value_step c.args.radix loop.value c.digit_of-digit.result c.args.digits.now loop.unit-index
    c.loop-unit-test.true loop.invariant.value c.digit_of-digit.ensures in
    sym (natural_too_large c.args.radix _ c.args.digits.now _ (omega arith) step c.if-value-gt-MAX_SAFE.true)

pub loop-unit-preserved : goal.loop-unit-preserved
loop-unit-preserved c =
    let loop = c.loop-unit in
    let digits = c.args.digits.now in record {
      digits = are_digits_more c.args.radix digits loop.unit-index c.loop-unit-test.true loop.invariant.digits
          (rw c.digit_of-digit.ensures at c.if-digit-radix.false);
      value = digits_value_step c.args.radix loop.value c.digit_of-digit.result digits loop.unit-index
          c.loop-unit-test.true loop.invariant.value c.digit_of-digit.ensures;
      bound = c.if-value-gt-MAX_SAFE.false;
    }
