use Rattle.std.proofs.Common.{◌+◌, arith}
use Rattle.hz_list.specs.declared.limits.TheConstants.{MAX_SAFE}
use Rattle.hz_scan.proofs.NumberLemmas.{goes_on, passes_on}
use Rattle.hz_scan.proofs.numbers.value.Goals as goal
use Rattle.hz_scan.proofs.numbers.value.Goals.{then-b-ne95, else-b-ne95}

pub loop-b-preserved : goal.loop-b-preserved
loop-b-preserved c = elim c.if-b-ne95.branch [
  | then-b-ne95 w ↦ (
    rw (w.value-is, w.min-value.ensures, w.digit.ensures.value)
        (goes_on (MAX_SAFE + 1) c.args.radix c.loop-b.value _ c.loop-b.b-index c.args.digits.now
        c.loop-b-test.true c.loop-b.invariant.0 c.requires w.if-b-ne95.true),
    omega arith,
  )
  | else-b-ne95 w ↦ (
    rw w.value-is
        (passes_on (MAX_SAFE + 1) c.args.radix c.loop-b.value _ c.loop-b.b-index c.args.digits.now
        c.loop-b-test.true c.loop-b.invariant.0 w.if-b-ne95.false),
    omega arith,
  )
]
