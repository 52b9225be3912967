use Rattle.std.proofs.Common.{◌≡◌, ◌∙◌, ap, sym, arith, length, false, get_or, ◌+◌}
use mir.Val.{bool_byte}
use Rattle.std.proofs.lemmas.Option.{slice_get-get_or}
use Rattle.hz_resolve.proofs.Mapped.{count_fits, counts_next}
use Rattle.hz_resolve.proofs.passes.counts.Goals as goal

pub overflow_add-count : goal.overflow_add-count
overflow_add-count c =
    let tests = c.args.tests.now in
    let k = c.loop-test.test-index in
    omega (
      arith,
      count_fits tests k c.loop-test.count c.loop-test.before.items (get_or tests k false) c.loop-test.invariant
          c.loop-test-test.true,
      c.requires,
    )

pub loop-test-preserved : goal.loop-test-preserved
loop-test-preserved c =
    let tests = c.args.tests.now in
    let k = c.loop-test.test-index in
    counts_next tests k c.loop-test.count c.loop-test.before.items c.push-in-loop-test.new.self.items
    (get_or tests k false) c.loop-test.invariant (slice_get-get_or tests k false c.loop-test-test.true)
    c.in_ok-push-2.ensures.items
