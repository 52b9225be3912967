use Rattle.std.proofs.Common.{◌+◌, ◌-◌, ◌/◌, arith}
use Rattle.hz_tree.specs.sources.Refusals.{functions as functions_in}
use Rattle.hz_parse.proofs.Numbering.{halved, number_bounds}
use Rattle.hz_parse.proofs.numbered.NumberedNumbers.number_at.Goals.{then-high-eq0, else-high-eq0}
use Rattle.hz_parse.proofs.numbered.NumberedNumbers.number_at.Goals as goal

pub loop-low-init : goal.loop-low-init
loop-low-init c =
    let bounds = number_bounds c.args.place (functions_in c.args.self.now.index.now.source) in
    let size = c.count-high.ensures in
    elim c.if-high-eq0.branch [
      | then-high-eq0 w ↦ (let none = w.if-high-eq0 in let low = w.low-is in record {
        reached = omega (arith, low);
        bounded = omega (arith, bounds.0, size);
        inside = omega (arith, size);
        some = λ less. absurd (omega (arith, none, low, less));
      })
      | else-high-eq0 w ↦ (let some = w.if-high-eq0 in let low = w.low-is in record {
        reached = omega (arith, low, bounds.1 (omega (arith, some, size)));
        bounded = omega (arith, bounds.0, size);
        inside = omega (arith, size);
        some = λ less. omega (arith, low);
      })
    ]

pub loop-low-preserved-then-function-place : goal.loop-low-preserved-then-function-place
loop-low-preserved-then-function-place c =
    let less = c.loop-low-test.true in
    let some = c.loop-low.invariant.some less in
    let middle = c.loop-low.low + (c.loop-low.high - c.loop-low.low) / 2 in
    let h = halved c.args.self.now.index.now.source c.args.place middle c.function.result.now (omega (arith, some))
    c.function.ensures in
    record {
      reached = omega (arith, h.below c.if-function-place.true);
      bounded = c.loop-low.invariant.bounded;
      inside = c.loop-low.invariant.inside;
      some = λ still. omega arith;
    }

pub loop-low-preserved : goal.loop-low-preserved
loop-low-preserved c =
    let less = c.loop-low-test.true in
    let some = c.loop-low.invariant.some less in
    let middle = c.loop-low.low + (c.loop-low.high - c.loop-low.low) / 2 in
    let late = c.if-function-place.false in
    let h = halved c.args.self.now.index.now.source c.args.place middle c.function.result.now (omega (arith, some))
    c.function.ensures in
    let inside = c.loop-low.invariant.inside in
    record {
      reached = c.loop-low.invariant.reached;
      bounded = h.above (λ sooner. omega (arith, late, sooner));
      inside = omega (arith, less, inside);
      some = λ still. some;
    }
