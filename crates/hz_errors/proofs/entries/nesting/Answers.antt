use Rattle.std.proofs.Common.{ℕ, ◌-◌, get_or, ◌∙◌, ap, arith, inr, [], ◌∷◌}
use Rattle.hz_tree.specs.declared.limit.LimitKind.TheVariants as limit
use Rattle.hz_tree.specs.sources.Kinds.{order_of_limit}
use Rattle.hz_errors.specs.Found.{noted}
use Rattle.hz_errors.proofs.DeepLemmas.{nesting_more, nesting_end}
use Rattle.hz_errors.proofs.entries.nesting.Goals as goal

pub loop-k-preserved : goal.loop-k-preserved
loop-k-preserved c = record {
  found =
      let at : ℕ = get_or c.args.places.now (c.args.run.end - 1 - c.loop-k.k) 0 in
      c.with_limit-least.ensures
      ∙ ap (noted order_of_limit ((limit.Nesting, at) ∷ [])) c.loop-k.invariant.found
      ∙ nesting_more c.loop-k.k c.args.run.end c.args.places.now c.args.least c.loop-k.auto.k;
  within = inr (omega (arith, c.loop-k-test.true));
}

pub returns : goal.returns
returns c =
    c.loop-k.invariant.found
    ∙ nesting_end c.loop-k.k c.args.run.len c.args.run.end c.args.places.now c.args.least c.loop-k.auto.k
    (omega (arith, c.loop-k-test.false)) c.loop-k.invariant.within
