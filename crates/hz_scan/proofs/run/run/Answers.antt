use Rattle.std.proofs.Common.{sym, ap, ◌∙◌, arith}
use Rattle.std.proofs.lemmas.Grind.{common_steps}
use Rattle.hz_scan.proofs.RunLemmas.{joined_stops, goes_on}
use Rattle.hz_scan.proofs.run.run.Goals as goal

pub returns-then-part-eq0-clause-value : goal.returns-then-part-eq0-clause-value
returns-then-part-eq0-clause-value g c =
    let stops = ap (λ p. p.len) (sym c.part-part.ensures.value) ∙ c.if-part-eq0.true in
    sym (joined_stops (g.P.Repeats.part_of c.args.parts.now) c.parts.z.now
    (record { len = c.parts.len; marked = c.parts.marked }) stops) ∙ c.parts.invariant.0

pub parts-preserved : goal.parts-preserved
parts-preserved g c = (
  rw c.rest-z.ensures
      (goes_on (g.P.Repeats.part_of c.args.parts.now) c.parts.z.now
      (record { len = c.parts.len; marked = c.parts.marked })
      c.part-part.result c.part-part.ensures.value (omega arith) c.part-part.ensures.within _ c.parts.invariant.0),
  grind (arith, common_steps),
)
