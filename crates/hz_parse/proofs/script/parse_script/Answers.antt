use Rattle.std.proofs.Common.{[], ap, sym, subst, ◌≢◌}
use Rattle.hz_tree.specs.sources.Refusals.{functions as functions_in}
use Rattle.hz_cuts.specs.Cuts.{cut_trees}
use Rattle.hz_parts.specs.declared.parts.Parts.{Parts as Stacks}
use Rattle.hz_parts.specs.Values.{seen_told}
use Rattle.hz_parse.proofs.script.parse_script.Goals as goal

pub with_items-requires : goal.with_items-requires
with_items-requires g c =
    subst (λ (p : Stacks). (p.seen ≢ []) × (p.lists ≢ []))
    (sym (c.in_ok-parts.ensures c.requires.read).1.0) ((λ e. cc), (λ e. cc))

pub returns : goal.returns
returns g c =
    λ w.
    let e = c.in_ok-parts.ensures w in (
      c.with_items.ensures (seen_told w.parts.0) []
          (cut_trees (functions_in c.args.index.now.source) w.parts.1.0) [] (ap (λ p. p.seen) e.1.0)
          (ap (λ p. p.lists) e.1.0),
      e.1.1,
    )
