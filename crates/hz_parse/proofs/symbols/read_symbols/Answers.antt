use Rattle.std.proofs.Common.{ap, sym, refl, ◌∙◌}
use Rattle.hz_tree.specs.sources.Refusals.{functions as functions_in}
use Rattle.hz_parse.proofs.WholeLaws.{whole_goes}
use Rattle.hz_parse.proofs.symbols.read_symbols.Goals as goal

pub finish-requires : goal.finish-requires
finish-requires g c = (
  _,
  _,
  _,
  whole_goes _ c.args.place.now c.args.steps.now c.args.right.now
      (functions_in c.args.index.now.source) (ap (λ i. functions_in i.source) c.new.ensures) c.in_ok-push_all.ensures
      c.new-2.ensures c.new-3.ensures refl
      (c.requires.source ∙ sym (ap (λ i. i.source) c.new.ensures)) c.requires.inside c.requires.plain c.requires.read,
)

pub returns : goal.returns
returns g c =
    λ w.
    let done = c.in_ok-finish.ensures _ _ _
    (whole_goes _ c.args.place.now c.args.steps.now c.args.right.now (functions_in c.args.index.now.source)
    (ap (λ i. functions_in i.source) c.new.ensures) c.in_ok-push_all.ensures c.new-2.ensures c.new-3.ensures refl
    (c.requires.source ∙ sym (ap (λ i. i.source) c.new.ensures)) c.requires.inside c.requires.plain w) in
    (done.left, (done.made, done.counted))
