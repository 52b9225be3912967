use Rattle.std.proofs.Common.{◌∙◌, ap, sym, List, reverse}
use Rattle.std.specs.Prelude.{slice_set}
use Rattle.hz_scopes.specs.State.{State, of_body, finished}
use Rattle.hz_scopes.specs.Stored.{body_of, held_by}
use Rattle.hz_scopes.specs.declared.body.Block.{Block}
use Rattle.hz_scopes.specs.declared.scopes.OpenScopes.{OpenScopes}
use Rattle.hz_scopes.proofs.EndLemmas.{functions_behind}
use Rattle.hz_scopes.proofs.scopes.OpenScopes.finish.Goals as goal

pub returns : goal.returns
returns c =
    let one = c.drop_blocks.new.self in
    let end = c.args.length in
    ap (λ (s : OpenScopes). s.table.functions) c.in_ok-end_body.ensures.known
    ∙ functions_behind one end c.drop_blocks.ensures.gone.whole
    ∙ ap (λ (bs : List Block). slice_set one.table.functions one.body.number (of_body end (body_of one.body bs
    (held_by one))))
    (sym (ap reverse c.drop_blocks.ensures.none))
    ∙ ap (λ (s : State). finished end s) c.drop_blocks.ensures.gone.to
