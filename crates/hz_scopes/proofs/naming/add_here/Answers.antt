use Rattle.std.proofs.Common.{◌≡◌, ◌∙◌, ap, sym, cond, None}
use Rattle.hz_index.specs.Table.{with_name}
use Rattle.hz_scopes.specs.Naming.{shows}
use Rattle.hz_scopes.proofs.NamingLemmas.{here_step}
use Rattle.hz_scopes.proofs.naming.add_here.Goals.{then-lists+in_ok-add_name, else-lists}
use Rattle.hz_scopes.proofs.naming.add_here.Goals as goal

pub loop-place-preserved : goal.loop-place-preserved
loop-place-preserved c =
    let p = shows c.args.binds c.args.arguments c.args.declared.now.inner in
    let name = c.get-name.result.now in
    let before = c.loop-place.table in
    let after = with_name (record { name = name; binding = None }) before in
    let either : c.if-lists.table ≡ cond (p name) after before = elim c.if-lists.branch [
      | then-lists+in_ok-add_name w ↦
          w.table-is ∙ w.in_ok-add_name.ensures
          ∙ ap (λ b. cond b after before) (sym (sym c.lists.ensures ∙ w.if-lists.true))
      | else-lists w ↦
          w.table-is ∙ ap (λ b. cond b after before) (sym (sym c.lists.ensures ∙ w.if-lists.false))
    ] in
    either ∙ ap (λ t. cond (p name) (with_name (record { name = name; binding = None }) t) t) c.loop-place.invariant
    ∙ here_step p c.args.here.now.inner c.loop-place.place name c.args.table.now c.get-name.ensures
