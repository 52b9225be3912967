use Rattle.std.proofs.Common.{◌∙◌, ap, List, Some}
use Rattle.hz_index.specs.Table.{with_name}
use Rattle.hz_tree.specs.trees.FunctionScopes.{ScopeName, Used}
use Rattle.hz_scopes.specs.Entries.{to_declared}
use Rattle.hz_scopes.specs.Layers.{Layers}
use Rattle.hz_scopes.specs.Links.{without}
use Rattle.hz_scopes.proofs.NamingLemmas.{no_names, outside_none, named_step, taken_step}
use Rattle.hz_scopes.proofs.naming.add_declared.Goals as goal

pub loop-place-init : goal.loop-place-init
loop-place-init c = record {
  named = no_names c.args.table.now;
  taken = ap (λ us. record c.args.uses.now { inner = us }) (outside_none c.args.uses.now.inner);
}

pub loop-place-preserved : goal.loop-place-preserved
loop-place-preserved c =
    let ds = c.args.declared.now.inner in
    let place = c.loop-place.place in
    let d = to_declared c.get-declaration.result in
    let name : ScopeName = record { name = d.name; binding = Some d.binding } in
    record {
      named = c.in_ok-add_name.ensures ∙ ap (with_name name) c.loop-place.invariant.named
          ∙ named_step ds place d c.args.table.now c.get-declaration.ensures;
      taken = c.take_out.ensures.taken
          ∙ ap (λ (us : Layers Used). record us { inner = without d.name us.inner }) c.loop-place.invariant.taken
          ∙ ap (λ (inner : List Used). record c.args.uses.now { inner = inner })
          (taken_step ds place d c.args.uses.now.inner c.get-declaration.ensures);
    }
