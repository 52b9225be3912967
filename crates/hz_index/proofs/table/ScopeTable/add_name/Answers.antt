use Rattle.std.proofs.Common.{◌∙◌, ap}
use Rattle.std.proofs.lemmas.Result.{on_ok_weaker}
use Rattle.hz_tree.specs.trees.FunctionScopes.{ScopeName}
use Rattle.hz_index.specs.Table.{with_name}
use Rattle.hz_index.specs.Flat.{shown}
use Rattle.hz_index.proofs.FlatLemmas.{name_shown}
use Rattle.hz_index.proofs.table.ScopeTable.add_name.Goals as goal

pub returns : goal.returns
returns c =
    let i = c.self.inside in
    let n : ScopeName = record { name = c.args.name.now; binding = c.args.binding } in
    on_ok_weaker c.push.result (λ h.
    ap (λ names. shown names i.settled i.scopes.items i.listed.items i.functions.items) h
    ∙ name_shown i.names i.settled i.scopes.items i.listed.items i.functions.items c.self.invariant n
    ∙ ap (with_name n) c.self.view_is) c.push.ensures.ok
