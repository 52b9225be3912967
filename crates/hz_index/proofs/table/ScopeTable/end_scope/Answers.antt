use Rattle.std.proofs.Common.{◌∙◌, ap}
use Rattle.hz_index.specs.Table.{with_end}
use Rattle.hz_index.proofs.FlatLemmas.{end_shown}
use Rattle.hz_index.proofs.table.ScopeTable.end_scope.Goals as goal

pub returns : goal.returns
returns c =
    let i = c.self.inside in
    end_shown i.names i.settled i.scopes.items i.listed.items i.functions.items c.self.invariant c.args.place c.args.end
    c.len.result c.name_scope.new.listed.items c.len.ensures c.name_scope.ensures
    ∙ ap (with_end c.args.place c.args.end) c.self.view_is
