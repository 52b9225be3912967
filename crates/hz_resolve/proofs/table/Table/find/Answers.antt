use Rattle.std.proofs.Common.{◌≡◌, ◌∙◌}
use Rattle.hz_resolve.specs.Views.{known_use}
use Rattle.hz_resolve.proofs.Flat.{find_is}
use Rattle.hz_resolve.proofs.table.Table.find.Goals as goal

pub returns : goal.returns
returns c =
    let i = c.self.inside in
    rw (c.within.ensures, c.deref.ensures.value) at c.find.ensures
    ∙ find_is i.scopes.items c.args.self.now (known_use c.args.name.now) c.self.invariant.in_order c.self.view_is
