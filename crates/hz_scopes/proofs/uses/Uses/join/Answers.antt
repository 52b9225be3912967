use Rattle.std.proofs.Common.{◌∙◌, ap}
use Rattle.hz_scopes.specs.Layers.{joined}
use Rattle.hz_scopes.proofs.UsesShown.{uses_join}
use Rattle.hz_scopes.proofs.uses.Uses.join.Goals as goal

pub returns : goal.returns
returns c =
    let i = c.self.inside in
    rw c.close.ensures (uses_join i.starts i.entries.items c.self.invariant.1 ∙ ap joined c.self.view_is)
