use Rattle.std.proofs.Common.{◌∙◌, ap}
use Rattle.hz_scopes.specs.Layers.{closed}
use Rattle.hz_scopes.proofs.StoredLemmas.{nested_taken}
use Rattle.hz_scopes.proofs.UsesShown.{uses_close}
use Rattle.hz_scopes.proofs.uses.Uses.close.Goals as goal

pub invariant_of-self : goal.invariant_of-self
invariant_of-self c =
    let i = c.self.inside in (
      c.truncate.ensures.indexed,
      rw (c.close.ensures, c.truncate.ensures.fewer, c.innermost-start.ensures)
          (nested_taken i.starts i.entries.items c.self.invariant.1),
    )

pub returns : goal.returns
returns c =
    let i = c.self.inside in
    rw (c.close.ensures, c.truncate.ensures.fewer, c.innermost-start.ensures)
    (uses_close i.starts i.entries.items ∙ ap closed c.self.view_is)
