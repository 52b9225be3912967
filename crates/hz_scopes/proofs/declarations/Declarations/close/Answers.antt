use Rattle.std.proofs.Common.{◌∙◌, ap, List, ℕ}
use Rattle.std.proofs.lemmas.List.{take-map}
use Rattle.hz_scopes.specs.declared.declarations.Declaration.{Declaration}
use Rattle.hz_scopes.specs.Entries.{to_declared}
use Rattle.hz_scopes.specs.Layers.{closed, first_start}
use Rattle.hz_scopes.proofs.StoredLemmas.{close_stored, nested_taken}
use Rattle.hz_scopes.proofs.declarations.Declarations.close.Goals as goal

pub invariant_of-self : goal.invariant_of-self
invariant_of-self c =
    let i = c.self.inside in
    let f : Declaration → List ℕ = λ d. d.name.now in
    rw (
      c.truncate-2.ensures,
      c.close.ensures,
      c.truncate.ensures.items,
      c.innermost-start.ensures,
      c.self.invariant.0,
    ) (
      take-map f (first_start i.starts) i.entries.items,
      nested_taken i.starts i.entries.items c.self.invariant.1,
    )

pub returns : goal.returns
returns c =
    let i = c.self.inside in
    rw (c.close.ensures, c.truncate.ensures.items, c.innermost-start.ensures)
    (close_stored to_declared i.starts i.entries.items ∙ ap closed c.self.view_is)
