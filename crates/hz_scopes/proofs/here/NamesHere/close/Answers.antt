use Rattle.std.proofs.Common.{◌∙◌, ap, List, ℕ, Bor}
use Rattle.std.proofs.lemmas.List.{take-map}
use Rattle.hz_scopes.specs.Layers.{closed, first_start}
use Rattle.hz_scopes.proofs.StoredLemmas.{close_stored, nested_taken}
use Rattle.hz_scopes.proofs.here.NamesHere.close.Goals as goal

pub invariant_of-self : goal.invariant_of-self
invariant_of-self c =
    let i = c.self.inside in
    let f : Bor (List ℕ) → List ℕ = λ name. name.now in
    rw (
      c.truncate-2.ensures,
      c.close.ensures,
      c.truncate.ensures.items,
      c.innermost-start.ensures,
      c.self.invariant.0,
    ) (
      take-map f (first_start i.starts) i.entries.items,
      nested_taken i.starts i.entries.items c.self.invariant.1,
    )

pub returns : goal.returns
returns c =
    let i = c.self.inside in
    let f : Bor (List ℕ) → List ℕ = λ name. name.now in
    rw (c.close.ensures, c.truncate.ensures.items, c.innermost-start.ensures)
    (close_stored f i.starts i.entries.items ∙ ap closed c.self.view_is)
