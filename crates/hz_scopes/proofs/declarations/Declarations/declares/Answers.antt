use Rattle.std.proofs.Common.{◌∙◌, ap, drop}
use Rattle.hz_tree.specs.errors.Scopes.{occurs}
use Rattle.hz_tree.specs.trees.FunctionScopes.{declares_name}
use Rattle.hz_scopes.proofs.StoredLemmas.{declares_stored}
use Rattle.hz_scopes.proofs.declarations.Declarations.declares.Goals as goal

pub returns : goal.returns
returns c =
    let i = c.self.inside in
    let name = c.args.name.now in
    c.occurs_from.ensures ∙ ap (λ m. occurs name (drop m i.names)) c.innermost.ensures
    ∙ declares_stored name i.starts i.entries.items i.names c.self.invariant.0
    ∙ ap (λ l. declares_name name l.inner) c.self.view_is
