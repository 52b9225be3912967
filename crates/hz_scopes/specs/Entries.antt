-- What the entries of stored lists say.
use Rattle.std.specs.Borrow.{Bor}
use Rattle.std.specs.Prelude.{ℕ, List, map}
use Rattle.hz_tree.specs.tokens.Text.{Text}
use Rattle.hz_tree.specs.trees.FunctionScopes.{Declared}
use Rattle.hz_scopes.specs.declared.declarations.Declaration.{Declaration}

abbrev pub to_declared : Declaration → Declared
to_declared d = record { binding = d.binding; name = d.name.now }

abbrev pub declared_of : List Declaration → List Declared
declared_of entries = map to_declared entries

abbrev pub names_of : List Declaration → List Text
names_of entries = map (λ d. d.name.now) entries

abbrev pub texts_of : List (Bor (List ℕ)) → List Text
texts_of entries = map (λ name. name.now) entries
