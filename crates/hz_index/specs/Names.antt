-- Names as they are stored: two lists side by side.
use Rattle.std.specs.Prelude.{List, [], ◌∷◌, map, Option}
use denote.Ref.{Bor}
use Rattle.hz_tree.specs.declared.scope.BindingKind.{BindingKind}
use Rattle.hz_tree.specs.tokens.Text.{Text}
use Rattle.hz_tree.specs.trees.FunctionScopes.{ScopeName}
use Rattle.hz_index.specs.declared.names.ScopeName.{ScopeName as Known}

abbrev pub texts : List (Bor Text) → List Text
texts = map (λ n. n.now)

-- each name with the binding beside it
abbrev pub named : List (Bor Text) → List (Option BindingKind) → List ScopeName
named [] bindings = []
named (name ∷ names) [] = []
named (name ∷ names) (binding ∷ bindings) = record { name = name.now; binding = binding } ∷ named names bindings

-- a name as a call gives it
abbrev pub known_name : Known → ScopeName
known_name n = record { name = n.name.now; binding = n.binding }
