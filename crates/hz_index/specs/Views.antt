-- A scope as a call gives it.
use Rattle.hz_tree.specs.trees.FunctionScopes.{Scope}
use Rattle.hz_index.specs.declared.scopes.Scope.{Scope as Known}

abbrev pub known_scope : Known → Scope
known_scope s = record { kind = s.kind; start = s.start; end = s.end; parent = s.parent; names = s.names }
