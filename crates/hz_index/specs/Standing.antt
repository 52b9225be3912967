-- Where a function stands, and what it binds, as the list of the functions of a source tells it and as their scopes do.
use Rattle.std.specs.Prelude.{ℕ, Bool, Option, option_map}
use Rattle.hz_tree.specs.declared.index.FunctionInfo.{FunctionInfo}
use Rattle.hz_tree.specs.declared.scope.ScopeAt.{ScopeAt}
use Rattle.hz_tree.specs.trees.FunctionScopes.{FunctionScopes, binds_this}

-- the number of the function round it, and whether it binds `this`, `new.target` and `arguments`
pub record Standing : Type 0 where
  pub parent : Option ℕ
  pub binds : Bool

abbrev pub of_info : FunctionInfo → Standing
of_info f = record { parent = f.parent; binds = binds_this f.kind }

abbrev pub of_scopes : FunctionScopes → Standing
of_scopes f = record { parent = option_map (λ (at : ScopeAt). at.function) f.around; binds = f.binds }
