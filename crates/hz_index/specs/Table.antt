-- The scopes of functions as they become known, from the first to the last.
use Rattle.std.specs.Prelude.{ℕ, Bool, false, List, [], ◌∷◌, ◌++◌, map, take, drop, slice_get, slice_set, Option, Some}
use Rattle.std.specs.Prelude.{None}
use Rattle.hz_tree.specs.declared.scope.ScopeAt.{ScopeAt}
use Rattle.hz_tree.specs.declared.scope.ScopeKind.{ScopeKind}
use Rattle.hz_tree.specs.trees.FunctionScopes.{ScopeName, Scope, FunctionScopes}

-- What is known of each function, the scopes of functions that have not ended, and the names that belong to the scope
-- or the function that ends next.
pub record Table : Type 0 where
  pub functions : List FunctionScopes
  pub listed : List Scope
  pub pending : List ScopeName

abbrev pub empty : Table
empty = record { functions = []; listed = []; pending = [] }

-- nothing is known of a function that has not ended
abbrev pub nothing_known : FunctionScopes
nothing_known = record { around = None; binds = false; scopes = []; free = [] }

abbrev pub with_function : Table → Table
with_function t = record t { functions = t.functions ++ nothing_known ∷ [] }

-- a scope as it is listed until it ends
abbrev pub unended : ScopeKind → (start : ℕ) → (parent : Option ℕ) → Scope
unended kind start parent = record { kind = kind; start = start; end = start; parent = parent; names = [] }

abbrev pub with_scope : ScopeKind → (start : ℕ) → (parent : Option ℕ) → Table → Table
with_scope kind start parent t = record t { listed = t.listed ++ unended kind start parent ∷ [] }

abbrev pub with_name : ScopeName → Table → Table
with_name name t = record t { pending = t.pending ++ name ∷ [] }

-- the scope at this place of those that are listed ends here, and has the names that came last
abbrev pub with_end : (place end : ℕ) → Table → Table
with_end place end t = record {
  functions = t.functions;
  listed = elim (slice_get t.listed place) [
    | None ↦ t.listed
    | Some s ↦ slice_set t.listed place (record s { end = end; names = t.pending })
  ];
  pending = [];
}

-- The function of this number ends. It stands there, and binds `this` or not. Its scopes are those that are listed from
-- this place on, and the names that came last are free in it.
abbrev pub with_function_end : (number from : ℕ) → (around : Option ScopeAt) → (binds : Bool) → Table → Table
with_function_end number from around binds t = record {
  functions = slice_set t.functions number (record {
    around = around;
    binds = binds;
    scopes = drop from t.listed;
    free = map (λ n. n.name) t.pending;
  });
  listed = take from t.listed;
  pending = [];
}
