-- Lists one behind the other, as parts of one list.
use Rattle.std.specs.Prelude.{ℕ, suc, ◌+◌, List, [], ◌∷◌, length, slice_range, Option, Some, None, option_map}
use Rattle.hz_tree.specs.trees.FunctionScopes.{Scope, FunctionScopes}
use Rattle.hz_tree.specs.trees.Layout.{PlacedScope, first_scope, number_of}
use Rattle.hz_resolve.specs.declared.functions.PlacedFunction.{PlacedFunction}

-- where each of some lists starts in the list of all of them, and where that ends
abbrev pub starts_of : {X : Type 0} → (X → ℕ) → (start : ℕ) → List X → List ℕ
starts_of size start [] = start ∷ []
starts_of size start (x ∷ more) = start ∷ starts_of size (start + size x) more

abbrev pub function_starts : List FunctionScopes → List ℕ
function_starts fs = starts_of (λ (f : FunctionScopes). length f.scopes) 0 fs

abbrev pub scope_starts : List PlacedScope → List ℕ
scope_starts scopes = starts_of (λ (s : PlacedScope). length s.names) 0 scopes

-- the part from each start to the next one
abbrev pub parts_of : {X : Type 0} → (starts : List ℕ) → List X → List (List X)
parts_of [] xs = []
parts_of (start ∷ []) xs = []
parts_of (start ∷ (end ∷ more)) xs = slice_range xs start end ∷ parts_of (end ∷ more) xs

-- ---- functions

abbrev pub around_of : List FunctionScopes → FunctionScopes → Option ℕ
around_of fs f = option_map (number_of fs) f.around

abbrev pub placed_function : List FunctionScopes → (k : ℕ) → FunctionScopes → PlacedFunction
placed_function fs k f = record {
  number = k;
  binds = f.binds;
  first = first_scope fs k;
  around = around_of fs f;
}

abbrev pub placed_in : PlacedFunction → (number : ℕ) → Scope → PlacedScope
placed_in f number s = record {
  number = number;
  function = f.number;
  binds = f.binds;
  around = elim s.parent [ None ↦ f.around | Some parent ↦ Some (f.first + parent) ];
  names = s.names;
}

-- its scopes from that one on
abbrev pub all_placed_in : PlacedFunction → (number : ℕ) → List Scope → List PlacedScope
all_placed_in f number [] = []
all_placed_in f number (s ∷ more) = placed_in f number s ∷ all_placed_in f (suc number) more
