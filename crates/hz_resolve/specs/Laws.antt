-- What the scopes of functions obey, numbered one behind the other.
use Rattle.std.specs.Prelude.{◌≡◌, ◌<◌, ◌≤◌, ℕ, List, [], ◌∷◌, Some, None, slice_get}
use Rattle.hz_tree.specs.declared.scope.ScopeAt.{ScopeAt}
use Rattle.hz_tree.specs.trees.FunctionScopes.{Scope, FunctionScopes}
use Rattle.hz_tree.specs.trees.Layout.{PlacedScope, first_scope, number_of, placed, all_scopes, from_scope}

-- ---- numbers

abbrev pub number_at : List FunctionScopes → (k i : ℕ) → ℕ
number_at fs k i = number_of fs (record { function = k; scope = i })

-- function k is there, and has this scope i
pub record HasScope (fs : List FunctionScopes) (k i : ℕ) (f : FunctionScopes) (s : Scope) : Type 0 where
  pub function : slice_get fs k ≡ Some f
  pub scope : slice_get f.scopes i ≡ Some s

abbrev pub placed_at : List FunctionScopes → (k i : ℕ) → FunctionScopes → Scope → PlacedScope
placed_at fs k i f s = placed fs k (first_scope fs k) (number_at fs k i) f s

-- the scope with the number g is one of a function
pub record IsPlaced (fs : List FunctionScopes) (g : ℕ) (p : PlacedScope) : Type 0 where
  pub k : ℕ
  pub i : ℕ
  pub function : FunctionScopes
  pub scope : Scope
  pub has : HasScope fs k i function scope
  pub number : g ≡ number_at fs k i
  pub is : p ≡ placed_at fs k i function scope

-- each scope stands at the place of its number
abbrev pub AreNumbered : List FunctionScopes → Type 0
AreNumbered fs = (g : ℕ) (p : PlacedScope) → slice_get (all_scopes fs) g ≡ Some p → p.number ≡ g

-- those of the functions are there
abbrev pub AreThere : List FunctionScopes → Type 0
AreThere fs =
    (k i : ℕ) (f : FunctionScopes) (s : Scope) → HasScope fs k i f s
    → slice_get (all_scopes fs) (number_at fs k i) ≡ Some (placed_at fs k i f s)

-- and no others
abbrev pub AreOfFunctions : List FunctionScopes → Type 0
AreOfFunctions fs = (g : ℕ) (p : PlacedScope) → slice_get (all_scopes fs) g ≡ Some p → IsPlaced fs g p

-- no two have one number
abbrev pub AreApart : List FunctionScopes → Type 0
AreApart fs =
    (k i l j : ℕ) (f g : FunctionScopes) (s t : Scope) → HasScope fs k i f s → HasScope fs l j g t
    → number_at fs k i ≡ number_at fs l j → (k ≡ l) × (i ≡ j)

-- ---- functions

-- function k stands in a scope that is there, of a function before it
pub record StandsIn (fs : List FunctionScopes) (k : ℕ) (f : FunctionScopes) : Type 0 where
  pub at : ScopeAt
  pub is : f.around ≡ Some at
  pub before : at.function < k
  pub outer : FunctionScopes
  pub scope : Scope
  pub there : HasScope fs at.function at.scope outer scope

abbrev pub FunctionsStand : List FunctionScopes → Type 0
FunctionsStand fs = (k : ℕ) (f : FunctionScopes) → slice_get fs k ≡ Some f → 0 < k → StandsIn fs k f

-- function 0 is the script
abbrev pub ScriptStandsInNone : List FunctionScopes → Type 0
ScriptStandsInNone fs = (f : FunctionScopes) → slice_get fs 0 ≡ Some f → f.around ≡ None

-- the first scope of a function has none of its scopes round it
pub record HasOutermost (f : FunctionScopes) : Type 0 where
  pub scope : Scope
  pub there : slice_get f.scopes 0 ≡ Some scope
  pub outermost : scope.parent ≡ None

abbrev pub HaveFirst : List FunctionScopes → Type 0
HaveFirst fs = (k : ℕ) (f : FunctionScopes) → slice_get fs k ≡ Some f → HasOutermost f

-- and each other one has one before it
pub record HasParent (i : ℕ) (s : Scope) : Type 0 where
  pub parent : ℕ
  pub is : s.parent ≡ Some parent
  pub before : parent < i

abbrev pub HaveParents : List FunctionScopes → Type 0
HaveParents fs = (k i : ℕ) (f : FunctionScopes) (s : Scope) → HasScope fs k i f s → 0 < i → HasParent i s

-- ---- nesting

-- the scope round a scope stands before it, in the same function or in one before
pub record IsInside (scopes : List PlacedScope) (g : ℕ) (p : PlacedScope) : Type 0 where
  pub around : ℕ
  pub is : p.around ≡ Some around
  pub before : around < g
  pub outer : PlacedScope
  pub there : slice_get scopes around ≡ Some outer
  pub function : outer.function ≤ p.function

-- each scope but the first is inside of another
abbrev pub AreInside : List FunctionScopes → Type 0
AreInside fs =
    (g : ℕ) (p : PlacedScope) → slice_get (all_scopes fs) g ≡ Some p → 0 < g → IsInside (all_scopes fs) g p

-- the first is the script's, and stands in none
abbrev pub IsOutermost : List FunctionScopes → Type 0
IsOutermost fs = (p : PlacedScope) → slice_get (all_scopes fs) 0 ≡ Some p → (p.function ≡ 0) × (p.around ≡ None)

-- the scopes of a function stand before those of the next
abbrev pub AreOrdered : List FunctionScopes → Type 0
AreOrdered fs =
    (g h : ℕ) (p q : PlacedScope) → slice_get (all_scopes fs) g ≡ Some p → slice_get (all_scopes fs) h ≡ Some q
    → g ≤ h → p.function ≤ q.function

-- the way outwards from a scope goes on with that from the scope round it
abbrev pub WaysGoOn : List FunctionScopes → Type 0
WaysGoOn fs =
    (r : ℕ) (p q : PlacedScope) → slice_get (all_scopes fs) p.number ≡ Some p → p.around ≡ Some r
    → slice_get (all_scopes fs) r ≡ Some q → from_scope (all_scopes fs) p ≡ p ∷ from_scope (all_scopes fs) q

-- and ends where none stands round it
abbrev pub WaysEnd : List FunctionScopes → Type 0
WaysEnd fs =
    (p : PlacedScope) → slice_get (all_scopes fs) p.number ≡ Some p → p.around ≡ None
    → from_scope (all_scopes fs) p ≡ p ∷ []
