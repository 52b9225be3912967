-- What the places of names obey.
use Rattle.std.specs.Prelude.{◌≡◌, ◌<◌, ℕ, true, false, if◌then◌else◌, List, ◌∷◌, ◌++◌, length, slice_get}
use Rattle.std.specs.Prelude.{Some, ◌⊎◌}
use Rattle.std.specs.List.{list_any, filter}
use Rattle.hz_tree.specs.declared.place.Place.{Place}
use Rattle.hz_tree.specs.declared.place.Place.TheVariants as place
use Rattle.hz_tree.specs.declared.scope.BindingKind.TheVariants as binding
use Rattle.hz_tree.specs.errors.Scopes.{occurs}
use Rattle.hz_tree.specs.tokens.Text.{Text}
use Rattle.hz_tree.specs.trees.FunctionScopes.{ScopeName, Scope, FunctionScopes}
use Rattle.hz_tree.specs.trees.Layout.{PlacedScope, all_scopes, from_scope, searched, is_own, declares}
use Rattle.hz_tree.specs.trees.Layout.{binding_in, is_global}
use Rattle.hz_tree.specs.trees.Layout.{slot_names, has_slots, place_in, place_of, layout}
use Rattle.hz_resolve.specs.Laws.{HasScope, placed_at, AreNumbered, AreThere, AreOfFunctions, AreApart, AreInside}
use Rattle.hz_resolve.specs.Laws.{FunctionsStand, ScriptStandsInNone, HaveFirst, HaveParents}
use Rattle.hz_resolve.specs.Laws.{IsOutermost, AreOrdered, WaysGoOn, WaysEnd}

-- The name with the number n of scope i of function k is there. It is x, and its scope is p.
pub record IsListed (fs : List FunctionScopes) (k i n : ℕ) (p : PlacedScope) (x : ScopeName) : Type 0 where
  pub function : FunctionScopes
  pub scope : Scope
  pub has : HasScope fs k i function scope
  pub placed : p ≡ placed_at fs k i function scope
  pub name : slice_get scope.names n ≡ Some x

-- function k has a scope i with a name n
pub record HasPlace (fs : List FunctionScopes) (k i n : ℕ) : Type 0 where
  pub scope : PlacedScope
  pub name : ScopeName
  pub listed : IsListed fs k i n scope name

-- ---- where a name is found that stands in the scope s

-- `at` is the first scope on the way outwards that declares the name. For the own `arguments` of a function it is one
-- of its scopes.
pub record IsFound (scopes : List PlacedScope) (name : Text) (s at : PlacedScope) : Type 0 where
  pub before : List PlacedScope
  pub behind : List PlacedScope
  pub way : from_scope scopes s ≡ before ++ at ∷ behind
  pub there : slice_get scopes at.number ≡ Some at
  pub declared : declares name at ≡ true
  pub first : list_any (declares name) before ≡ false
  pub own : is_own name s ≡ true → at.function ≡ s.function

-- In a slot: `hops` scopes with slots stand before the one that declares it, and the name of that slot is this one.
pub record IsInSlot (scopes : List PlacedScope) (name : Text) (s : PlacedScope) (hops slot : ℕ) : Type 0 where
  pub at : PlacedScope
  pub found : IsFound scopes name s at
  pub local : is_global at (binding_in name at) ≡ false
  pub crossed : hops ≡ length (filter (has_slots scopes) found.before)
  pub number : slot ≡ place_in name 0 (slot_names scopes at)
  pub below : slot < length (slot_names scopes at)
  pub named : slice_get (slot_names scopes at) slot ≡ Some name

-- in a register: a scope of the same function declares it
pub record IsHeld (scopes : List PlacedScope) (name : Text) (s : PlacedScope) : Type 0 where
  pub at : PlacedScope
  pub found : IsFound scopes name s at
  pub local : is_global at (binding_in name at) ≡ false
  pub function : at.function ≡ s.function
  pub slotless : occurs name (slot_names scopes at) ≡ false

-- or it is the own `arguments` of the function, which none of its scopes on the way declares
pub record IsOwn (scopes : List PlacedScope) (name : Text) (s : PlacedScope) : Type 0 where
  pub own : is_own name s ≡ true
  pub undeclared : list_any (declares name) (searched scopes name s) ≡ false

abbrev pub IsInRegister : List PlacedScope → Text → PlacedScope → Type 0
IsInRegister scopes name s = IsHeld scopes name s ⊎ IsOwn scopes name s

-- global: the script declares it as a var
pub record IsScriptVar (scopes : List PlacedScope) (name : Text) (s : PlacedScope) : Type 0 where
  pub at : PlacedScope
  pub found : IsFound scopes name s at
  pub script : at.number ≡ 0
  pub bound : binding_in name at ≡ Some binding.Var

-- or no scope on the way declares it
pub record IsNowhere (scopes : List PlacedScope) (name : Text) (s : PlacedScope) : Type 0 where
  pub foreign : is_own name s ≡ false
  pub undeclared : list_any (declares name) (from_scope scopes s) ≡ false

abbrev pub IsGlobalName : List PlacedScope → Text → PlacedScope → Type 0
IsGlobalName scopes name s = IsScriptVar scopes name s ⊎ IsNowhere scopes name s

-- the place of a name in the scope that declares it
abbrev pub own_place : List PlacedScope → Text → PlacedScope → Place
own_place scopes name s =
    if is_global s (binding_in name s) then place.Global
    else (if occurs name (slot_names scopes s)
    then place.Slot 0 (place_in name 0 (slot_names scopes s))
    else place.Register)

-- ---- laws of the places of listed names

-- each name that is there has a place
abbrev pub HavePlaces : List FunctionScopes → Type 0
HavePlaces fs =
    (k i n : ℕ) (p : PlacedScope) (x : ScopeName) → IsListed fs k i n p x
    → layout fs k i n ≡ Some (place_of (all_scopes fs) x.name p)

-- and no other
abbrev pub ArePlacesOfNames : List FunctionScopes → Type 0
ArePlacesOfNames fs = (k i n : ℕ) (found : Place) → layout fs k i n ≡ Some found → HasPlace fs k i n

abbrev pub SlotsAreFound : List FunctionScopes → Type 0
SlotsAreFound fs =
    (k i n hops slot : ℕ) (p : PlacedScope) (x : ScopeName) → IsListed fs k i n p x
    → layout fs k i n ≡ Some (place.Slot hops slot) → IsInSlot (all_scopes fs) x.name p hops slot

abbrev pub RegistersAreLocal : List FunctionScopes → Type 0
RegistersAreLocal fs =
    (k i n : ℕ) (p : PlacedScope) (x : ScopeName) → IsListed fs k i n p x → layout fs k i n ≡ Some place.Register
    → IsInRegister (all_scopes fs) x.name p

abbrev pub GlobalsAreUndeclaredOrVars : List FunctionScopes → Type 0
GlobalsAreUndeclaredOrVars fs =
    (k i n : ℕ) (p : PlacedScope) (x : ScopeName) → IsListed fs k i n p x → layout fs k i n ≡ Some place.Global
    → IsGlobalName (all_scopes fs) x.name p

-- a name that its scope declares is found in it
abbrev pub DeclaredAreHere : List FunctionScopes → Type 0
DeclaredAreHere fs =
    (k i n : ℕ) (p : PlacedScope) (x : ScopeName) → IsListed fs k i n p x → declares x.name p ≡ true
    → layout fs k i n ≡ Some (own_place (all_scopes fs) x.name p)

-- ---- all laws

pub record IsLayout (fs : List FunctionScopes) : Type 0 where
  pub numbered : AreNumbered fs
  pub there : AreThere fs
  pub of_functions : AreOfFunctions fs
  pub apart : AreApart fs
  pub functions : FunctionsStand fs
  pub script : ScriptStandsInNone fs
  pub first : HaveFirst fs
  pub parents : HaveParents fs
  pub inside : AreInside fs
  pub outermost : IsOutermost fs
  pub ordered : AreOrdered fs
  pub ways : WaysGoOn fs
  pub ways_end : WaysEnd fs
  pub places : HavePlaces fs
  pub names : ArePlacesOfNames fs
  pub slots : SlotsAreFound fs
  pub registers : RegistersAreLocal fs
  pub globals : GlobalsAreUndeclaredOrVars fs
  pub declared : DeclaredAreHere fs
