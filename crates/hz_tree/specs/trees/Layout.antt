-- Where each name of each scope is found: the layout of a source's functions.
use Rattle.std.specs.Prelude.{ℕ, zero, suc, ◌+◌, Bool, true, false, not, ◌&&◌, ◌==◌, if◌then◌else◌, List, [], ◌∷◌, ◌++◌}
use Rattle.std.specs.Prelude.{length, map, slice_get, codes, Option, Some, None, option_map, option_and_then}
use Rattle.std.specs.List.{list_any, filter}
use Rattle.std.specs.Option.{option_map_or}
use Rattle.std.specs.Str.{bytes_eq}
use Rattle.hz_tree.specs.declared.place.Place.{Place}
use Rattle.hz_tree.specs.declared.place.Place.TheVariants as place
use Rattle.hz_tree.specs.declared.scope.BindingKind.{BindingKind}
use Rattle.hz_tree.specs.declared.scope.BindingKind.TheVariants as binding
use Rattle.hz_tree.specs.declared.scope.ScopeAt.{ScopeAt}
use Rattle.hz_tree.specs.errors.Scopes.{occurs}
use Rattle.hz_tree.specs.tokens.Text.{Text}
use Rattle.hz_tree.specs.trees.FunctionScopes.{ScopeName, Scope, FunctionScopes}

-- ---- the scopes of a source, numbered one behind the other, function by function

-- `function` is the number of its function, and `binds` tells that this one binds `arguments`; `around` is the number
-- of the scope round it
pub record PlacedScope : Type 0 where
  pub number : ℕ
  pub function : ℕ
  pub binds : Bool
  pub around : Option ℕ
  pub names : List ScopeName

-- the number of the first scope of a function: those of the functions before it come before it
abbrev pub first_scope : List FunctionScopes → (k : ℕ) → ℕ
first_scope [] k = 0
first_scope (f ∷ fs) zero = 0
first_scope (f ∷ fs) (suc k) = length f.scopes + first_scope fs k

abbrev pub number_of : List FunctionScopes → ScopeAt → ℕ
number_of fs at = first_scope fs at.function + at.scope

-- the scope round a function's own is the one in which the function stands
abbrev pub around_scope : List FunctionScopes → (first : ℕ) → FunctionScopes → Scope → Option ℕ
around_scope fs first f s =
    elim s.parent [ None ↦ option_map (number_of fs) f.around | Some parent ↦ Some (first + parent) ]

abbrev pub placed : List FunctionScopes → (k first number : ℕ) → FunctionScopes → Scope → PlacedScope
placed fs k first number f s = record {
  number = number;
  function = k;
  binds = f.binds;
  around = around_scope fs first f s;
  names = s.names;
}

-- the scopes of function k from that one on
abbrev pub placed_from : List FunctionScopes → (k first number : ℕ) → FunctionScopes → List Scope → List PlacedScope
placed_from fs k first number f [] = []
placed_from fs k first number f (s ∷ more) =
    placed fs k first number f s ∷ placed_from fs k first (suc number) f more

-- those of the functions from function k on
abbrev pub scopes_from : List FunctionScopes → (k first : ℕ) → List FunctionScopes → List PlacedScope
scopes_from fs k first [] = []
scopes_from fs k first (f ∷ more) =
    placed_from fs k first first f f.scopes ++ scopes_from fs (suc k) (first + length f.scopes) more

abbrev pub all_scopes : List FunctionScopes → List PlacedScope
all_scopes fs = scopes_from fs 0 0 fs

-- ---- declarations

-- A scope and those round it, from there outwards. A scope's number is greater than that of the one round it, so as many
-- steps as there are scopes are enough.
abbrev pub outwards : (steps : ℕ) → List PlacedScope → (number : Option ℕ) → List PlacedScope
outwards zero scopes number = []
outwards (suc n) scopes None = []
outwards (suc n) scopes (Some number) =
    elim (slice_get scopes number) [ None ↦ [] | Some s ↦ s ∷ outwards n scopes s.around ]

abbrev pub from_scope : List PlacedScope → PlacedScope → List PlacedScope
from_scope scopes s = outwards (length scopes) scopes (Some s.number)

-- The `arguments` of a function that binds them are looked for in no function round it.
abbrev pub is_own : Text → PlacedScope → Bool
is_own name s = s.binds && bytes_eq name (codes "arguments")

abbrev pub shares_function : PlacedScope → PlacedScope → Bool
shares_function s other = s.function == other.function

-- the scopes in which a name is looked for that stands in this one
abbrev pub searched : List PlacedScope → Text → PlacedScope → List PlacedScope
searched scopes name s =
    if is_own name s then filter (shares_function s) (from_scope scopes s) else from_scope scopes s

abbrev pub is_declaration : Text → ScopeName → Bool
is_declaration name n = bytes_eq n.name name && elim n.binding [ None ↦ false | Some binding ↦ true ]

abbrev pub declares : Text → PlacedScope → Bool
declares name s = list_any (is_declaration name) s.names

-- the first of these that declares the name
abbrev pub declaring : Text → List PlacedScope → Option PlacedScope
declaring name [] = None
declaring name (s ∷ outer) = if declares name s then Some s else declaring name outer

abbrev pub found : List PlacedScope → Text → PlacedScope → Option PlacedScope
found scopes name s = declaring name (searched scopes name s)

-- ---- slots

-- A name that the script declares as a var, or by a function declaration, is one of the global object.
abbrev pub is_global : PlacedScope → Option BindingKind → Bool
is_global s bound = s.number == 0 && elim bound [ Some binding.Var ↦ true | other ↦ false ]

abbrev pub lists : Text → PlacedScope → Bool
lists name s = list_any (λ n. bytes_eq n.name name) s.names

-- a scope of another function lists the name, and finds it in this one
abbrev pub takes : List PlacedScope → PlacedScope → Text → PlacedScope → Bool
takes scopes s name other =
    not (shares_function s other)
    && (lists name other && option_map_or (λ (at : PlacedScope). at.number == s.number) (found scopes name other) false)

-- whether a name that the scope lists has a slot in its environment
abbrev pub has_slot : List PlacedScope → PlacedScope → ScopeName → Bool
has_slot scopes s n =
    is_declaration n.name n && (not (is_global s n.binding) && list_any (takes scopes s n.name) scopes)

-- the names of a scope that have slots, in the order of the slots
abbrev pub slot_names : List PlacedScope → PlacedScope → List Text
slot_names scopes s = map (λ (n : ScopeName). n.name) (filter (has_slot scopes s) s.names)

abbrev pub has_slots : List PlacedScope → PlacedScope → Bool
has_slots scopes s = elim (slot_names scopes s) [ [] ↦ false | name ∷ more ↦ true ]

abbrev pub place_in : Text → (number : ℕ) → List Text → ℕ
place_in name number [] = number
place_in name number (other ∷ more) = if bytes_eq other name then number else place_in name (suc number) more

-- ---- places

-- how many environments lie between: the scopes with slots before the declaring one, that of the use among them
abbrev pub hops_to : List PlacedScope → PlacedScope → List PlacedScope → ℕ
hops_to scopes at [] = 0
hops_to scopes at (s ∷ outer) =
    if s.number == at.number then 0
    else (if has_slots scopes s then suc (hops_to scopes at outer) else hops_to scopes at outer)

abbrev pub binding_in : Text → PlacedScope → Option BindingKind
binding_in name s = elim (filter (is_declaration name) s.names) [ [] ↦ None | n ∷ more ↦ n.binding ]

-- the place of a name that stands in the scope s and that the scope `at` declares
abbrev pub declared_place : List PlacedScope → Text → (at s : PlacedScope) → Place
declared_place scopes name at s =
    if is_global at (binding_in name at) then place.Global
    else (if occurs name (slot_names scopes at)
    then place.Slot (hops_to scopes at (searched scopes name s)) (place_in name 0 (slot_names scopes at))
    else place.Register)

-- A name that no scope declares is a global one, but `arguments` in a function that is no arrow.
abbrev pub undeclared_place : Text → PlacedScope → Place
undeclared_place name s = if is_own name s then place.Register else place.Global

-- where a name is found that stands in this scope
unfoldable pub place_of : List PlacedScope → Text → PlacedScope → Place
place_of scopes name s =
    elim (found scopes name s) [ None ↦ undeclared_place name s | Some at ↦ declared_place scopes name at s ]

abbrev pub place_among : List PlacedScope → (n : ℕ) → PlacedScope → Option Place
place_among scopes n s =
    option_map (λ (name : ScopeName). place_of scopes name.name s) (slice_get s.names n)

-- the layout of functions with their scopes: the place of the name with the number n among those of scope i of function k
unfoldable pub layout : List FunctionScopes → (k i n : ℕ) → Option Place
layout fs k i n =
    let scopes = all_scopes fs in
    option_and_then (λ (f : FunctionScopes). option_and_then (λ (s : Scope).
    option_and_then (place_among scopes n) (slice_get scopes (number_of fs (record { function = k; scope = i }))))
    (slice_get f.scopes i)) (slice_get fs k)
