-- Scopes one behind the other, and the names in them, numbered from the first scope's to the last one's.
use Rattle.std.specs.Prelude.{◌≡◌, ℕ, zero, suc, ◌+◌, ◌≤◌, Bool, true, ◌==◌, if◌then◌else◌, List, [], ◌∷◌}
use Rattle.std.specs.Prelude.{length, map, slice_get, Option, Some, None, option_map, option_and_then}
use Rattle.std.specs.List.{flat_map}
use Rattle.std.specs.Option.{option_or}
use Rattle.hz_tree.specs.declared.scope.BindingKind.{BindingKind}
use Rattle.hz_tree.specs.tokens.Text.{Text}
use Rattle.hz_tree.specs.trees.FunctionScopes.{ScopeName}
use Rattle.hz_tree.specs.trees.Layout.{PlacedScope, is_declaration, is_own}

-- a scope, and the number of its first name among the names of all scopes
pub record Numbered : Type 0 where
  pub scope : PlacedScope
  pub first : ℕ

abbrev pub numbered : (first : ℕ) → List PlacedScope → List Numbered
numbered first [] = []
numbered first (s ∷ more) = record { scope = s; first = first } ∷ numbered (first + length s.names) more

-- a name where it stands: how its scope declares it, that scope's number, and the number of its function. `own` tells
-- that it is the function's own `arguments`.
pub record Use : Type 0 where
  pub name : Text
  pub binding : Option BindingKind
  pub scope : ℕ
  pub function : ℕ
  pub own : Bool

abbrev pub use_in : PlacedScope → ScopeName → Use
use_in s n = record {
  name = n.name;
  binding = n.binding;
  scope = s.number;
  function = s.function;
  own = is_own n.name s;
}

abbrev pub uses_in : PlacedScope → List Use
uses_in s = map (use_in s) s.names

-- the names of all scopes
abbrev pub uses_of : List PlacedScope → List Use
uses_of scopes = flat_map uses_in scopes

abbrev pub scopes_of : List Numbered → List PlacedScope
scopes_of scopes = map (λ (s : Numbered). s.scope) scopes

-- these are scopes with the names of all of them
pub record HaveNames (scopes : List Numbered) (names : List Use) : Type 0 where
  pub in_order : scopes ≡ numbered 0 (scopes_of scopes)
  pub all_names : names ≡ uses_of (scopes_of scopes)
  pub few_scopes : length scopes ≤ 4294967295
  pub few_names : length names ≤ 4294967295

-- ---- declarations

-- the place of the first declaration of a name among these
abbrev pub declaration_among : Text → List ScopeName → Option ℕ
declaration_among name [] = None
declaration_among name (n ∷ more) =
    if is_declaration name n then Some 0 else option_map (λ i. suc i) (declaration_among name more)

-- its number among the names of all scopes
abbrev pub declaration : Text → Numbered → Option ℕ
declaration name s = option_map (λ i. s.first + i) (declaration_among name s.scope.names)

-- a name is looked for in all scopes, or in those of one function alone
abbrev pub is_within : Option ℕ → PlacedScope → Bool
is_within None s = true
is_within (Some function) s = function == s.function

abbrev pub declared_within : Option ℕ → Text → Numbered → Option ℕ
declared_within within name s = if is_within within s.scope then declaration name s else None

abbrev pub scope_at : List Numbered → Option ℕ → Option Numbered
scope_at scopes number = option_and_then (slice_get scopes) number

-- the number of the name that declares it in the first scope that does, from the scope `next` outwards
abbrev pub found_from : Option ℕ → Text → (steps : ℕ) → List Numbered → (next : Option ℕ) → Option ℕ
found_from within name zero scopes next = None
found_from within name (suc n) scopes next = elim (scope_at scopes next) [
  | None ↦ None
  | Some s ↦ option_or (declared_within within name s) (found_from within name n scopes s.scope.around)
]
