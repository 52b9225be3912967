-- What is found out of each name of all scopes, one after the other.
use Rattle.std.specs.Prelude.{◌≡◌, ℕ, zero, suc, ◌+◌, ◌-◌, ◌≤◌, Bool, true, false, not, ◌&&◌, ◌==◌, nat_lt}
use Rattle.std.specs.Prelude.{if◌then◌else◌, List, [], ◌∷◌, length, map, take, slice_get, Option, Some, None}
use Rattle.std.specs.Prelude.{is_some, option_and_then}
use Rattle.std.specs.List.{list_any}
use Rattle.std.specs.Option.{option_map_or}
use Rattle.hz_tree.specs.declared.place.Place.{Place}
use Rattle.hz_tree.specs.declared.place.Place.TheVariants as place
use Rattle.hz_tree.specs.declared.scope.BindingKind.TheVariants as binding
use Rattle.hz_tree.specs.trees.Layout.{PlacedScope}
use Rattle.hz_resolve.specs.Numbered.{Numbered, numbered, Use, uses_of, is_within, scope_at, found_from}

-- ---- declarations

abbrev pub within_of : Use → Option ℕ
within_of u = if u.own then Some u.function else None

-- the number of the name that declares a name
unfoldable pub found_of : List PlacedScope → Use → Option ℕ
found_of scopes u = found_from (within_of u) u.name (length scopes) (numbered 0 scopes) (Some u.scope)

-- ---- slots

abbrev pub other_function : Use → (q : ℕ) → Use → Option ℕ
other_function u q d = if d.function == u.function then None else Some q

abbrev pub outer_of_found : List Use → Use → (q : ℕ) → Option ℕ
outer_of_found names u q = option_and_then (other_function u q) (slice_get names q)

-- the same where it stands in another function
abbrev pub outer_of : List PlacedScope → Use → Option ℕ
outer_of scopes u = option_and_then (outer_of_found (uses_of scopes) u) (found_of scopes u)

abbrev pub is_number : ℕ → Option ℕ → Bool
is_number q None = false
is_number q (Some p) = p == q

-- a name of another function finds its declaration here
unfoldable pub is_taken : List PlacedScope → (q : ℕ) → Bool
is_taken scopes q = list_any (is_number q) (map (outer_of scopes) (uses_of scopes))

abbrev pub is_global_use : Use → Bool
is_global_use u = u.scope == 0 && elim u.binding [ Some binding.Var ↦ true | other ↦ false ]

-- it is declared where it stands, and has a slot there
unfoldable pub has_slot_of : List PlacedScope → Use → Bool
has_slot_of scopes u =
    is_some u.binding && (not (is_global_use u) && option_map_or (is_taken scopes) (found_of scopes u) false)

abbrev pub slot_tests : List PlacedScope → List Bool
slot_tests scopes = map (has_slot_of scopes) (uses_of scopes)

abbrev pub count_true : List Bool → ℕ
count_true [] = 0
count_true (true ∷ more) = suc (count_true more)
count_true (false ∷ more) = count_true more

-- how many pass before each place and before the end
pub record Counts (tests : List Bool) (before : List ℕ) : Type 0 where
  pub long : length before ≡ length tests + 1
  pub each : (i : ℕ) → i ≤ length tests → slice_get before i ≡ Some (count_true (take i tests))

-- how many of the names before that number have a slot
unfoldable pub slots_before : List PlacedScope → (q : ℕ) → ℕ
slots_before scopes q = count_true (take q (slot_tests scopes))

abbrev pub has_slots_here : List PlacedScope → Numbered → Bool
has_slots_here scopes s = nat_lt (slots_before scopes s.first) (slots_before scopes (s.first + length s.scope.names))

-- ---- places

-- how many scopes with slots come before that of the number `to`, from the scope `next` outwards
abbrev pub hops_from : List PlacedScope → (within : Option ℕ) → (to steps : ℕ) → (next : Option ℕ) → ℕ
hops_from scopes within to zero next = 0
hops_from scopes within to (suc n) next = elim (scope_at (numbered 0 scopes) next) [
  | None ↦ 0
  | Some s ↦
      if is_within within s.scope then
      (if s.scope.number == to then 0
      else (if has_slots_here scopes s then suc (hops_from scopes within to n s.scope.around)
      else hops_from scopes within to n s.scope.around))
      else hops_from scopes within to n s.scope.around
]

abbrev pub hops_of : List PlacedScope → (u d : Use) → ℕ
hops_of scopes u d = hops_from scopes (within_of u) d.scope (length scopes) (Some u.scope)

abbrev pub slot_of : List PlacedScope → (q : ℕ) → Use → ℕ
slot_of scopes q d = option_map_or (λ (s : Numbered). slots_before scopes q - slots_before scopes s.first)
    (slice_get (numbered 0 scopes) d.scope) 0

abbrev pub place_found : List PlacedScope → (u : Use) → (q : ℕ) → (d : Use) → Place
place_found scopes u q d =
    if is_global_use d then place.Global
    else (if has_slot_of scopes d then place.Slot (hops_of scopes u d) (slot_of scopes q d) else place.Register)

abbrev pub place_unfound : Use → Place
place_unfound u = if u.own then place.Register else place.Global

unfoldable pub place_of_use : List PlacedScope → Use → Place
place_of_use scopes u = elim (found_of scopes u) [
  | None ↦ place_unfound u
  | Some q ↦ option_map_or (place_found scopes u q) (slice_get (uses_of scopes) q) place.Global
]
