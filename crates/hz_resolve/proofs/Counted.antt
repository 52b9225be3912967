-- How many names have slots, as the code counts them.
use Rattle.std.proofs.Common.{◌≡◌, ◌∙◌, ℕ, zero, suc, ◌+◌, ◌-◌, ◌≤◌, ◌<◌, Bool, true, false, List, [], ◌∷◌, ◌++◌}
use Rattle.std.proofs.Common.{length}
use Rattle.std.proofs.Common.{map, take, Option, Some, None, refl, ap, sym, arith, slice_index, nat_lt, get_or}
use Rattle.std.proofs.lemmas.List.{length-map}
use Rattle.std.proofs.lemmas.Option.{get_or_from_slice_get, same_Some}
use Rattle.std.specs.List.{slice_get}
use Rattle.hz_tree.specs.trees.Layout.{PlacedScope}
use Rattle.hz_resolve.specs.Numbered.{Numbered, numbered, Use, uses_of, scope_at, scopes_of}
use Rattle.hz_resolve.specs.Passes.{Counts, count_true, slot_tests, slots_before, has_slots_here, has_slot_of, slot_of}
use Rattle.hz_resolve.specs.Passes.{found_of, place_found, place_unfound, place_of_use}
use Rattle.std.specs.Option.{option_map_or, option_map}
use Rattle.hz_tree.specs.declared.place.Place.{Place}
use Rattle.hz_tree.specs.declared.place.Place.TheVariants as place
use Rattle.hz_resolve.proofs.Flat.{extent_inside, scopes_numbered}

pub inside_at : (scopes : List PlacedScope) (next : Option ℕ) (s : Numbered)
    → scope_at (numbered 0 scopes) next ≡ Some s → s.first + length s.scope.names ≤ length (uses_of scopes)
inside_at scopes None s e = cc
inside_at scopes (Some g) s e = extent_inside scopes g s e

pub slots_read : (scopes : List PlacedScope) (before : List ℕ) (q : ℕ) → Counts (slot_tests scopes) before
    → q ≤ length (uses_of scopes) → slice_index before q ≡ slots_before scopes q
unfolding slots_before
slots_read scopes before q counts h =
    let long = length-map (uses_of scopes) (has_slot_of scopes) in
    get_or_from_slice_get before q (count_true (take q (slot_tests scopes))) 0 (counts.each q (omega (arith, long, h)))

pub slots_here : (scopes : List PlacedScope) (before : List ℕ) (next : Option ℕ) (s : Numbered)
    → Counts (slot_tests scopes) before → scope_at (numbered 0 scopes) next ≡ Some s
    → nat_lt (slice_index before s.first) (slice_index before (s.first + length s.scope.names))
    ≡ has_slots_here scopes s
slots_here scopes before next s counts at =
    let inside = inside_at scopes next s at in
    ap (λ n. nat_lt n (slice_index before (s.first + length s.scope.names)))
    (slots_read scopes before s.first counts (omega (arith, inside)))
    ∙ ap (λ n. nat_lt (slots_before scopes s.first) n)
    (slots_read scopes before (s.first + length s.scope.names) counts inside)

-- how many slots come before a name in its own scope
pub slot_read : (scopes : List PlacedScope) (before : List ℕ) (q : ℕ) (d : Use) (s : Numbered)
    → Counts (slot_tests scopes) before → q < length (uses_of scopes) → slice_get (numbered 0 scopes) d.scope ≡ Some s
    → slice_index before q - slice_index before s.first ≡ slot_of scopes q d
slot_read scopes before q d s counts inside at =
    let first : s.first ≤ length (uses_of scopes) = omega (arith, extent_inside scopes d.scope s at) in
    ap (λ n. n - slice_index before s.first) (slots_read scopes before q counts (omega (arith, inside)))
    ∙ ap (λ n. slots_before scopes q - n) (slots_read scopes before s.first counts first)
    ∙ sym (ap (λ o. option_map_or (λ (s : Numbered). slots_before scopes q - slots_before scopes s.first) o 0) at)

-- a scope of a table
pub table_scope : (scopes shown : List Numbered) (all : List PlacedScope) (g : ℕ) (o : Option Numbered)
    → scopes ≡ numbered 0 (scopes_of scopes) → scopes_of scopes ≡ all → shown ≡ scopes → o ≡ scope_at shown (Some g)
    → slice_get (numbered 0 all) g ≡ o
table_scope scopes shown all g o ordered are same is =
    ap (λ ss. slice_get (numbered 0 ss) g) (sym are) ∙ ap (λ ss. slice_get ss g) (sym ordered)
    ∙ ap (λ ss. slice_get ss g) (sym same) ∙ sym is

pub no_slot : (scopes : List PlacedScope) (q : ℕ) (d : Use) → slice_get (numbered 0 scopes) d.scope ≡ None
    → 0 ≡ slot_of scopes q d
no_slot scopes q d at =
    sym (ap (λ o. option_map_or (λ (s : Numbered). slots_before scopes q - slots_before scopes s.first) o 0) at)

-- the place of a name by what was found of it
pub place_none : (scopes : List PlacedScope) (u : Use) → found_of scopes u ≡ None
    → place_of_use scopes u ≡ place_unfound u
unfolding place_of_use
place_none scopes u none =
    ap (λ (o : Option ℕ). elim o [
      | None ↦ place_unfound u
      | Some q ↦ option_map_or (place_found scopes u q) (slice_get (uses_of scopes) q) place.Global
    ]) none

pub place_some : (scopes : List PlacedScope) (u : Use) (q : ℕ) (r : Place) → found_of scopes u ≡ Some q
    → option_map (place_found scopes u q) (slice_get (uses_of scopes) q) ≡ Some r
    → r ≡ place_of_use scopes u
unfolding place_of_use
place_some scopes u q r some is =
    given (slice_get (uses_of scopes) q) is
    ∙ sym (ap (λ (o : Option ℕ). elim o [
      | None ↦ place_unfound u
      | Some q ↦ option_map_or (place_found scopes u q) (slice_get (uses_of scopes) q) place.Global
    ]) some)
  where
    given : (o : Option Use) → option_map (place_found scopes u q) o ≡ Some r
        → r ≡ option_map_or (place_found scopes u q) o place.Global
    given None h = absurd (cc)
    given (Some d) h = same_Some r (place_found scopes u q d) (sym h)

-- numbered scopes are numbered as they are shown
pub numbered_known : (scopes : List Numbered) (all : List PlacedScope) → scopes ≡ numbered 0 all
    → (scopes ≡ numbered 0 (scopes_of scopes)) × (scopes_of scopes ≡ all)
numbered_known scopes all are =
    let shown : scopes_of scopes ≡ all = ap scopes_of are ∙ scopes_numbered 0 all in
    (are ∙ ap (numbered 0) (sym shown), shown)
