-- The names that the layout has places for are those that are there.
use Rattle.std.proofs.Common.{◌≡◌, ℕ, true, List, Option, Some, None, refl, sym, ap, ◌∙◌}
use Rattle.std.specs.List.{slice_get}
use Rattle.std.specs.Option.{option_map, option_and_then}
use Rattle.std.specs.Cmp.Lexicographic.{bytes_decides}
use Rattle.std.specs.Str.{bytes_eq}
use Rattle.hz_tree.specs.declared.place.Place.{Place}
use Rattle.hz_tree.specs.declared.place.Place.TheVariants as place
use Rattle.hz_tree.specs.trees.FunctionScopes.{ScopeName, Scope, FunctionScopes}
use Rattle.hz_tree.specs.trees.Layout.{PlacedScope, all_scopes, place_among, place_of, layout, lists, declares}
use Rattle.hz_resolve.specs.Laws.{HasScope, number_at, placed_at}
use Rattle.hz_resolve.specs.LawsOfPlaces.{IsListed, HasPlace, IsInSlot, IsInRegister, IsGlobalName, own_place}
use Rattle.hz_resolve.proofs.lemmas.Numbers.{stands, number_is_place}
use Rattle.hz_resolve.proofs.lemmas.Slots.{any_at}
use Rattle.hz_resolve.proofs.lemmas.Ways.{AreRegular}
use Rattle.hz_resolve.proofs.lemmas.Places.{place_in_slot, place_in_register, place_global, place_where_declared}

-- the place of a name of a scope that is there
place_of_scope : (fs : List FunctionScopes) (k i n : ℕ) (f : FunctionScopes) (s : Scope) → HasScope fs k i f s
    → layout fs k i n ≡ place_among (all_scopes fs) n (placed_at fs k i f s)
unfolding layout
place_of_scope fs k i n f s has =
    let scopes = all_scopes fs in
    let at_number : Option Place = option_and_then (place_among scopes n) (slice_get scopes (number_at fs k i)) in
    ap (option_and_then (λ (f : FunctionScopes). option_and_then (λ (s : Scope). at_number) (slice_get f.scopes i)))
    has.function
    ∙ ap (option_and_then (λ (s : Scope). at_number)) has.scope
    ∙ ap (option_and_then (place_among scopes n)) (stands fs k i f s has)

pub place_listed : (fs : List FunctionScopes) (k i n : ℕ) (p : PlacedScope) (x : ScopeName) → IsListed fs k i n p x
    → layout fs k i n ≡ Some (place_of (all_scopes fs) x.name p)
place_listed fs k i n p x listed =
    let at = placed_at fs k i listed.function listed.scope in
    place_of_scope fs k i n listed.function listed.scope listed.has
    ∙ ap (option_map (λ (name : ScopeName). place_of (all_scopes fs) name.name at)) listed.name
    ∙ ap (λ p. Some (place_of (all_scopes fs) x.name p)) (sym listed.placed)

-- ---- no others

no_function : (fs : List FunctionScopes) (k i n : ℕ) → slice_get fs k ≡ None → layout fs k i n ≡ None
unfolding layout
no_function fs k i n none =
    let scopes = all_scopes fs in
    let at_number : Option Place = option_and_then (place_among scopes n) (slice_get scopes (number_at fs k i)) in
    ap (option_and_then (λ (f : FunctionScopes). option_and_then (λ (s : Scope). at_number) (slice_get f.scopes i)))
    none

no_scope : (fs : List FunctionScopes) (k i n : ℕ) (f : FunctionScopes) → slice_get fs k ≡ Some f
    → slice_get f.scopes i ≡ None
    → layout fs k i n ≡ None
unfolding layout
no_scope fs k i n f function none =
    let scopes = all_scopes fs in
    let at_number : Option Place = option_and_then (place_among scopes n) (slice_get scopes (number_at fs k i)) in
    ap (option_and_then (λ (f : FunctionScopes). option_and_then (λ (s : Scope). at_number) (slice_get f.scopes i)))
    function
    ∙ ap (option_and_then (λ (s : Scope). at_number)) none

pub only_listed : (fs : List FunctionScopes) (k i n : ℕ) (found : Place) → layout fs k i n ≡ Some found
    → HasPlace fs k i n
only_listed fs k i n found is = by_function (slice_get fs k) refl
  where
    by_name : (f : FunctionScopes) (s : Scope) → HasScope fs k i f s → (o : Option ScopeName)
        → slice_get s.names n ≡ o
        → HasPlace fs k i n
    by_name f s has None none =
        let at = placed_at fs k i f s in
        let never : None ≡ Some found =
        sym (ap (option_map (λ (name : ScopeName). place_of (all_scopes fs) name.name at)) none)
        ∙ sym (place_of_scope fs k i n f s has) ∙ is in
        absurd cc
    by_name f s has (Some x) some = record {
      scope = placed_at fs k i f s;
      name = x;
      listed = record { function = f; scope = s; has = has; placed = refl; name = some };
    }

    by_scope : (f : FunctionScopes) → slice_get fs k ≡ Some f → (o : Option Scope) → slice_get f.scopes i ≡ o
        → HasPlace fs k i n
    by_scope f function None none =
        let never : None ≡ Some found = sym (no_scope fs k i n f function none) ∙ is in absurd cc
    by_scope f function (Some s) some =
        by_name f s (record { function = function; scope = some }) (slice_get s.names n) refl

    by_function : (o : Option FunctionScopes) → slice_get fs k ≡ o → HasPlace fs k i n
    by_function None none = let never : None ≡ Some found = sym (no_function fs k i n none) ∙ is in absurd cc
    by_function (Some f) some = by_scope f some (slice_get f.scopes i) refl

-- ---- what the places of listed names say

-- the scope of a listed name stands at its number, and lists the name
listed_stands : (fs : List FunctionScopes) (k i n : ℕ) (p : PlacedScope) (x : ScopeName) → IsListed fs k i n p x
    → slice_get (all_scopes fs) p.number ≡ Some p
listed_stands fs k i n p x listed =
    let at : slice_get (all_scopes fs) (number_at fs k i) ≡ Some p =
    stands fs k i listed.function listed.scope listed.has ∙ ap Some (sym listed.placed) in
    ap (slice_get (all_scopes fs)) (number_is_place fs (number_at fs k i) p at) ∙ at

listed_there : (fs : List FunctionScopes) (k i n : ℕ) (p : PlacedScope) (x : ScopeName) → IsListed fs k i n p x
    → lists x.name p ≡ true
listed_there fs k i n p x listed =
    let names : p.names ≡ listed.scope.names = ap (λ (p : PlacedScope). p.names) listed.placed in
    any_at (λ (n : ScopeName). bytes_eq n.name x.name) p.names n x (ap (λ ns. slice_get ns n) names ∙ listed.name)
    ((bytes_decides x.name x.name).1 refl)

said : (fs : List FunctionScopes) (k i n : ℕ) (p : PlacedScope) (x : ScopeName) (found : Place)
    → IsListed fs k i n p x → layout fs k i n ≡ Some found
    → place_of (all_scopes fs) x.name p ≡ found
said fs k i n p x found listed is =
    let both : Some (place_of (all_scopes fs) x.name p) ≡ Some found = sym (place_listed fs k i n p x listed) ∙ is in cc

pub listed_in_slot : (fs : List FunctionScopes) (k i n hops slot : ℕ) (p : PlacedScope) (x : ScopeName)
    → AreRegular (all_scopes fs) → IsListed fs k i n p x → layout fs k i n ≡ Some (place.Slot hops slot)
    → IsInSlot (all_scopes fs) x.name p hops slot
listed_in_slot fs k i n hops slot p x regular listed is =
    place_in_slot (all_scopes fs) x.name p hops slot regular (listed_stands fs k i n p x listed)
    (said fs k i n p x (place.Slot hops slot) listed is)

pub listed_in_register : (fs : List FunctionScopes) (k i n : ℕ) (p : PlacedScope) (x : ScopeName)
    → AreRegular (all_scopes fs) → IsListed fs k i n p x → layout fs k i n ≡ Some place.Register
    → IsInRegister (all_scopes fs) x.name p
listed_in_register fs k i n p x regular listed is =
    place_in_register (all_scopes fs) x.name p regular (listed_stands fs k i n p x listed)
    (listed_there fs k i n p x listed) (said fs k i n p x place.Register listed is)

pub listed_global : (fs : List FunctionScopes) (k i n : ℕ) (p : PlacedScope) (x : ScopeName)
    → AreRegular (all_scopes fs) → IsListed fs k i n p x → layout fs k i n ≡ Some place.Global
    → IsGlobalName (all_scopes fs) x.name p
listed_global fs k i n p x regular listed is =
    place_global (all_scopes fs) x.name p regular (listed_stands fs k i n p x listed)
    (said fs k i n p x place.Global listed is)

pub listed_declared : (fs : List FunctionScopes) (k i n : ℕ) (p : PlacedScope) (x : ScopeName)
    → IsListed fs k i n p x → declares x.name p ≡ true
    → layout fs k i n ≡ Some (own_place (all_scopes fs) x.name p)
listed_declared fs k i n p x listed declared =
    place_listed fs k i n p x listed
    ∙ ap Some (place_where_declared (all_scopes fs) x.name p (listed_stands fs k i n p x listed) declared)
