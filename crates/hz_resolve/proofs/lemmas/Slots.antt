-- The slots of a scope, and the names in them.
use Rattle.std.proofs.Common.{◌≡◌, ◌+◌, ℕ, zero, suc, Bool, true, false, cond, not, ◌&&◌, ◌||◌, ◌==◌, List, []}
use Rattle.std.proofs.Common.{◌∷◌, map}
use Rattle.std.proofs.Common.{Option, Some, None, refl, ap, ◌∙◌, arith}
use Rattle.std.specs.List.{slice_get, list_any, filter}
use Rattle.std.specs.Option.{option_map_or}
use Rattle.std.specs.Str.{bytes_eq}
use Rattle.std.specs.Cmp.Lexicographic.{bytes_decides}
use Rattle.std.proofs.lemmas.Bool.{or_left, or_right, and_from, and_parts, not_from_false, eq-eqb}
use Rattle.hz_tree.specs.declared.scope.BindingKind.{BindingKind}
use Rattle.hz_tree.specs.errors.Scopes.{occurs}
use Rattle.hz_tree.specs.tokens.Text.{Text}
use Rattle.hz_tree.specs.trees.FunctionScopes.{ScopeName}
use Rattle.hz_tree.specs.trees.Layout.{PlacedScope, is_declaration, declares, binding_in, is_global}
use Rattle.hz_tree.specs.trees.Layout.{shares_function, lists}
use Rattle.hz_tree.specs.trees.Layout.{takes, found, has_slot, slot_names, place_in}

pub any_at : {X : Type 0} (p : X → Bool) (xs : List X) (i : ℕ) (x : X) → slice_get xs i ≡ Some x → p x ≡ true
    → list_any p xs ≡ true
any_at p [] i x is h = absurd cc
any_at p (y ∷ more) zero x is h =
    let same : y ≡ x = cc (is) in or_left (p y) (list_any p more) (ap p same ∙ h)
any_at p (y ∷ more) (suc i) x is h = or_right (p y) (list_any p more) (any_at p more i x is h)

-- ---- the place of a name among names

pub record IsPlaceIn (name : Text) (number : ℕ) (names : List Text) : Type 0 where
  pub place : ℕ
  pub is : place_in name number names ≡ number + place
  pub named : slice_get names place ≡ Some name

place_among : (name : Text) (number : ℕ) (names : List Text) → occurs name names ≡ true
    → IsPlaceIn name number names
place_among name number [] is = absurd cc
place_among name number (other ∷ more) is =
    by_test (bytes_eq other name) refl is (place_among name (suc number) more)
  where
    by_test : (b : Bool) → bytes_eq other name ≡ b → (b || occurs name more) ≡ true
        → (occurs name more ≡ true → IsPlaceIn name (suc number) more)
        → IsPlaceIn name number (other ∷ more)
    by_test true here any rest = record {
      place = 0;
      is = ap (λ b. cond b number (place_in name (suc number) more)) here ∙ omega arith;
      named = ap Some ((bytes_decides other name).0 here);
    }
    by_test false other any rest =
        let found = rest any in
        record {
          place = suc found.place;
          is = ap (λ b. cond b number (place_in name (suc number) more)) other ∙ found.is ∙ omega arith;
          named = found.named;
        }

pub name_at_place : (name : Text) (names : List Text) → occurs name names ≡ true
    → slice_get names (place_in name 0 names) ≡ Some name
name_at_place name names is =
    let found = place_among name 0 names is in
    let number : place_in name 0 names ≡ found.place = found.is ∙ omega arith in
    ap (slice_get names) number ∙ found.named

-- ---- a name that a scope of another function takes has a slot

abbrev names_of : List ScopeName → List Text
names_of ns = map (λ (n : ScopeName). n.name) ns

abbrev first_binding : List ScopeName → Option BindingKind
first_binding ns = elim ns [ [] ↦ None | n ∷ more ↦ n.binding ]

slotted : (scopes : List PlacedScope) (at : PlacedScope) (name : Text) (ns : List ScopeName)
    → list_any (is_declaration name) ns ≡ true
    → is_global at (first_binding (filter (is_declaration name) ns)) ≡ false
    → list_any (takes scopes at name) scopes ≡ true
    → occurs name (names_of (filter (has_slot scopes at) ns)) ≡ true
slotted scopes at name [] some local taken = absurd cc
slotted scopes at name (n ∷ more) some local taken =
    by_test (is_declaration name n) refl some local (λ some local. slotted scopes at name more some local taken)
  where
    by_slot : (b : Bool) → occurs name (names_of (filter (has_slot scopes at) more)) ≡ true
        → occurs name (names_of (cond b (n ∷ filter (has_slot scopes at) more) (filter (has_slot scopes at) more)))
        ≡ true
    by_slot true h = or_right (bytes_eq n.name name) (occurs name (names_of (filter (has_slot scopes at) more))) h
    by_slot false h = h

    with_slot : (b : Bool) → b ≡ true → bytes_eq n.name name ≡ true
        → occurs name (names_of (cond b (n ∷ filter (has_slot scopes at) more) (filter (has_slot scopes at) more)))
        ≡ true
    with_slot true is here =
        or_left (bytes_eq n.name name) (occurs name (names_of (filter (has_slot scopes at) more))) here
    with_slot false is here = absurd cc

    by_test : (b : Bool) → is_declaration name n ≡ b → (b || list_any (is_declaration name) more) ≡ true
        → is_global at
        (first_binding (cond b (n ∷ filter (is_declaration name) more) (filter (is_declaration name) more)))
        ≡ false
        → (list_any (is_declaration name) more ≡ true
        → is_global at (first_binding (filter (is_declaration name) more)) ≡ false
        → occurs name (names_of (filter (has_slot scopes at) more)) ≡ true)
        → occurs name (names_of (filter (has_slot scopes at) (n ∷ more))) ≡ true
    by_test true declared any mine rest =
        let here : bytes_eq n.name name ≡ true =
        (and_parts (bytes_eq n.name name) (elim n.binding [ None ↦ false | Some binding ↦ true ]) declared).0 in
        let same : n.name ≡ name = (bytes_decides n.name name).0 here in
        let own : is_declaration n.name n ≡ true = ap (λ text. is_declaration text n) same ∙ declared in
        let takers : list_any (takes scopes at n.name) scopes ≡ true =
        ap (λ text. list_any (takes scopes at text) scopes) same ∙ taken in
        let slot : has_slot scopes at n ≡ true =
        and_from (is_declaration n.name n) (not (is_global at n.binding) && list_any (takes scopes at n.name) scopes)
        own (and_from (not (is_global at n.binding)) (list_any (takes scopes at n.name) scopes)
        (not_from_false (is_global at n.binding) mine) takers) in
        with_slot (has_slot scopes at n) slot here
    by_test false other any mine rest = by_slot (has_slot scopes at n) (rest any mine)

-- the name has a slot in the scope in which one of another function finds it
pub taken_has_slot : (scopes : List PlacedScope) (name : Text) (g : ℕ) (s at : PlacedScope)
    → slice_get scopes g ≡ Some s
    → lists name s ≡ true
    → found scopes name s ≡ Some at
    → declares name at ≡ true
    → is_global at (binding_in name at) ≡ false
    → shares_function at s ≡ false
    → occurs name (slot_names scopes at) ≡ true
taken_has_slot scopes name g s at there listed is declared local other =
    let at_number : option_map_or (λ (t : PlacedScope). t.number == at.number) (found scopes name s) false ≡ true =
    ap (λ (o : Option PlacedScope). option_map_or (λ (t : PlacedScope). t.number == at.number) o false) is
    ∙ eq-eqb at.number at.number refl in
    let taken : takes scopes at name s ≡ true =
    and_from (not (shares_function at s)) _ (not_from_false (shares_function at s) other)
    (and_from (lists name s) _ listed at_number) in
    slotted scopes at name at.names declared local (any_at (takes scopes at name) scopes g s there taken)
