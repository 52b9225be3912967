-- What the place of a name says of the scope that declares it.
use Rattle.std.proofs.Common.{◌≡◌, ℕ, suc, Bool, true, false, cond, ◌==◌, List, [], ◌∷◌}
use Rattle.std.proofs.Common.{Option, Some, None, inl, inr, refl, sym, ap, ◌∙◌}
use Rattle.std.specs.List.{slice_get, list_any, filter}
use Rattle.std.proofs.lemmas.Bool.{eqb-true, eq-eqb, or_from, and_parts}
use Rattle.std.proofs.lemmas.Option.{slice_get_within}
use Rattle.hz_tree.specs.declared.place.Place.{Place}
use Rattle.hz_tree.specs.declared.place.Place.TheVariants as place
use Rattle.hz_tree.specs.declared.scope.BindingKind.{BindingKind}
use Rattle.hz_tree.specs.declared.scope.BindingKind.TheVariants as binding
use Rattle.hz_tree.specs.errors.Scopes.{occurs}
use Rattle.hz_tree.specs.tokens.Text.{Text}
use Rattle.hz_tree.specs.trees.Layout.{PlacedScope, from_scope, searched, declares, declaring, found, is_own}
use Rattle.hz_tree.specs.trees.Layout.{shares_function}
use Rattle.hz_tree.specs.trees.Layout.{is_global, binding_in, lists, slot_names, has_slots, place_in, hops_to}
use Rattle.hz_tree.specs.trees.Layout.{declared_place, undeclared_place, place_of}
use Rattle.hz_resolve.specs.LawsOfPlaces.{IsInSlot, IsHeld, IsInRegister}
use Rattle.hz_resolve.specs.LawsOfPlaces.{IsNowhere, IsGlobalName}
use Rattle.hz_resolve.specs.LawsOfPlaces.{own_place}
use Rattle.hz_resolve.proofs.lemmas.Ways.{AreRegular, found_way, found_first, way_begins}
use Rattle.hz_resolve.proofs.lemmas.Slots.{name_at_place, taken_has_slot}

place_when_found : (scopes : List PlacedScope) (name : Text) (s at : PlacedScope) → found scopes name s ≡ Some at
    → place_of scopes name s ≡ declared_place scopes name at s
unfolding place_of
place_when_found scopes name s at is =
    ap (λ (o : Option PlacedScope). elim o [
      | None ↦ undeclared_place name s
      | Some at ↦ declared_place scopes name at s
    ]) is

place_when_not : (scopes : List PlacedScope) (name : Text) (s : PlacedScope) → found scopes name s ≡ None
    → place_of scopes name s ≡ undeclared_place name s
unfolding place_of
place_when_not scopes name s is =
    ap (λ (o : Option PlacedScope). elim o [
      | None ↦ undeclared_place name s
      | Some at ↦ declared_place scopes name at s
    ]) is

undeclared : (name : Text) (ts : List PlacedScope) → declaring name ts ≡ None → list_any (declares name) ts ≡ false
undeclared name [] is = refl
undeclared name (t ∷ more) is = by_test (declares name t) refl is (undeclared name more)
  where
    by_test : (b : Bool) → declares name t ≡ b → cond b (Some t) (declaring name more) ≡ None
        → (declaring name more ≡ None → list_any (declares name) more ≡ false)
        → list_any (declares name) (t ∷ more) ≡ false
    by_test true declared none rest = absurd cc
    by_test false other none rest = or_from (declares name t) (list_any (declares name) more) other (rest none)

-- the place of a name that `at` declares, by whether it is global and whether it has a slot
abbrev tested : List PlacedScope → Text → (at s : PlacedScope) → (global slotted : Bool) → Place
tested scopes name at s global slotted =
    cond global place.Global (cond slotted
    (place.Slot (hops_to scopes at (searched scopes name s)) (place_in name 0 (slot_names scopes at)))
    place.Register)

-- ---- slots

not_undeclared : (name : Text) (s : PlacedScope) (hops slot : ℕ) → undeclared_place name s ≡ place.Slot hops slot → ⊥
not_undeclared name s hops slot is = by_own (is_own name s) is
  where
    by_own : (b : Bool) → cond b place.Register place.Global ≡ place.Slot hops slot → ⊥
    by_own true never = absurd cc
    by_own false never = absurd cc

-- what a declared place in a slot says
record IsSlotPlace (scopes : List PlacedScope) (name : Text) (at s : PlacedScope) (hops slot : ℕ) : Type 0 where
  local : is_global at (binding_in name at) ≡ false
  slotted : occurs name (slot_names scopes at) ≡ true
  crossed : hops ≡ hops_to scopes at (searched scopes name s)
  number : slot ≡ place_in name 0 (slot_names scopes at)

slot_place : (scopes : List PlacedScope) (name : Text) (at s : PlacedScope) (hops slot : ℕ)
    → declared_place scopes name at s ≡ place.Slot hops slot
    → IsSlotPlace scopes name at s hops slot
slot_place scopes name at s hops slot is =
    by_tests (is_global at (binding_in name at)) (occurs name (slot_names scopes at)) refl refl is
  where
    by_tests : (b c : Bool) → is_global at (binding_in name at) ≡ b → occurs name (slot_names scopes at) ≡ c
        → tested scopes name at s b c
        ≡ place.Slot hops slot
        → IsSlotPlace scopes name at s hops slot
    by_tests true c local slotted is = absurd cc
    by_tests false false local slotted is = absurd cc
    by_tests false true local slotted is =
        record { local = local; slotted = slotted; crossed = cc (is); number = cc (is) }

pub place_in_slot : (scopes : List PlacedScope) (name : Text) (s : PlacedScope) (hops slot : ℕ) → AreRegular scopes
    → slice_get scopes s.number ≡ Some s
    → place_of scopes name s ≡ place.Slot hops slot
    → IsInSlot scopes name s hops slot
place_in_slot scopes name s hops slot regular there is = by_found (found scopes name s) refl
  where
    by_found : (o : Option PlacedScope) → found scopes name s ≡ o → IsInSlot scopes name s hops slot
    by_found None none =
        absurd (not_undeclared name s hops slot (sym (place_when_not scopes name s none) ∙ is))
    by_found (Some at) some =
        let way = found_way scopes name s at regular there some in
        let says = slot_place scopes name at s hops slot (sym (place_when_found scopes name s at some) ∙ is) in
        let named : slice_get (slot_names scopes at) slot ≡ Some name =
        ap (slice_get (slot_names scopes at)) says.number ∙ name_at_place name (slot_names scopes at) says.slotted in
        record {
          at = at;
          found = found_first scopes name s at way.0 way.1;
          local = says.local;
          crossed = says.crossed ∙ way.0.hops;
          number = says.number;
          below = slice_get_within (slot_names scopes at) slot name named;
          named = named;
        }

-- ---- registers

record IsRegisterPlace (scopes : List PlacedScope) (name : Text) (at : PlacedScope) : Type 0 where
  local : is_global at (binding_in name at) ≡ false
  slotless : occurs name (slot_names scopes at) ≡ false

register_place : (scopes : List PlacedScope) (name : Text) (at s : PlacedScope)
    → declared_place scopes name at s ≡ place.Register
    → IsRegisterPlace scopes name at
register_place scopes name at s is =
    by_tests (is_global at (binding_in name at)) (occurs name (slot_names scopes at)) refl refl is
  where
    by_tests : (b c : Bool) → is_global at (binding_in name at) ≡ b → occurs name (slot_names scopes at) ≡ c
        → tested scopes name at s b c
        ≡ place.Register
        → IsRegisterPlace scopes name at
    by_tests true c local slotless is = absurd cc
    by_tests false true local slotless is = absurd cc
    by_tests false false local slotless is = record { local = local; slotless = slotless }

own_register : (name : Text) (s : PlacedScope) → undeclared_place name s ≡ place.Register → is_own name s ≡ true
own_register name s is = by_own (is_own name s) refl is
  where
    by_own : (b : Bool) → is_own name s ≡ b → cond b place.Register place.Global ≡ place.Register
        → is_own name s ≡ true
    by_own true own is = own
    by_own false own is = absurd cc

pub place_in_register : (scopes : List PlacedScope) (name : Text) (s : PlacedScope) → AreRegular scopes
    → slice_get scopes s.number ≡ Some s
    → lists name s ≡ true
    → place_of scopes name s ≡ place.Register
    → IsInRegister scopes name s
place_in_register scopes name s regular there listed is = by_found (found scopes name s) refl
  where
    held : (at : PlacedScope) → found scopes name s ≡ Some at → IsRegisterPlace scopes name at
        → (b : Bool) → shares_function at s ≡ b
        → IsHeld scopes name s
    held at some says true shares =
        let way = found_way scopes name s at regular there some in
        record {
          at = at;
          found = found_first scopes name s at way.0 way.1;
          local = says.local;
          function = eqb-true at.function s.function shares;
          slotless = says.slotless;
        }
    held at some says false other =
        let way = found_way scopes name s at regular there some in
        let slotted : occurs name (slot_names scopes at) ≡ true =
        taken_has_slot scopes name s.number s at there listed some way.0.declared says.local other in
        let never : true ≡ false = sym slotted ∙ says.slotless in
        absurd cc

    by_found : (o : Option PlacedScope) → found scopes name s ≡ o → IsInRegister scopes name s
    by_found None none = inr (record {
      own = own_register name s (sym (place_when_not scopes name s none) ∙ is);
      undeclared = undeclared name (searched scopes name s) none;
    })
    by_found (Some at) some =
        let says = register_place scopes name at s (sym (place_when_found scopes name s at some) ∙ is) in
        inl (held at some says (shares_function at s) refl)

-- ---- global names

global_place : (scopes : List PlacedScope) (name : Text) (at s : PlacedScope)
    → declared_place scopes name at s ≡ place.Global
    → is_global at (binding_in name at) ≡ true
global_place scopes name at s is =
    by_tests (is_global at (binding_in name at)) (occurs name (slot_names scopes at)) refl is
  where
    by_tests : (b c : Bool) → is_global at (binding_in name at) ≡ b
        → tested scopes name at s b c
        ≡ place.Global
        → is_global at (binding_in name at) ≡ true
    by_tests true c global is = global
    by_tests false true global is = absurd cc
    by_tests false false global is = absurd cc

not_own : (name : Text) (s : PlacedScope) → undeclared_place name s ≡ place.Global → is_own name s ≡ false
not_own name s is = by_own (is_own name s) refl is
  where
    by_own : (b : Bool) → is_own name s ≡ b → cond b place.Register place.Global ≡ place.Global
        → is_own name s ≡ false
    by_own true own is = absurd cc
    by_own false own is = own

var_bound : (bound : Option BindingKind) → elim bound [ Some binding.Var ↦ true | other ↦ false ] ≡ true
    → bound ≡ Some binding.Var
var_bound None is = absurd cc
var_bound (Some binding.Var) is = refl
var_bound (Some _) is = absurd cc

pub place_global : (scopes : List PlacedScope) (name : Text) (s : PlacedScope) → AreRegular scopes
    → slice_get scopes s.number ≡ Some s
    → place_of scopes name s ≡ place.Global
    → IsGlobalName scopes name s
place_global scopes name s regular there is = by_found (found scopes name s) refl
  where
    nowhere : (b : Bool) → is_own name s ≡ b → b ≡ false
        → list_any (declares name) (cond b (filter (shares_function s) (from_scope scopes s)) (from_scope scopes s))
        ≡ false
        → IsNowhere scopes name s
    nowhere true own never none = absurd cc
    nowhere false own is none = record { foreign = own; undeclared = none }

    by_found : (o : Option PlacedScope) → found scopes name s ≡ o → IsGlobalName scopes name s
    by_found None none =
        let foreign : is_own name s ≡ false = not_own name s (sym (place_when_not scopes name s none) ∙ is) in
        inr (nowhere (is_own name s) refl foreign (undeclared name (searched scopes name s) none))
    by_found (Some at) some =
        let way = found_way scopes name s at regular there some in
        let global = global_place scopes name at s (sym (place_when_found scopes name s at some) ∙ is) in
        let parts =
        and_parts (at.number == 0) (elim (binding_in name at) [ Some binding.Var ↦ true | other ↦ false ]) global in
        inl (record {
          at = at;
          found = found_first scopes name s at way.0 way.1;
          script = eqb-true at.number 0 parts.0;
          bound = var_bound (binding_in name at) parts.1;
        })

-- ---- names in the scopes that declare them

-- the way from a scope begins with it, whatever of it is searched
searched_begins : (scopes : List PlacedScope) (name : Text) (s : PlacedScope) (more : List PlacedScope)
    → from_scope scopes s ≡ s ∷ more
    → (rest : List PlacedScope) × (searched scopes name s ≡ s ∷ rest)
searched_begins scopes name s more begins = by_own (is_own name s)
  where
    keeps : (b : Bool) → b ≡ true
        → (rest : List PlacedScope)
        × (cond b (s ∷ filter (shares_function s) more) (filter (shares_function s) more) ≡ s ∷ rest)
    keeps true is = (filter (shares_function s) more, refl)
    keeps false is = absurd cc

    by_own : (b : Bool) → (rest : List PlacedScope)
        × (cond b (filter (shares_function s) (from_scope scopes s)) (from_scope scopes s) ≡ s ∷ rest)
    by_own true =
        let kept = keeps (shares_function s s) (eq-eqb s.function s.function refl) in
        (kept.0, ap (filter (shares_function s)) begins ∙ kept.1)
    by_own false = (more, begins)

pub place_where_declared : (scopes : List PlacedScope) (name : Text) (s : PlacedScope)
    → slice_get scopes s.number ≡ Some s
    → declares name s ≡ true
    → place_of scopes name s ≡ own_place scopes name s
place_where_declared scopes name s there declared =
    let begins = searched_begins scopes name s _ (way_begins scopes s there) in
    let is : found scopes name s ≡ Some s =
    ap (declaring name) begins.1 ∙ ap (λ b. cond b (Some s) (declaring name begins.0)) declared in
    let none : hops_to scopes s (searched scopes name s) ≡ 0 =
    ap (hops_to scopes s) begins.1
    ∙ ap (λ b. cond b 0 (cond (has_slots scopes s) (suc (hops_to scopes s begins.0)) (hops_to scopes s begins.0)))
    (eq-eqb s.number s.number refl) in
    place_when_found scopes name s s is
    ∙ ap (λ hops. cond (is_global s (binding_in name s)) place.Global (cond (occurs name (slot_names scopes s))
    (place.Slot hops (place_in name 0 (slot_names scopes s))) place.Register)) none
