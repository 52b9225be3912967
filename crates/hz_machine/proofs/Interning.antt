-- Texts as the set keeps them, and as lists of units.
use Rattle.std.proofs.Common.{◌≡◌, ℕ, nat_eq, Bool, true, false, List, [], ◌∷◌, ◌++◌, map, refl, ap, ◌∙◌}
use Rattle.std.proofs.Common.{◌&&◌, arith, option_map}
use Rattle.std.specs.Prelude.{Vec, bytes_eq, if◌then◌else◌}
use Rattle.std.specs.List.{list_any, position_or_len}
use Rattle.std.specs.Cmp.Lexicographic.{pointwise}
use Rattle.std.specs.Map.{lookup}
use Rattle.indexmap.specs.IndexMap.{insert_entry}
use Rattle.hz_value.specs.declared.values.Value.{Value}
use Rattle.hz_value.specs.world.Globals.{Globals, ordinary, put_global}
use Rattle.hz_value.specs.world.Store.{number_of, interned}
use Rattle.hz_machine.specs.declared.globals.Slot.{Slot}
use Rattle.hz_machine.specs.Globals.{global_of, put_slot}

pub same_eq : (xs ys : List ℕ) → pointwise nat_eq xs ys ≡ bytes_eq xs ys
same_eq [] [] = refl
same_eq [] (y ∷ ys) = refl
same_eq (x ∷ xs) [] = refl
same_eq (x ∷ xs) (y ∷ ys) = ap (λ b. nat_eq x y && b) (same_eq xs ys)

abbrev pub units_of : {A : Type 0} → List (Vec ℕ A) → List (List ℕ)
units_of ks = map (λ v. v.items) ks

abbrev pub is_same : {A : Type 0} → Vec ℕ A → Vec ℕ A → Bool
is_same v w = pointwise nat_eq v.items w.items

pub same_any : {A : Type 0} (v : Vec ℕ A) (ks : List (Vec ℕ A)) →
    list_any (is_same v) ks ≡ list_any (bytes_eq v.items) (units_of ks)
same_any v [] = refl
same_any v (k ∷ ks) = grind (arith, same_eq v.items k.items, same_any v ks)

pub same_number : {A : Type 0} (v : Vec ℕ A) (ks : List (Vec ℕ A)) →
    position_or_len (is_same v) ks ≡ number_of (units_of ks) v.items
same_number v [] = refl
same_number v (k ∷ ks) = grind (arith, same_eq v.items k.items, same_number v ks)

pub units_behind : {A : Type 0} (v : Vec ℕ A) (ks : List (Vec ℕ A)) →
    units_of (ks ++ v ∷ []) ≡ units_of ks ++ v.items ∷ []
units_behind v [] = refl
units_behind v (k ∷ ks) = ap (λ us. k.items ∷ us) (units_behind v ks)

units_of_either : {A : Type 0} (b : Bool) (v : Vec ℕ A) (ks : List (Vec ℕ A)) →
    units_of (if b then ks else ks ++ v ∷ []) ≡ (if b then units_of ks else units_of ks ++ v.items ∷ [])
units_of_either true v ks = refl
units_of_either false v ks = units_behind v ks

pub same_keys : {A : Type 0} (v : Vec ℕ A) (ks : List (Vec ℕ A)) →
    units_of (if list_any (is_same v) ks then ks else ks ++ v ∷ []) ≡ interned (units_of ks) v.items
same_keys v ks =
    units_of_either (list_any (is_same v) ks) v ks
    ∙ ap (λ b. if b then units_of ks else units_of ks ++ v.items ∷ []) (same_any v ks)

-- ---- globals

abbrev pub globals_of : {A : Type 0} → List (Vec ℕ A × Slot) → Globals
globals_of es = map (λ e. ((e.0).items, global_of e.1)) es

pub same_slot : {A : Type 0} (name : List ℕ) (es : List (Vec ℕ A × Slot)) →
    option_map global_of (lookup (λ k. pointwise nat_eq name k.items) es) ≡ lookup (bytes_eq name) (globals_of es)
same_slot name [] = refl
same_slot name (e ∷ es) = grind (arith, same_eq name (e.0).items, same_slot name es)

pub same_slots : {A : Type 0} (es : List (Vec ℕ A × Slot)) (name : Vec ℕ A) (slot : Slot) →
    globals_of (insert_entry is_same es name slot) ≡ put_slot name.items (global_of slot) (globals_of es)
same_slots [] name slot = refl
same_slots (e ∷ es) name slot = grind (arith, same_eq name.items (e.0).items, same_slots es name slot)

-- an ordinary global is put as it is written
pub same_put : (name : List ℕ) (v : Value) (gs : Globals) → put_slot name (ordinary v) gs ≡ put_global name v gs
same_put name v [] = refl
same_put name v (g ∷ gs) = ap (λ es. if bytes_eq name g.0 then (g.0, ordinary v) ∷ gs else g ∷ es) (same_put name v gs)
