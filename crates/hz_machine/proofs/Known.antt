-- A text that was met is found by its number.
use Rattle.std.proofs.Common.{◌≡◌, ℕ, zero, suc, true, false, List, [], ◌∷◌, ◌++◌, refl, ap, ◌∙◌, sym, subst}
use Rattle.std.proofs.Common.{arith, Some}
use Rattle.std.specs.Prelude.{Vec, bytes_eq, slice_get, if◌then◌else◌}
use Rattle.std.specs.List.{list_any, IsDistinct, AllByRecursion}
use Rattle.std.specs.Map.{keys_of}
use Rattle.indexmap.specs.Layout.{set_value_at}
use Rattle.hz_value.specs.world.Store.{number_of, interned}
use Rattle.hz_machine.specs.declared.globals.Slot.{Slot}
use Rattle.hz_machine.specs.Globals.{global_of, name_at, put_slot}
use Rattle.hz_machine.proofs.Interning.{units_of, is_same, globals_of}

same_some : {T : Type 0} {x y : T} → Some x ≡ Some y → x ≡ y
same_some e = cc

at_each : {T : Type 0} (P : T → Type 0) (xs : List T) (n : ℕ) (x : T) → AllByRecursion P xs → slice_get xs n ≡ Some x → P x
at_each P [] n x all e = cc
at_each P (y ∷ ys) zero x all e = subst P (same_some e) all.0
at_each P (y ∷ ys) (suc n) x all e = at_each P ys n x all.1 e

same_self : (xs : List ℕ) → bytes_eq xs xs ≡ true
same_self [] = refl
same_self (x ∷ xs) = grind (arith, same_self xs)

swapped : (xs ys : List ℕ) → bytes_eq xs ys ≡ bytes_eq ys xs
swapped [] [] = refl
swapped [] (y ∷ ys) = refl
swapped (x ∷ xs) [] = refl
swapped (x ∷ xs) (y ∷ ys) = grind (arith, swapped xs ys)

module _ {A : Type 0} where
  -- its number is the place where it stands
  pub numbered : (ks : List (Vec ℕ A)) (n : ℕ) (v : Vec ℕ A) → IsDistinct is_same ks → slice_get ks n ≡ Some v →
      number_of (units_of ks) v.items ≡ n
  unfolding IsDistinct
  numbered [] n v distinct e = cc
  numbered (k ∷ ks) zero v distinct e =
      subst (λ w. number_of (units_of (k ∷ ks)) w.items ≡ 0) (same_some e) (grind (arith, same_self k.items))
  numbered (k ∷ ks) (suc n) v distinct e =
      let differ : bytes_eq k.items v.items ≡ false =
      at_each (λ w. is_same k w ≡ false) ks n v distinct.0 e in
      grind (arith, differ, swapped v.items k.items, numbered ks n v distinct.1 e)

  among : (ks : List (Vec ℕ A)) (n : ℕ) (v : Vec ℕ A) → slice_get ks n ≡ Some v →
      list_any (bytes_eq v.items) (units_of ks) ≡ true
  among [] n v e = cc
  among (k ∷ ks) zero v e =
      subst (λ w. list_any (bytes_eq w.items) (units_of (k ∷ ks)) ≡ true) (same_some e) (grind (arith, same_self k.items))
  among (k ∷ ks) (suc n) v e = grind (arith, among ks n v e)

  -- and with it there are the same texts
  pub stays : (ks : List (Vec ℕ A)) (n : ℕ) (v : Vec ℕ A) → slice_get ks n ≡ Some v →
      interned (units_of ks) v.items ≡ units_of ks
  stays ks n v e = ap (λ b. if b then units_of ks else units_of ks ++ v.items ∷ []) (among ks n v e)

-- ---- globals

-- the name of what stands at a place
pub named : {A : Type 0} (es : List (Vec ℕ A × Slot)) (n : ℕ) (k : Vec ℕ A) (slot : Slot) (name : List ℕ) →
    slice_get es n ≡ Some (k, slot) → name_at (globals_of es) n ≡ Some name → k.items ≡ name
named [] n k slot name there is = cc
named (e ∷ es) zero k slot name there is = sym (ap (λ x. (x.0).items) (same_some there)) ∙ same_some is
named (e ∷ es) (suc n) k slot name there is = named es n k slot name there is

-- a global that is written at its place is the one under its name
pub set_at : {A : Type 0} (es : List (Vec ℕ A × Slot)) (n : ℕ) (name : List ℕ) (slot : Slot) →
    IsDistinct is_same (keys_of es) → name_at (globals_of es) n ≡ Some name →
    globals_of (set_value_at es n slot) ≡ put_slot name (global_of slot) (globals_of es)
unfolding IsDistinct
set_at [] n name slot distinct e = cc
set_at (g ∷ es) zero name slot distinct e =
    let same : (g.0).items ≡ name = same_some e in
    subst (λ t. globals_of ((g.0, slot) ∷ es) ≡ put_slot t (global_of slot) (globals_of (g ∷ es))) same
    (grind (arith, same_self (g.0).items))
set_at {A = A} (g ∷ es) (suc n) name slot distinct e =
    let differ : bytes_eq (g.0).items name ≡ false = other_name es n name distinct.0 e in
    grind (arith, differ, swapped name (g.0).items, set_at es n name slot distinct.1 e)
  where
    other_name : (xs : List (Vec ℕ A × Slot)) (m : ℕ) (t : List ℕ) →
        AllByRecursion (λ w. is_same g.0 w ≡ false) (keys_of xs) →
        name_at (globals_of xs) m ≡ Some t → bytes_eq (g.0).items t ≡ false
    other_name [] m t all is = cc
    other_name (x ∷ xs) zero t all is = subst (λ u. bytes_eq (g.0).items u ≡ false) (same_some is) all.0
    other_name (x ∷ xs) (suc m) t all is = other_name xs m t all.1 is
