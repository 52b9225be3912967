-- What is found out of each name, one after the other.
use Rattle.std.proofs.Common.{◌≡◌, ◌∙◌, ℕ, zero, suc, ◌+◌, ◌≤◌, ◌<◌, Bool, true, false, ◌||◌, List, [], ◌∷◌, ◌++◌}
use Rattle.std.proofs.Common.{length, map}
use Rattle.std.proofs.Common.{take, Option, Some, None, refl, ap, sym, arith, get_or, ⊎_elim, not, ◌&&◌}
use Rattle.std.proofs.lemmas.List.{map-append, take_all, length_push}
use Rattle.std.proofs.lemmas.Bool.{cases_lt}
use Rattle.std.proofs.lemmas.List.Folds.{list_any-append}
use Rattle.std.proofs.lemmas.Option.{slice_get-map, same_Some, get_or_from_slice_get}
use Rattle.std.specs.List.{slice_get, list_any, slice_index_or}
use Rattle.std.specs.Option.{option_map, option_and_then, option_map_or, is_some}
use Rattle.hz_tree.specs.trees.Layout.{PlacedScope}
use Rattle.hz_resolve.specs.Numbered.{Use, uses_of}
use Rattle.hz_resolve.specs.Passes.{found_of, outer_of, outer_of_found, is_number, is_taken, count_true, has_slot_of}
use Rattle.hz_resolve.specs.Passes.{is_global_use}
use Rattle.hz_resolve.proofs.Declared.{take_found}
use Rattle.hz_resolve.proofs.Flat.{slice_get_front, slice_get_behind, count-append}
use Rattle.hz_resolve.proofs.Sites.{found_inside}
use mir.Val.{bool_byte}

pub mapped_next : {X Y : Type 0} (g : X → Y) (xs : List X) (k : ℕ) (x : X) (was now : List Y)
    → slice_get xs k ≡ Some x → was ≡ map g (take k xs) → now ≡ was ++ g x ∷ [] → now ≡ map g (take (k + 1) xs)
mapped_next g xs k x was now e h i =
    i ∙ ap (λ ns. ns ++ g x ∷ []) h
    ∙ sym (ap (map g) (take_found xs k x e) ∙ map-append g (take k xs) (x ∷ []))

pub mapped_all : {X Y : Type 0} (g : X → Y) (xs : List X) (k : ℕ) (now : List Y)
    → length xs ≤ k → now ≡ map g (take k xs) → now ≡ map g xs
mapped_all g xs k now h e = e ∙ ap (map g) (take_all k xs h)

-- one entry of a mapped list
pub mapped_at : {X Y : Type 0} (g : X → Y) (xs : List X) (ys : List Y) (k : ℕ) (x : X) (d : Y)
    → ys ≡ map g xs → slice_get xs k ≡ Some x → get_or ys k d ≡ g x
mapped_at g xs ys k x d are at =
    get_or_from_slice_get ys k (g x) d (ap (λ zs. slice_get zs k) are ∙ slice_get-map g xs k ∙ ap (option_map g) at)

-- the names that are taken by the first ones
abbrev pub taken_by : List PlacedScope → (k q : ℕ) → Bool
taken_by scopes k q = list_any (is_number q) (map (outer_of scopes) (take k (uses_of scopes)))

pub taken_next : (scopes : List PlacedScope) (k q : ℕ) (u : Use) (found outer : Option ℕ) (was now : List Bool)
    → slice_get (uses_of scopes) k ≡ Some u
    → found ≡ found_of scopes u
    → option_map (λ (u : Use). option_and_then (outer_of_found (uses_of scopes) u) found) (slice_get (uses_of scopes) k)
    ≡ Some outer
    → slice_get was q ≡ Some (taken_by scopes k q)
    → slice_get now q ≡ Some (slice_index_or was q false || is_number q outer)
    → slice_get now q ≡ Some (taken_by scopes (k + 1) q)
taken_next scopes k q u found outer was now at are is before after =
    let some : option_and_then (outer_of_found (uses_of scopes) u) found ≡ outer =
    same_Some (option_and_then (outer_of_found (uses_of scopes) u) found) outer
    (ap (option_map (λ (u : Use). option_and_then (outer_of_found (uses_of scopes) u) found)) (sym at) ∙ is) in
    let one : outer ≡ outer_of scopes u =
    sym some ∙ ap (option_and_then (outer_of_found (uses_of scopes) u)) are in
    let old : slice_index_or was q false ≡ taken_by scopes k q =
    get_or_from_slice_get was q (taken_by scopes k q) false before in
    let more : taken_by scopes (k + 1) q ≡ (taken_by scopes k q || (is_number q (outer_of scopes u) || false)) =
    ap (λ us. list_any (is_number q) (map (outer_of scopes) us)) (take_found (uses_of scopes) k u at)
    ∙ ap (list_any (is_number q)) (map-append (outer_of scopes) (take k (uses_of scopes)) (u ∷ []))
    ∙ list_any-append (is_number q) (map (outer_of scopes) (take k (uses_of scopes))) (outer_of scopes u ∷ []) in
    after
    ∙ ap Some (ap (λ b. b || is_number q outer) old
    ∙ ap (λ o. taken_by scopes k q || is_number q o) one
    ∙ ap (λ b. taken_by scopes k q || b) (or_false (is_number q (outer_of scopes u)))
    ∙ sym more)
  where
    or_false : (b : Bool) → b ≡ (b || false)
    or_false true = refl
    or_false false = refl

pub taken_all : (scopes : List PlacedScope) (k q : ℕ) (o : Option Bool) → length (uses_of scopes) ≤ k
    → o ≡ Some (taken_by scopes k q) → o ≡ Some (is_taken scopes q)
unfolding is_taken
taken_all scopes k q o h e =
    e ∙ ap (λ us. Some (list_any (is_number q) (map (outer_of scopes) us))) (take_all k (uses_of scopes) h)

-- ---- counts

-- how many pass before each of the first k places
pub record CountsTo (tests : List Bool) (k : ℕ) (before : List ℕ) (count : ℕ) : Type 0 where
  pub long : length before ≡ k + 1
  pub each : (i : ℕ) → i ≤ k → slice_get before i ≡ Some (count_true (take i tests))
  pub now : count ≡ count_true (take k tests)

one_more : (b : Bool) → count_true (b ∷ []) ≡ bool_byte b
one_more true = refl
one_more false = refl

count_small : (tests : List Bool) (k : ℕ) → count_true (take k tests) ≤ k
count_small tests zero = omega arith
count_small [] (suc k) = omega arith
count_small (true ∷ tests) (suc k) = omega (arith, count_small tests k)
count_small (false ∷ tests) (suc k) = omega (arith, count_small tests k)

small_byte : (b : Bool) → bool_byte b ≤ 1
small_byte true = omega arith
small_byte false = omega arith

pub count_fits : (tests : List Bool) (k count : ℕ) (before : List ℕ) (b : Bool) → CountsTo tests k before count
    → k < length tests → count + bool_byte b ≤ length tests
count_fits tests k count before b counts h = omega (arith, counts.now, count_small tests k, small_byte b, h)

pub counts_next : (tests : List Bool) (k count : ℕ) (before now : List ℕ) (b : Bool) → CountsTo tests k before count
    → slice_get tests k ≡ Some b → now ≡ before ++ (count + bool_byte b) ∷ []
    → CountsTo tests (k + 1) now (count + bool_byte b)
counts_next tests k count before now b counts at is =
    let sum : count + bool_byte b ≡ count_true (take (k + 1) tests) =
    omega (
      arith,
      ap count_true (take_found tests k b at),
      count-append (take k tests) (b ∷ []),
      one_more b,
      counts.now,
    ) in
    let long : length now ≡ length before + 1 =
    ap length is ∙ length_push before (count + bool_byte b) in
    record {
      long = omega (arith, long, counts.long);
      each = λ i h. ⊎_elim (λ (inside : i < k + 1).
          ap (λ ns. slice_get ns i) is
          ∙ slice_get_front before ((count + bool_byte b) ∷ []) i (count_true (take i tests))
          (counts.each i (omega (arith, inside))))
          (λ (past : k + 1 ≤ i).
          let last : i ≡ length before + 0 = omega (arith, past, h, counts.long) in
          let same : k + 1 ≡ i = omega (arith, past, h) in
          ap (λ ns. slice_get ns i) is
          ∙ ap (slice_get (before ++ (count + bool_byte b) ∷ [])) last
          ∙ slice_get_behind before ((count + bool_byte b) ∷ []) 0
          ∙ ap Some sum ∙ ap (λ n. Some (count_true (take n tests))) same)
          (cases_lt i (k + 1));
      now = sum;
    }

-- ---- slots

pub has_slot_is : (scopes : List PlacedScope) (u : Use) (found : Option ℕ) (taken : List Bool)
    → found ≡ found_of scopes u
    → ((q : ℕ) → q < length (uses_of scopes) → slice_get taken q ≡ Some (is_taken scopes q))
    → (is_some u.binding
    && (not (is_global_use u) && option_map_or (λ q. slice_index_or taken q false) found false))
    ≡ has_slot_of scopes u
unfolding has_slot_of
has_slot_is scopes u found taken are each =
    ap (λ b. is_some u.binding && (not (is_global_use u) && b)) (there found are)
  where
    there : (o : Option ℕ) → o ≡ found_of scopes u
        → option_map_or (λ q. slice_index_or taken q false) o false
        ≡ option_map_or (is_taken scopes) (found_of scopes u) false
    there None e = ap (λ p. option_map_or (is_taken scopes) p false) e
    there (Some q) e =
        get_or_from_slice_get taken q (is_taken scopes q) false (each q (found_inside scopes u q (sym e)))
        ∙ ap (λ p. option_map_or (is_taken scopes) p false) e

pub use_there : (uses : List Use) (k : ℕ) → k < length uses → (u : Use) × (slice_get uses k ≡ Some u)
use_there [] k h = absurd (omega (arith, h))
use_there (u ∷ uses) zero h = (u, refl)
use_there (u ∷ uses) (suc k) h = use_there uses k (omega (arith, h))
