-- Elements of lists by their places.
use Rattle.std.proofs.Common.{◌≡◌, ◌+◌, ◌≤◌, ◌-◌, ℕ, zero, suc, List, [], ◌∷◌, ◌++◌, length, Some, refl, ap, ◌∙◌}
use Rattle.std.proofs.Common.{◌<◌, ◌⊎◌, inl, inr, ⊎_elim, arith}
use Rattle.std.specs.List.{slice_get}

pub get_more : {X : Type 0} (xs : List X) (ys : List X) (i : ℕ) (x : X) → slice_get xs i ≡ Some x
    → slice_get (xs ++ ys) i ≡ Some x
get_more [] ys i x is = absurd cc
get_more (z ∷ xs) ys zero x is = is
get_more (z ∷ xs) ys (suc i) x is = get_more xs ys i x is

pub get_behind : {X : Type 0} (xs : List X) (ys : List X) (i : ℕ)
    → slice_get (xs ++ ys) (length xs + i) ≡ slice_get ys i
get_behind [] ys i = let same : 0 + i ≡ i = omega arith in ap (slice_get ys) same
get_behind (z ∷ xs) ys i =
    let next : suc (length xs) + i ≡ suc (length xs + i) = omega arith in
    ap (slice_get (z ∷ (xs ++ ys))) next ∙ get_behind xs ys i

-- an element of two lists is one of the first, or one of the second
pub get_either : {X : Type 0} (xs : List X) (ys : List X) (i : ℕ) (x : X) → slice_get (xs ++ ys) i ≡ Some x
    → (slice_get xs i ≡ Some x) ⊎ ((length xs ≤ i) × (slice_get ys (i - length xs) ≡ Some x))
get_either [] ys i x is =
    let same : i - 0 ≡ i = omega arith in inr (omega arith, ap (slice_get ys) same ∙ is)
get_either (z ∷ xs) ys zero x is = inl is
get_either (z ∷ xs) ys (suc i) x is = ⊎_elim
    (λ first. inl first)
    (λ (second : (length xs ≤ i) × (slice_get ys (i - length xs) ≡ Some x)).
    let same : suc i - suc (length xs) ≡ i - length xs = omega arith in
    inr (omega (arith, second.0), ap (slice_get ys) same ∙ second.1))
    (get_either xs ys i x is)

pub get_last : {X : Type 0} (xs : List X) (x : X) → slice_get (xs ++ x ∷ []) (length xs) ≡ Some x
get_last [] x = refl
get_last (z ∷ xs) x = get_last xs x

pub get_within : {X : Type 0} (xs : List X) (i : ℕ) → i < length xs → (x : X) × (slice_get xs i ≡ Some x)
get_within [] i less = absurd (omega (arith, less))
get_within (x ∷ xs) zero less = (x, refl)
get_within (x ∷ xs) (suc i) less = get_within xs i (omega (arith, less))
