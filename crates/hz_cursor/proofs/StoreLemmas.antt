-- The long numbers of a store from the last to the first.
use Rattle.std.proofs.Common.{◌≡◌, ℕ, ◌-◌, ◌<◌, List, [], ◌∷◌, drop, length, reverse, refl, ap, sym, ◌∙◌, arith}
use Rattle.std.proofs.lemmas.List.{get_or-reverse, length-reverse}
use Rattle.std.proofs.Math.ListN.{get_or}
use Rattle.hz_cursor.specs.Stored.{first_or_zero}

second : (xs : List ℕ) → 1 < length xs → get_or xs 1 0 ≡ first_or_zero (drop 1 xs)
second [] h = refl
second (x ∷ []) h = refl
second (x ∷ y ∷ xs) h = refl

pub second_last_is : (xs : List ℕ) (at x : ℕ) → 1 < length xs → at ≡ length xs - 2 → x ≡ get_or xs at 0
    → x ≡ first_or_zero (drop 1 (reverse xs))
second_last_is xs at x many is found =
    found
    ∙ ap (λ i. get_or xs i 0) (is ∙ omega (arith, many))
    ∙ sym (get_or-reverse xs 1 0 many)
    ∙ second (reverse xs) (rw (length-reverse xs) many)
