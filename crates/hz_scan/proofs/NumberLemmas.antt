-- The value of digits, kept at most at a bound on the way.
use Rattle.std.proofs.Common.{◌≡◌, ℕ, suc, ◌+◌, ◌*◌, ◌≤◌, ◌<◌, min, true, false, cond, ◌==◌, nat_le, refl, List, []}
use Rattle.std.proofs.Common.{◌∷◌, length, get_or, drop, drop-cons, add-one, sym, ◌∙◌, ap, arith}
use Rattle.std.proofs.Math.Nat.{le-mul_of_pos_right, mul-le-mul_right}
use Rattle.std.proofs.lemmas.Bool.Decides.{nat_tests}
use Rattle.std.specs.Char.{digit_value}
use Rattle.hz_tree.specs.tokens.Numbers.{value_from}

bounded_step : (bound radix value digit : ℕ) → 1 ≤ radix → min (min value bound * radix + digit) bound
    ≡ min (value * radix + digit) bound
bounded_step bound radix value digit h =
    let above : bound ≤ bound * radix = le-mul_of_pos_right bound h in
    elim (nat_le value bound) as (λ t. nat_le value bound ≡ t → min (min value bound * radix + digit) bound
    ≡ min (value * radix + digit) bound) [
      | true ↦ λ e. let same : min value bound ≡ value = grind (arith, nat_tests) in rw same refl
      | false ↦ λ e.
          let least : min value bound ≡ bound = grind (arith, nat_tests) in
          let more : bound * radix ≤ value * radix = mul-le-mul_right radix (grind (arith, nat_tests)) in
          rw least (omega arith)
    ] refl

-- a bound on the value so far changes nothing below the bound
pub bounded : (bound radix value : ℕ) (digits : List ℕ) → 1 ≤ radix
    → min (value_from radix (min value bound) digits) bound ≡ min (value_from radix value digits) bound
bounded bound radix value [] h = omega arith
bounded bound radix value (b ∷ digits) h =
    elim (b == 95) as (λ t. min (value_from radix (cond t (min value bound) (min value bound * radix + digit_value b))
    digits) bound
    ≡ min (value_from radix (cond t value (value * radix + digit_value b)) digits) bound) [
      | true ↦ bounded bound radix value digits h
      | false ↦ sym (bounded bound radix (min value bound * radix + digit_value b) digits h)
          ∙ ap (λ v. min (value_from radix v digits) bound) (bounded_step bound radix value (digit_value b) h)
          ∙ bounded bound radix (value * radix + digit_value b) digits h
    ]

is_other : (b c : ℕ) → (b ≡ c → ⊥) → (b == c) ≡ false
is_other b c h = grind (arith, nat_tests)

-- at the digit or `_` with the number `i`, where the value so far is kept at most at the bound
module _ (bound radix value whole i : ℕ) (digits : List ℕ) (inside : i < length digits)
    (so_far : min (value_from radix value (drop i digits)) bound ≡ whole) where
  step : min (value_from radix (cond (get_or digits i 0 == 95) value
      (value * radix + digit_value (get_or digits i 0))) (drop (suc i) digits)) bound ≡ whole
  step = rw (drop-cons digits i 0 inside) at so_far

  pub goes_on : 1 ≤ radix → (get_or digits i 0 ≡ 95 → ⊥)
      → min (value_from radix (min (value * radix + digit_value (get_or digits i 0)) bound) (drop (i + 1) digits)) bound
      ≡ whole
  goes_on some other =
      let longer = value * radix + digit_value (get_or digits i 0) in
      let known : min (value_from radix longer (drop (suc i) digits)) bound ≡ whole
      = rw (is_other (get_or digits i 0) 95 other) at step in
      rw add-one (bounded bound radix longer (drop (suc i) digits) some ∙ known)

  pub passes_on : get_or digits i 0 ≡ 95 → min (value_from radix value (drop (i + 1) digits)) bound ≡ whole
  passes_on is =
      let known : min (value_from radix value (drop (suc i) digits)) bound ≡ whole = rw is at step in
      rw add-one known
