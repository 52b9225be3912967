-- Decimal numerals, digit by digit.
use Rattle.std.proofs.Common.{◌≡◌, ℕ, zero, suc, ◌+◌, ◌-◌, ◌*◌, ◌/◌, ◌%◌, ◌^◌, ◌<◌, ◌≤◌, true, List, [], ◌∷◌, ◌++◌}
use Rattle.std.proofs.Common.{length, get_or, refl, ap, sym, ◌∙◌, subst, arith, decimal, lit<}
use Rattle.std.specs.Str.Parse.{AllDigits, digits_value, digits_value_after}
use Rattle.std.specs.Char.{digit_value}
use Rattle.std.specs.Int.{IsInRange}
use Rattle.std.proofs.lemmas.Str.Parse.{digit_from_value}
use Rattle.std.proofs.lemmas.Fmt.{decimal_is_IsNumeral, decimal_digit, decimal_step, decimal_injective, first_decimal}
use Rattle.std.proofs.lemmas.List.{append-nil}
use Rattle.hz_list.specs.declared.limits.TheConstants.{MAX_SAFE}
use Rattle.hermes.specs.first.Texts.{is_number}

pub number_fits : (n : ℕ) → is_number n ≡ true → n ≤ MAX_SAFE
number_fits n h = grind (arith, h)

pub number_small : (n : ℕ) → is_number n ≡ true → n < 2 ^ 64
number_small n h = let le : n ≤ MAX_SAFE = number_fits n h in omega arith

pub digit_in : (xs : List ℕ) (b : ℕ) (ys : List ℕ) → AllDigits 10 (xs ++ b ∷ ys) → IsInRange 48 57 b
digit_in [] b ys all = digit_from_value b all.0
digit_in (x ∷ xs) b ys all = digit_in xs b ys all.1

pub numeral_digit : (n v b : ℕ) (more : List ℕ) → is_number n ≡ true → decimal n ≡ decimal v ++ b ∷ more
    → IsInRange 48 57 b
numeral_digit n v b more h e =
    let numeral = decimal_is_IsNumeral n (number_small n h) in
    digit_in (decimal v) b more (subst (λ (ds : List ℕ). AllDigits 10 ds) e numeral.0.1)

pub numeral_first : (n b : ℕ) (more : List ℕ) → is_number n ≡ true → decimal n ≡ b ∷ more → IsInRange 48 57 b
numeral_first n b more h e =
    let numeral = decimal_is_IsNumeral n (number_small n h) in
    digit_in [] b more (subst (λ (ds : List ℕ). AllDigits 10 ds) e numeral.0.1)

head_of : (ds : List ℕ) → 0 < length ds → (x : ℕ) × (more : List ℕ) × (ds ≡ x ∷ more)
head_of [] h = absurd (omega arith)
head_of (x ∷ more) h = (x, more, refl)

pub numeral_head : (n : ℕ) → is_number n ≡ true → (x : ℕ) × (more : List ℕ) × (decimal n ≡ x ∷ more) × IsInRange 48 57 x
numeral_head n h =
    let numeral = decimal_is_IsNumeral n (number_small n h) in
    let head = head_of (decimal n) numeral.0.0 in
    (head.0, head.1, head.2, numeral_first n head.0 head.1 h head.2)

-- No numeral goes on behind a 0 in front.
pub zero_alone : (n b : ℕ) (more : List ℕ) → is_number n ≡ true → decimal n ≡ decimal 0 ++ b ∷ more → ⊥
zero_alone zero b more h e = let f : 48 ∷ [] ≡ 48 ∷ b ∷ more = sym (decimal_digit 0 (lit< tt)) ∙ e
    ∙ ap (λ (ds : List ℕ). ds ++ b ∷ more) (decimal_digit 0 (lit< tt)) in cc
zero_alone (suc n) b more h e =
    let f : decimal (suc n) ≡ 48 ∷ b ∷ more = e ∙ ap (λ (ds : List ℕ). ds ++ b ∷ more) (decimal_digit 0 (lit< tt)) in
    let low : 48 < get_or (decimal (suc n)) 0 0 = first_decimal (suc n) (omega arith) (number_small (suc n) h) in
    let same : get_or (decimal (suc n)) 0 0 ≡ 48 = ap (λ (ds : List ℕ). get_or ds 0 0) f in
    absurd (omega arith)

pub digit_alone : (b : ℕ) → IsInRange 48 57 b → decimal (b - 48) ≡ b ∷ []
digit_alone b h =
    let same : 48 + (b - 48) ≡ b = omega arith in
    decimal_digit (b - 48) (omega arith) ∙ ap (λ (x : ℕ). x ∷ []) same

pub one_more : (v b : ℕ) → 0 < v → IsInRange 48 57 b → v * 10 + (b - 48) ≤ MAX_SAFE
    → decimal (v * 10 + (b - 48)) ≡ decimal v ++ b ∷ []
one_more v b some h fits =
    let quotient : (v * 10 + (b - 48)) / 10 ≡ v = omega arith in
    let rest : 48 + (v * 10 + (b - 48)) % 10 ≡ b = omega arith in
    decimal_step (v * 10 + (b - 48)) (omega arith) (omega arith)
    ∙ ap (λ (q : ℕ). decimal q ++ (48 + (v * 10 + (b - 48)) % 10) ∷ []) quotient
    ∙ ap (λ (x : ℕ). decimal v ++ x ∷ []) rest

value_after : (m : ℕ) (xs ys : List ℕ)
    → digits_value_after 10 m (xs ++ ys) ≡ digits_value_after 10 (digits_value_after 10 m xs) ys
value_after m [] ys = refl
value_after m (x ∷ xs) ys = value_after (m * 10 + digit_value x) xs ys

value_grows : (m : ℕ) (xs : List ℕ) → m ≤ digits_value_after 10 m xs
value_grows m [] = omega arith
value_grows m (x ∷ xs) = let more : m * 10 + digit_value x ≤ digits_value_after 10 (m * 10 + digit_value x) xs =
    value_grows (m * 10 + digit_value x) xs in omega arith

digit_value_is : (b : ℕ) → IsInRange 48 57 b → digit_value b ≡ b - 48
digit_value_is b h = grind (arith, h)

-- A numeral is at least what its front digits say.
pub front_fits : (n v b : ℕ) (more : List ℕ) → is_number n ≡ true → is_number v ≡ true
    → decimal n ≡ decimal v ++ b ∷ more → v * 10 + (b - 48) ≤ MAX_SAFE
front_fits n v b more h hv e =
    let whole : digits_value 10 (decimal n) ≡ n = (decimal_is_IsNumeral n (number_small n h)).1 in
    let front : digits_value 10 (decimal v) ≡ v = (decimal_is_IsNumeral v (number_small v hv)).1 in
    let digit : digit_value b ≡ b - 48 = digit_value_is b (numeral_digit n v b more h e) in
    let split : digits_value 10 (decimal n) ≡ digits_value_after 10 (digits_value 10 (decimal v)) (b ∷ more) =
    ap (λ (ds : List ℕ). digits_value 10 ds) e ∙ value_after 0 (decimal v) (b ∷ more) in
    let same : n ≡ digits_value_after 10 (v * 10 + (b - 48)) more =
    sym whole ∙ split ∙ ap (λ (m : ℕ). digits_value_after 10 m (b ∷ more)) front
    ∙ ap (λ (d : ℕ). digits_value_after 10 (v * 10 + d) more) digit in
    let grows : v * 10 + (b - 48) ≤ digits_value_after 10 (v * 10 + (b - 48)) more =
    value_grows (v * 10 + (b - 48)) more in
    let fits : n ≤ MAX_SAFE = number_fits n h in
    omega arith

pub same_numeral : (n v : ℕ) → is_number n ≡ true → is_number v ≡ true → decimal n ≡ decimal v ++ [] → n ≡ v
same_numeral n v h hv e = decimal_injective n v (number_small n h) (number_small v hv) (e ∙ append-nil (decimal v))
