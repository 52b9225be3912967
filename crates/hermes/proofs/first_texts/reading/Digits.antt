-- How the reader moves in a text and in a number.
use Rattle.std.proofs.Common.{◌≡◌, ℕ, zero, suc, ◌+◌, ◌-◌, ◌*◌, ◌<◌, ◌≤◌, ◌≢◌, true, false, List, [], ◌∷◌, ◌++◌, length}
use Rattle.std.proofs.Common.{refl, ap, sym, ◌∙◌, subst, append_assoc, length-append, decimal, arith, ◌⊎◌, inl, inr}
use Rattle.std.proofs.Common.{Option}
use Rattle.std.specs.List.{list_all}
use Rattle.std.specs.Int.{IsInRange}
use Rattle.std.proofs.lemmas.List.{append-nil}
use Rattle.hz_list.specs.declared.limits.TheConstants.{MAX_SAFE}
use Rattle.hermes.proofs.first_texts.reading.Bools.{both, first_of_both, second_of_both}
use Rattle.hermes.specs.first.Texts.{Spaced, is_number, is_text_byte}
use Rattle.hermes.specs.first.Reading.{Step, steps_of, steps_with, FollowClose, FollowSum, RestToken, RestText}
use Rattle.hermes.specs.first.Reading.{RestNumber, Moves, Halts}
use Rattle.hermes.proofs.first_texts.reading.Spacing.{spaced_cons, cons_spaced, spaced_solid}
use Rattle.hermes.proofs.first_texts.reading.Numerals.{numeral_digit, zero_alone, one_more, front_fits, same_numeral}
use Rattle.hermes.proofs.first_texts.reading.Arguments.{sum_byte}
use Rattle.hermes.proofs.first_texts.reading.Tokens.{digit_solid}
use Rattle.hermes.specs.declared.first.language.Sum.{Sum}
use Rattle.hermes.specs.declared.first.language.Argument.{Argument}
use Rattle.hermes.specs.declared.first.language.Argument.TheVariants as argument
use Rattle.hermes.specs.declared.first.state.Operator.{Operator}
use Rattle.hermes.specs.declared.first.state.Next.TheVariants as next

-- in a text
InText : ℕ → List ℕ → List Argument → List ℕ → List Argument → Type 0
InText b text done r calls =
    ((b ≡ 34) × RestToken [] next.Close (done ++ argument.Text text ∷ []) r calls)
    ⊎ ((is_text_byte b ≡ true) × (length text + 1 ≤ 254) × RestText (text ++ b ∷ []) done r calls)

text_goes_on : (more : List ℕ) (text : List ℕ) (done : List Argument) (tokens : List (List ℕ)) (calls : List Argument)
    (b : ℕ) (r : List ℕ) →
    length text + length more ≤ 254 → list_all is_text_byte more ≡ true
    → FollowClose (done ++ argument.Text (text ++ more) ∷ []) tokens calls
    → Spaced ((more ++ 34 ∷ []) ∷ tokens) (b ∷ r) →
    InText b text done r calls
unfolding InText
text_goes_on [] text done tokens calls b r short h close s =
    let f = spaced_cons 34 b [] tokens r s in
    inl (
      f.0,
      (
        tokens,
        subst (λ (t : List ℕ). FollowClose (done ++ argument.Text t ∷ []) tokens calls) (append-nil text)
            close,
        f.1,
      ),
    )
text_goes_on (y ∷ more) text done tokens calls b r short h close s =
    let f = spaced_cons y b (more ++ 34 ∷ []) tokens r s in
    let here : is_text_byte y ≡ true = first_of_both (is_text_byte y) (list_all is_text_byte more) h in
    let others : list_all is_text_byte more ≡ true = second_of_both (is_text_byte y) (list_all is_text_byte more) h in
    let whole : text ++ (y ∷ more) ≡ (text ++ b ∷ []) ++ more = ap (λ (z : ℕ). text ++ (z ∷ more)) (sym f.0)
    ∙ sym (append_assoc text (b ∷ []) more) in
    let longer : length (text ++ b ∷ []) ≡ length text + 1 = length-append text (b ∷ []) in
    let fits : length text + (length more + 1) ≤ 254 = omega (arith, short) in
    let room : length (text ++ b ∷ []) + length more ≤ 254 = omega arith in
    inr (
      ap is_text_byte f.0 ∙ here,
      omega arith,
      (
        more,
        tokens,
        room,
        others,
        subst (λ (t : List ℕ). FollowClose (done ++ argument.Text t ∷ []) tokens calls) whole close,
        f.1,
      ),
    )

in_text : (text : List ℕ) (done : List Argument) (b : ℕ) (r : List ℕ) (calls : List Argument)
    → RestText text done (b ∷ r) calls → InText b text done r calls
in_text text done b r calls x = text_goes_on x.0 text done x.1 calls b r x.2 x.3 x.4 x.5

text_longer : (text : List ℕ) (done : List Argument) (b : ℕ) (r : List ℕ) (calls : List Argument)
    → is_text_byte b ≡ true → RestText (text ++ b ∷ []) done r calls → RestText text done (b ∷ r) calls
text_longer text done b r calls good x =
    let longer : length (text ++ b ∷ []) ≡ length text + 1 = length-append text (b ∷ []) in
    let short : length (text ++ b ∷ []) + length x.0 ≤ 254 = x.2 in
    let room : length text + (length x.0 + 1) ≤ 254 = omega arith in (
      b ∷ x.0,
      x.1,
      omega (arith, room),
      both (is_text_byte b) (list_all is_text_byte x.0) good x.3,
      subst (λ (t : List ℕ). FollowClose (done ++ argument.Text t ∷ []) x.1 calls) (append_assoc text (b ∷ []) x.0) x.4,
      cons_spaced b (x.0 ++ 34 ∷ []) x.1 r x.5,
    )

pub text_ends : (text : List ℕ) (done : List Argument) → length text ≤ 254
    → Moves (RestText text done) (RestToken [] next.Close (done ++ argument.Text text ∷ [])) 34
unfolding InText
text_ends text done short = record {
  on = λ r calls x. elim (in_text text done 34 r calls x) [ inl y ↦ y.1 | inr y ↦ absurd (no_quote y.0) ];
  back = λ r calls x. (
    [],
    x.0,
    omega (arith, short),
    refl,
    subst (λ (t : List ℕ). FollowClose (done ++ argument.Text t ∷ []) x.0 calls) (sym (append-nil text)) x.1,
    cons_spaced 34 [] x.0 r x.2,
  );
}
  where
    no_quote : is_text_byte 34 ≡ true → ⊥
    no_quote e = cc

pub text_moves : (text : List ℕ) (done : List Argument) (b : ℕ) → b ≢ 34 → is_text_byte b ≡ true
    → Moves (RestText text done) (RestText (text ++ b ∷ []) done) b
unfolding InText
text_moves text done b other good = record {
  on = λ r calls x. elim (in_text text done b r calls x) [ inl y ↦ absurd (other y.0) | inr y ↦ y.2 ];
  back = λ r calls x. text_longer text done b r calls good x;
}

pub text_halts : (text : List ℕ) (done : List Argument) (b : ℕ) → b ≢ 34 → is_text_byte b ≡ false
    → Halts (RestText text done) b
unfolding InText
text_halts text done b other bad r calls x =
    elim (in_text text done b r calls x) [ inl y ↦ other y.0 | inr y ↦ let e : true ≡ false = sym y.0 ∙ bad in cc ]

pub text_full : (text : List ℕ) (done : List Argument) (b : ℕ) → b ≢ 34 → 254 ≤ length text
    → Halts (RestText text done) b
unfolding InText
text_full text done b other full r calls x =
    elim (in_text text done b r calls x) [ inl y ↦ other y.0 | inr y ↦ absurd (omega (arith, y.1)) ]

-- in a number
InNumber : ℕ → Option (Sum × Operator) → ℕ → List Argument → List ℕ → List Argument → Type 0
InNumber b before value done r calls =
    ((tokens : List (List ℕ)) × FollowSum (steps_with before value) done tokens calls × Spaced ([] ∷ tokens) (b ∷ r))
    ⊎ (IsInRange 48 57 b × (0 < value) × (value * 10 + (b - 48) ≤ MAX_SAFE)
    × RestNumber before (value * 10 + (b - 48)) done r calls)

some_digit : (value n b : ℕ) (more : List ℕ) → is_number n ≡ true → decimal n ≡ decimal value ++ b ∷ more → 0 < value
some_digit zero n b more h e = absurd (zero_alone n b more h e)
some_digit (suc value) n b more h e = omega arith

number_goes_on : (more : List ℕ) (before : Option (Sum × Operator)) (value n : ℕ) (done : List Argument)
    (tokens : List (List ℕ)) (calls : List Argument) (b : ℕ) (r : List ℕ) →
    is_number value ≡ true → is_number n ≡ true → decimal n ≡ decimal value ++ more
    → FollowSum (steps_with before n) done tokens calls → Spaced (more ∷ tokens) (b ∷ r) →
    InNumber b before value done r calls
unfolding InNumber
number_goes_on [] before value n done tokens calls b r hv h e f s =
    inl (
      tokens,
      subst (λ (m : ℕ). FollowSum (steps_with before m) done tokens calls) (same_numeral n value h hv e) f,
      s,
    )
number_goes_on (y ∷ more) before value n done tokens calls b r hv h e f s =
    let g = spaced_cons y b more tokens r s in
    let here : decimal n ≡ decimal value ++ b ∷ more = e ∙ ap (λ (z : ℕ). decimal value ++ z ∷ more) (sym g.0) in
    let digit : IsInRange 48 57 b = numeral_digit n value b more h here in
    let some : 0 < value = some_digit value n b more h here in
    let fits : value * 10 + (b - 48) ≤ MAX_SAFE = front_fits n value b more h hv here in
    let whole : decimal n ≡ decimal (value * 10 + (b - 48)) ++ more =
    here ∙ sym (append_assoc (decimal value) (b ∷ []) more)
    ∙ ap (λ (ds : List ℕ). ds ++ more) (sym (one_more value b some digit fits)) in
    inr (digit, some, fits, (n, more, tokens, h, whole, f, g.1))

in_number : (before : Option (Sum × Operator)) (value : ℕ) (done : List Argument) (b : ℕ) (r : List ℕ)
    (calls : List Argument) → is_number value ≡ true →
    RestNumber before value done (b ∷ r) calls → InNumber b before value done r calls
in_number before value done b r calls hv x = number_goes_on x.1 before value x.0 done x.2 calls b r hv x.3 x.4 x.5 x.6

number_longer : (before : Option (Sum × Operator)) (value : ℕ) (done : List Argument) (b : ℕ) (r : List ℕ)
    (calls : List Argument) → IsInRange 48 57 b → 0 < value → value * 10 + (b - 48) ≤ MAX_SAFE →
    RestNumber before (value * 10 + (b - 48)) done r calls → RestNumber before value done (b ∷ r) calls
number_longer before value done b r calls digit some fits x =
    let whole : decimal x.0 ≡ decimal value ++ b ∷ x.1 =
    x.4 ∙ ap (λ (ds : List ℕ). ds ++ x.1) (one_more value b some digit fits)
    ∙ append_assoc (decimal value) (b ∷ []) x.1 in
    (x.0, b ∷ x.1, x.2, x.3, whole, x.5, cons_spaced b x.1 x.2 r x.6)

no_digit : (before : Option (Sum × Operator)) (value : ℕ) (done : List Argument) (tokens : List (List ℕ))
    (calls : List Argument) (b : ℕ) (r : List ℕ) → IsInRange 48 57 b →
    FollowSum (steps_with before value) done tokens calls → Spaced ([] ∷ tokens) (b ∷ r) → ⊥
no_digit before value done tokens calls b r digit f s =
    let low : b ≤ 45 = sum_byte (steps_with before value) done tokens calls b r f
    (spaced_solid b tokens r (digit_solid b digit) s) in
    absurd (omega (arith, digit))

pub digit_moves : (before : Option (Sum × Operator)) (value : ℕ) (done : List Argument) (b : ℕ) → is_number value ≡ true
    → IsInRange 48 57 b → 0 < value → value * 10 + (b - 48) ≤ MAX_SAFE →
    Moves (RestNumber before value done) (RestNumber before (value * 10 + (b - 48)) done) b
unfolding InNumber
digit_moves before value done b hv digit some fits = record {
  on = λ r calls x. elim (in_number before value done b r calls hv x) [
    | inl y ↦ absurd
        (no_digit before value done y.0 calls b r digit y.1 y.2)
    | inr y ↦ y.3
  ];
  back = λ r calls x. number_longer before value done b r calls digit some fits x;
}

pub zero_halts : (before : Option (Sum × Operator)) (done : List Argument) (b : ℕ) → IsInRange 48 57 b
    → Halts (RestNumber before 0 done) b
unfolding InNumber
zero_halts before done b digit r calls x =
    elim (in_number before 0 done b r calls refl x) [
      | inl y ↦ no_digit before 0 done y.0 calls b r digit y.1 y.2
      | inr y
          ↦ omega (arith, y.1)
    ]

pub large_halts : (before : Option (Sum × Operator)) (value : ℕ) (done : List Argument) (b : ℕ) → is_number value ≡ true
    → IsInRange 48 57 b → MAX_SAFE < value * 10 + (b - 48) → Halts (RestNumber before value done) b
unfolding InNumber
large_halts before value done b hv digit large r calls x =
    elim (in_number before value done b r calls hv x) [
      | inl y ↦ no_digit before value done y.0 calls b r digit y.1 y.2
      | inr y ↦ omega (arith, y.2)
    ]

-- A byte that is no digit comes behind the number.
pub number_done : (before : Option (Sum × Operator)) (value : ℕ) (s : Sum) (done : List Argument) (b : ℕ)
    → is_number value ≡ true → (IsInRange 48 57 b → ⊥) → steps_of s ≡ steps_with before value →
    (r : List ℕ) (calls : List Argument) → RestNumber before value done (b ∷ r) calls
    → RestToken [] (next.Operator s) done (b ∷ r) calls
unfolding InNumber
number_done before value s done b hv other e r calls x =
    elim (in_number before value done b r calls hv x) [
      | inl y ↦ (y.0, subst (λ (us : List Step). FollowSum us done y.0 calls) (sym e) y.1, y.2)
      | inr y ↦ absurd (other y.0)
    ]

pub done_number : (before : Option (Sum × Operator)) (value : ℕ) (s : Sum) (done : List Argument)
    → is_number value ≡ true → steps_of s ≡ steps_with before value →
    (r : List ℕ) (calls : List Argument) → RestToken [] (next.Operator s) done r calls
    → RestNumber before value done r calls
done_number before value s done hv e r calls x = (
  value,
  [],
  x.0,
  hv,
  sym (append-nil (decimal value)),
  subst (λ (us : List Step). FollowSum us done x.0 calls) e x.1,
  x.2,
)
