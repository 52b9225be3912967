-- How the reader moves at an argument, over a text, and between the numbers of a sum.
use Rattle.std.proofs.Common.{◌≡◌, ℕ, ◌+◌, ◌-◌, ◌≤◌, ◌≢◌, true, false, nat_le, List, [], ◌∷◌, ◌++◌, length, flat_map}
use Rattle.std.proofs.Common.{refl, ap, sym, ◌∙◌, subst, append_assoc, decimal, arith, ◌⊎◌, inl, inr, Some, None}
use Rattle.std.specs.List.{list_all}
use Rattle.std.specs.Int.{IsInRange}
use Rattle.std.proofs.lemmas.List.{append-nil}
use Rattle.hermes.proofs.first_texts.reading.Bools.{both, first_of_both, second_of_both}
use Rattle.hermes.specs.first.Texts.{is_blank, Spaced, is_number, is_text_byte, is_text, is_sum, is_argument}
use Rattle.hermes.specs.first.Texts.{argument_tokens, quoted}
use Rattle.hermes.specs.first.Reading.{Step, steps_of, step_tokens, operator_byte, operator_token, is_step, later_steps}
use Rattle.hermes.specs.first.Reading.{FollowClose, FollowSum, RestToken, RestText, RestNumber, Moves, Halts}
use Rattle.hermes.proofs.first_texts.reading.Spacing.{cons_spaced, spaced_solid, solid_spaced}
use Rattle.hermes.proofs.first_texts.reading.Numerals.{numeral_head, digit_alone}
use Rattle.hermes.proofs.first_texts.reading.SumSteps.{sum_tokens_are, sum_numbers, same_sum}
use Rattle.hermes.proofs.first_texts.reading.Tokens.{digit_solid, fixed}
use Rattle.hermes.specs.declared.first.language.Sign.TheVariants.{Plus, Minus}
use Rattle.hermes.specs.declared.first.language.Sum.{Sum}
use Rattle.hermes.specs.declared.first.language.Argument.{Argument}
use Rattle.hermes.specs.declared.first.language.Argument.TheVariants as argument
use Rattle.hermes.specs.declared.first.state.Operator.{Operator}
use Rattle.hermes.specs.declared.first.state.Operator.TheVariants as operator
use Rattle.hermes.specs.declared.first.state.Next.TheVariants as next

-- a byte that begins a number
number_opens : (n b : ℕ) (tokens rest : List (List ℕ)) (r : List ℕ) → is_number n ≡ true → tokens ≡ decimal n ∷ rest
    → Spaced tokens (b ∷ r) →
    (more : List ℕ) × (decimal n ≡ decimal (b - 48) ++ more) × IsInRange 48 57 b × Spaced (more ∷ rest) r
number_opens n b tokens rest r h e s =
    let head = numeral_head n h in
    let f = fixed head.0 b head.1 tokens rest r (e ∙ ap (λ (t : List ℕ). t ∷ rest) head.2) s in
    let digit : IsInRange 48 57 b = subst (λ (y : ℕ). IsInRange 48 57 y) (sym f.0) head.3 in
    let same : decimal n ≡ decimal (b - 48) ++ head.1 = head.2 ∙ ap (λ (y : ℕ). y ∷ head.1) (sym f.0)
    ∙ ap (λ (y : List ℕ). y ++ head.1) (sym (digit_alone b digit)) in
    (head.1, same, digit, f.1)

opens_number : (n b : ℕ) (more : List ℕ) (rest : List (List ℕ)) (r : List ℕ) → IsInRange 48 57 b
    → decimal n ≡ decimal (b - 48) ++ more → Spaced (more ∷ rest) r → Spaced ([] ∷ decimal n ∷ rest) (b ∷ r)
opens_number n b more rest r digit e s =
    let same : decimal n ≡ b ∷ more = e ∙ ap (λ (y : List ℕ). y ++ more) (digit_alone b digit) in
    solid_spaced (decimal n ∷ rest) (b ∷ r)
    (subst (λ (y : List ℕ). Spaced (y ∷ rest) (b ∷ r)) (sym same) (cons_spaced b more rest r s))

-- at an argument
text_parts : (t : List ℕ) → is_text t ≡ true → (length t ≤ 254) × (list_all is_text_byte t ≡ true)
text_parts t h =
    let short : nat_le (length t) 254 ≡ true = first_of_both (nat_le (length t) 254) (list_all is_text_byte t) h in
    (grind (arith, short), second_of_both (nat_le (length t) 254) (list_all is_text_byte t) h)

text_whole : (t : List ℕ) → length t ≤ 254 → list_all is_text_byte t ≡ true → is_text t ≡ true
text_whole t short all = both (nat_le (length t) 254) (list_all is_text_byte t) (grind (arith, short)) all

Opened : ℕ → List Argument → List ℕ → List Argument → Type 0
Opened b done r calls = ((b ≡ 34) × RestText [] done r calls)
    ⊎ (IsInRange 48 57 b × RestNumber None (b - 48) done r calls)

argument_opens : (a : Argument) (done : List Argument) (tokens rest : List (List ℕ)) (calls : List Argument) (b : ℕ)
    (r : List ℕ) →
    is_argument a ≡ true → tokens ≡ argument_tokens a ++ rest → FollowClose (done ++ a ∷ []) rest calls
    → Spaced tokens (b ∷ r) → Opened b done r calls
unfolding Opened
argument_opens (argument.Text t) done tokens rest calls b r h e close s =
    let f = fixed 34 b (t ++ 34 ∷ []) tokens rest r e s in
    let parts = text_parts t h in
    let short : 0 + length t ≤ 254 = omega (arith, parts.0) in
    inl (f.0, (t, rest, short, parts.1, close, f.1))
argument_opens (argument.Sum s) done tokens rest calls b r h e close sp =
    let later : List Step = later_steps s in
    let steps : list_all is_step (steps_of s) ≡ true = sym (sum_numbers s) ∙ h in
    let first : is_number s.first.first ≡ true =
    first_of_both (is_number s.first.first) (list_all is_step later) steps in
    let others : list_all is_step later ≡ true =
    second_of_both (is_number s.first.first) (list_all is_step later) steps in
    let behind : List (List ℕ) = flat_map step_tokens later ++ rest in
    let f = number_opens s.first.first b tokens behind r first
    (e ∙ ap (λ (t : List (List ℕ)). t ++ rest) (sum_tokens_are s)) sp in
    inr (f.2, (s.first.first, f.0, behind, first, f.1, (s, later, rest, refl, others, refl, close), f.3))

opened_text : (done : List Argument) (r : List ℕ) (calls : List Argument) → RestText [] done r calls
    → RestToken [] next.Argument done (34 ∷ r) calls
opened_text done r calls x =
    let text : List ℕ = x.0 in
    let short : length text ≤ 254 = let l : 0 + length text ≤ 254 = x.2 in omega arith in (
      quoted text ∷ x.1,
      (argument.Text text, x.1, text_whole text short x.3, refl, x.4),
      solid_spaced (quoted text ∷ x.1) (34 ∷ r) (cons_spaced 34 (text ++ 34 ∷ []) x.1 r x.5),
    )

opened_number : (b : ℕ) (done : List Argument) (r : List ℕ) (calls : List Argument) → IsInRange 48 57 b
    → RestNumber None (b - 48) done r calls → RestToken [] next.Argument done (b ∷ r) calls
opened_number b done r calls digit x =
    let f = x.5 in
    let s : Sum = f.0 in
    let n : ℕ = x.0 in
    let first : s.first.first ≡ n = ap (λ (u : Step). u.1) (head_step _ _ _ _ f.3) in
    let later : later_steps s ≡ f.1 = tail_steps _ _ _ _ f.3 in
    let numbers : is_sum s ≡ true =
    sum_numbers s ∙ both (is_number s.first.first) (list_all is_step (later_steps s)) (ap is_number first ∙ x.3)
    (ap (λ (us : List Step). list_all is_step us) later ∙ f.4) in
    let tokens : decimal n ∷ x.2 ≡ argument_tokens (argument.Sum s) ++ f.2 =
    ap (λ (y : List (List ℕ)). decimal n ∷ y)
    (f.5 ∙ ap (λ (us : List Step). flat_map step_tokens us ++ f.2) (sym later))
    ∙ ap (λ (m : ℕ). decimal m ∷ (flat_map step_tokens (later_steps s) ++ f.2)) (sym first)
    ∙ ap (λ (y : List (List ℕ)). y ++ f.2) (sym (sum_tokens_are s)) in
    (decimal n ∷ x.2, (argument.Sum s, f.2, numbers, tokens, f.6), opens_number n b x.1 x.2 r digit x.4 x.6)
  where
    head_step : (u v : Step) (us vs : List Step) → u ∷ us ≡ v ∷ vs → u ≡ v
    head_step u v us vs e = cc

    tail_steps : (u v : Step) (us vs : List Step) → u ∷ us ≡ v ∷ vs → us ≡ vs
    tail_steps u v us vs e = cc

opening : (done : List Argument) (b : ℕ) (r : List ℕ) (calls : List Argument) → is_blank b ≡ false
    → RestToken [] next.Argument done (b ∷ r) calls → Opened b done r calls
opening done b r calls solid x =
    argument_opens x.1.0 done x.0 x.1.1 calls b r x.1.2 x.1.3 x.1.4 (spaced_solid b x.0 r solid x.2)

pub text_opens : (done : List Argument) → Moves (RestToken [] next.Argument done) (RestText [] done) 34
unfolding Opened
text_opens done = record {
  on = λ r calls x. elim (opening done 34 r calls refl x) [ inl y ↦ y.1 | inr y ↦ absurd (omega (arith, y.0)) ];
  back = λ r calls x. opened_text done r calls x;
}

pub first_number_opens : (done : List Argument) (b : ℕ) → IsInRange 48 57 b
    → Moves (RestToken [] next.Argument done) (RestNumber None (b - 48) done) b
unfolding Opened
first_number_opens done b digit = record {
  on = λ r calls x. elim (opening done b r calls (digit_solid b digit) x) [
    | inl y ↦ absurd (omega (arith, y.0, digit))
    | inr y ↦ y.1
  ];
  back = λ r calls x. opened_number b done r calls digit x;
}

pub argument_halts : (done : List Argument) (b : ℕ) → is_blank b ≡ false → b ≢ 34 → (IsInRange 48 57 b → ⊥)
    → Halts (RestToken [] next.Argument done) b
unfolding Opened
argument_halts done b solid quote digit r calls x =
    elim (opening done b r calls solid x) [ inl y ↦ quote y.0 | inr y ↦ digit y.0 ]

-- at a number behind an operator
pub number_moves : (s : Sum) (op : Operator) (done : List Argument) (b : ℕ) → IsInRange 48 57 b
    → Moves (RestToken [] (next.Number s op) done) (RestNumber (Some (s, op)) (b - 48) done) b
number_moves s op done b digit = record {
  on = λ r calls x.
      let f = x.1 in
      let o = number_opens f.0 b x.0 f.1 r f.2 f.3 (spaced_solid b x.0 r (digit_solid b digit) x.2) in
      (f.0, o.0, f.1, f.2, o.1, f.4, o.3);
  back = λ r calls x. (decimal x.0 ∷ x.2, (x.0, x.2, x.3, refl, x.5), opens_number x.0 b x.1 x.2 r digit x.4 x.6);
}

pub number_halts : (s : Sum) (op : Operator) (done : List Argument) (b : ℕ) → is_blank b ≡ false
    → (IsInRange 48 57 b → ⊥) → Halts (RestToken [] (next.Number s op) done) b
number_halts s op done b solid digit r calls x =
    let f = x.1 in
    digit (number_opens f.0 b x.0 f.1 r f.2 f.3 (spaced_solid b x.0 r solid x.2)).2

-- behind a number
operator_solid : (op : Operator) → is_blank (operator_byte op) ≡ false
operator_solid (operator.Sign Plus) = refl
operator_solid (operator.Sign Minus) = refl
operator_solid operator.Times = refl

pub operator_range : (op : Operator) → (42 ≤ operator_byte op) × (operator_byte op ≤ 45)
operator_range (operator.Sign Plus) = (omega arith, omega arith)
operator_range (operator.Sign Minus) = (omega arith, omega arith)
operator_range operator.Times = (omega arith, omega arith)

same_operator : (op other : Operator) → operator_byte op ≡ operator_byte other → op ≡ other
same_operator (operator.Sign Plus) (operator.Sign Plus) e = refl
same_operator (operator.Sign Minus) (operator.Sign Minus) e = refl
same_operator operator.Times operator.Times e = refl
same_operator (operator.Sign Plus) (operator.Sign Minus) e = cc
same_operator (operator.Sign Minus) (operator.Sign Plus) e = cc
same_operator (operator.Sign Plus) operator.Times e = cc
same_operator (operator.Sign Minus) operator.Times e = cc
same_operator operator.Times (operator.Sign Plus) e = cc
same_operator operator.Times (operator.Sign Minus) e = cc

Behind : ℕ → List Step → List Argument → List ℕ → List Argument → Type 0
Behind b steps done r calls =
    ((b ≡ 41) × ((s : Sum) × (steps_of s ≡ steps) × RestToken [] next.End (done ++ argument.Sum s ∷ []) r calls))
    ⊎ ((op : Operator) × (b ≡ operator_byte op)
    × ((n : ℕ) × (tokens : List (List ℕ)) × (is_number n ≡ true)
    × FollowSum (steps ++ (op, n) ∷ []) done tokens calls × Spaced ([] ∷ decimal n ∷ tokens) r))

sum_goes_on : (more : List Step) (steps : List Step) (s : Sum) (done : List Argument) (tokens rest : List (List ℕ))
    (calls : List Argument) (b : ℕ) (r : List ℕ) →
    steps_of s ≡ steps ++ more → list_all is_step more ≡ true → tokens ≡ flat_map step_tokens more ++ rest
    → FollowClose (done ++ argument.Sum s ∷ []) rest calls → Spaced tokens (b ∷ r) →
    Behind b steps done r calls
unfolding Behind
sum_goes_on [] steps s done tokens rest calls b r e h t close sp =
    let f = fixed 41 b [] tokens close.0 r (t ∙ close.1) sp in
    inl (f.0, (s, e ∙ append-nil steps, (close.0, close.2, f.1)))
sum_goes_on (u ∷ more) steps s done tokens rest calls b r e h t close sp =
    let behind : List (List ℕ) = flat_map step_tokens more ++ rest in
    let f = fixed (operator_byte u.0) b [] tokens (decimal u.1 ∷ behind) r t sp in
    let number : is_number u.1 ≡ true = first_of_both (is_number u.1) (list_all is_step more) h in
    let others : list_all is_step more ≡ true = second_of_both (is_number u.1) (list_all is_step more) h in
    let steps_are : steps_of s ≡ (steps ++ u ∷ []) ++ more = e ∙ sym (append_assoc steps (u ∷ []) more) in
    inr (u.0, f.0, (u.1, behind, number, (s, more, rest, steps_are, others, refl, close), f.1))

behind_sum : (steps : List Step) (done : List Argument) (tokens : List (List ℕ)) (calls : List Argument) (b : ℕ)
    (r : List ℕ) →
    FollowSum steps done tokens calls → Spaced tokens (b ∷ r) → Behind b steps done r calls
behind_sum steps done tokens calls b r f sp = sum_goes_on f.1 steps f.0 done tokens f.2 calls b r f.3 f.4 f.5 f.6 sp

-- No digit stands behind the numbers of a sum.
pub sum_byte : (steps : List Step) (done : List Argument) (tokens : List (List ℕ)) (calls : List Argument) (b : ℕ)
    (r : List ℕ) → FollowSum steps done tokens calls → Spaced tokens (b ∷ r) → b ≤ 45
unfolding Behind
sum_byte steps done tokens calls b r f sp =
    elim (behind_sum steps done tokens calls b r f sp) [
      | inl y ↦ omega (arith, y.0)
      | inr y ↦ omega
          (arith, y.1, operator_range y.0)
    ]

pub sum_ends : (s : Sum) (done : List Argument)
    → Moves (RestToken [] (next.Operator s) done) (RestToken [] next.End (done ++ argument.Sum s ∷ [])) 41
unfolding Behind
sum_ends s done = record {
  on = λ r calls x. elim (behind_sum (steps_of s) done x.0 calls 41 r x.1 (spaced_solid 41 x.0 r refl x.2)) [
    | inl y ↦ subst (λ (t : Sum). RestToken [] next.End (done ++ argument.Sum t ∷ []) r calls) (same_sum y.1.0 s y.1.1)
        y.1.2
    | inr y ↦ absurd (omega (arith, y.1, operator_range y.0))
  ];
  back = λ r calls x. (
    (41 ∷ []) ∷ x.0,
    (s, [], (41 ∷ []) ∷ x.0, sym (append-nil (steps_of s)), refl, refl, (x.0, refl, x.1)),
    solid_spaced ((41 ∷ []) ∷ x.0) (41 ∷ r) (cons_spaced 41 [] x.0 r x.2),
  );
}

operator_back : (s : Sum) (op : Operator) (done : List Argument) (r : List ℕ) (calls : List Argument) →
    RestToken [] (next.Number s op) done r calls → RestToken [] (next.Operator s) done (operator_byte op ∷ r) calls
operator_back s op done r calls x =
    let f = x.1 in
    let g = f.4 in
    let n : ℕ = f.0 in
    let steps : steps_of g.0 ≡ steps_of s ++ (op, n) ∷ g.1 = g.3 ∙ append_assoc (steps_of s) ((op, n) ∷ []) g.1 in
    let tokens : operator_token op ∷ x.0 ≡ flat_map step_tokens ((op, n) ∷ g.1) ++ g.2 =
    ap (λ (y : List (List ℕ)). operator_token op ∷ y) (f.3 ∙ ap (λ (y : List (List ℕ)). decimal n ∷ y) g.5) in
    let spaced : Spaced (operator_token op ∷ x.0) (operator_byte op ∷ r) =
    cons_spaced (operator_byte op) [] x.0 r x.2 in (
      operator_token op ∷ x.0,
      (g.0, (op, n) ∷ g.1, g.2, steps, both (is_number n) (list_all is_step g.1) f.2 g.4, tokens, g.6),
      solid_spaced (operator_token op ∷ x.0) (operator_byte op ∷ r) spaced,
    )

pub operator_moves : (s : Sum) (op : Operator) (done : List Argument)
    → Moves (RestToken [] (next.Operator s) done) (RestToken [] (next.Number s op) done) (operator_byte op)
unfolding Behind
operator_moves s op done = record {
  on = λ r calls x. elim (behind_sum (steps_of s) done x.0 calls (operator_byte op) r x.1
      (spaced_solid (operator_byte op) x.0 r (operator_solid op) x.2)) [
        | inl y ↦ absurd (omega (arith, y.0, operator_range op))
        | inr y ↦ subst (λ (o : Operator). RestToken [] (next.Number s o) done r calls) (sym (same_operator op y.0 y.1))
            (decimal y.2.0 ∷ y.2.1, (y.2.0, y.2.1, y.2.2, refl, y.2.3), y.2.4)
      ];
  back = λ r calls x. operator_back s op done r calls x;
}

pub sum_halts : (s : Sum) (done : List Argument) (b : ℕ) → is_blank b ≡ false → b ≢ 41
    → ((op : Operator) → b ≢ operator_byte op) → Halts (RestToken [] (next.Operator s) done) b
unfolding Behind
sum_halts s done b solid close other r calls x =
    elim (behind_sum (steps_of s) done x.0 calls b r x.1 (spaced_solid b x.0 r solid x.2)) [
      | inl y ↦ close y.0
      | inr y ↦
          other y.0 y.1
    ]
