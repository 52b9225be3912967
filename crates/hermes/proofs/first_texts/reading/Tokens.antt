-- How the reader moves over the bytes of tokens and the blanks behind them, and over texts.
use Rattle.std.proofs.Common.{◌≡◌, ℕ, ◌≢◌, true, false, List, [], ◌∷◌, ◌++◌, flat_map, refl, ap, sym, ◌∙◌, subst}
use Rattle.std.proofs.Common.{append_assoc, decimal, codes, arith}
use Rattle.std.specs.List.{list_all}
use Rattle.std.specs.Int.{IsInRange}
use Rattle.hermes.proofs.first_texts.reading.Bools.{both, first_of_both, second_of_both}
use Rattle.hermes.specs.first.Texts.{is_blank, Spaced, is_number, is_argument, argument_tokens, call_tokens}
use Rattle.hermes.specs.first.Reading.{Step, step_tokens, operator_token, later_steps, Follow, RestToken, Moves, Halts}
use Rattle.hermes.proofs.first_texts.reading.Spacing.{Solid, spaced_cons, cons_spaced, blank_spaced, spaced_blank}
use Rattle.hermes.proofs.first_texts.reading.Spacing.{spaced_solid, solid_spaced}
use Rattle.hermes.proofs.first_texts.reading.Numerals.{numeral_head}
use Rattle.hermes.proofs.first_texts.reading.SumSteps.{sum_tokens_are}
use Rattle.hermes.specs.declared.first.language.Sign.TheVariants.{Plus, Minus}
use Rattle.hermes.specs.declared.first.language.Sum.{Sum}
use Rattle.hermes.specs.declared.first.language.Argument.{Argument}
use Rattle.hermes.specs.declared.first.language.Argument.TheVariants as argument
use Rattle.hermes.specs.declared.first.state.Operator.{Operator}
use Rattle.hermes.specs.declared.first.state.Operator.TheVariants as operator
use Rattle.hermes.specs.declared.first.state.Next.{Next}
use Rattle.hermes.specs.declared.first.state.Next.TheVariants as next

-- No token that may follow begins with a blank.
begins_solid : (x : ℕ) (token : List ℕ) (tokens rest : List (List ℕ)) → is_blank x ≡ false → tokens ≡ (x ∷ token) ∷ rest
    → Solid tokens
begins_solid x token tokens rest solid e = subst Solid (sym e) solid

pub digit_solid : (x : ℕ) → IsInRange 48 57 x → is_blank x ≡ false
digit_solid x h = grind (arith, h)

number_solid : (n : ℕ) (tokens rest : List (List ℕ)) → is_number n ≡ true → tokens ≡ decimal n ∷ rest → Solid tokens
number_solid n tokens rest h e =
    let head = numeral_head n h in
    begins_solid head.0 head.1 tokens rest (digit_solid head.0 head.3) (e ∙ ap (λ (t : List ℕ). t ∷ rest) head.2)

call_solid : (more : List Argument) (tokens : List (List ℕ)) → tokens ≡ flat_map call_tokens more → Solid tokens
call_solid [] tokens e = subst Solid (sym e) tt
call_solid (a ∷ more) tokens e = subst Solid (sym e) refl

operator_solid : (op : Operator) (tokens rest : List (List ℕ)) → tokens ≡ operator_token op ∷ rest → Solid tokens
operator_solid (operator.Sign Plus) tokens rest e = subst Solid (sym e) refl
operator_solid (operator.Sign Minus) tokens rest e = subst Solid (sym e) refl
operator_solid operator.Times tokens rest e = subst Solid (sym e) refl

pub sum_solid : (more : List Step) (tokens rest rest' : List (List ℕ)) → tokens ≡ flat_map step_tokens more ++ rest
    → rest ≡ (41 ∷ []) ∷ rest' → Solid tokens
sum_solid [] tokens rest rest' e f = begins_solid 41 [] tokens rest' refl (e ∙ f)
sum_solid (u ∷ more) tokens rest rest' e f =
    operator_solid u.0 tokens (decimal u.1 ∷ (flat_map step_tokens more ++ rest)) e

argument_solid : (a : Argument) (tokens rest : List (List ℕ)) → is_argument a ≡ true
    → tokens ≡ argument_tokens a ++ rest → Solid tokens
argument_solid (argument.Text t) tokens rest h e = begins_solid 34 (t ++ 34 ∷ []) tokens rest refl e
argument_solid (argument.Sum s) tokens rest h e =
    number_solid s.first.first tokens (flat_map step_tokens (later_steps s) ++ rest) (first_number s h)
    (e ∙ ap (λ (t : List (List ℕ)). t ++ rest) (sum_tokens_are s))
  where
    first_number : (s : Sum) → is_argument (argument.Sum s) ≡ true → is_number s.first.first ≡ true
    first_number s h = grind (arith, h)

pub follow_solid : (after : Next) (done : List Argument) (tokens : List (List ℕ)) (calls : List Argument)
    → Follow after done tokens calls → Solid tokens
follow_solid next.Call done tokens calls f = call_solid f.0 tokens f.3
follow_solid next.Open done tokens calls f = begins_solid 40 [] tokens f.0 refl f.1
follow_solid next.Argument done tokens calls f = argument_solid f.0 tokens f.1 f.2 f.3
follow_solid next.Close done tokens calls f = begins_solid 41 [] tokens f.0 refl f.1
follow_solid next.End done tokens calls f = begins_solid 59 [] tokens f.0 refl f.1
follow_solid (next.Operator s) done tokens calls f = sum_solid f.1 tokens f.2 f.6.0 f.5 f.6.1
follow_solid (next.Number s op) done tokens calls f = number_solid f.0 tokens f.1 f.2 f.3

-- a blank behind a token
pub blank_moves : (after : Next) (done : List Argument) (b : ℕ) → is_blank b ≡ true
    → Moves (RestToken [] after done) (RestToken [] after done) b
blank_moves after done b blank = record {
  on = λ r calls x. (x.0, x.1, spaced_blank b x.0 r (follow_solid after done x.0 calls x.1) blank x.2);
  back = λ r calls x. (x.0, x.1, blank_spaced b x.0 r blank x.2);
}

-- in a token of fixed bytes
pub token_moves : (x : ℕ) (part : List ℕ) (after : Next) (done : List Argument)
    → Moves (RestToken (x ∷ part) after done) (RestToken part after done) x
token_moves x part after done = record {
  on = λ r calls y. (y.0, y.1, (spaced_cons x x part y.0 r y.2).1);
  back = λ r calls y. (y.0, y.1, cons_spaced x part y.0 r y.2);
}

pub token_halts : (x : ℕ) (part : List ℕ) (after : Next) (done : List Argument) (b : ℕ) → b ≢ x
    → Halts (RestToken (x ∷ part) after done) b
token_halts x part after done b other r calls y = other (spaced_cons x b part y.0 r y.2).0

-- a byte that begins a token of fixed bytes
pub fixed : (x b : ℕ) (part : List ℕ) (tokens rest : List (List ℕ)) (r : List ℕ) → tokens ≡ (x ∷ part) ∷ rest
    → Spaced tokens (b ∷ r) → (b ≡ x) × Spaced (part ∷ rest) r
fixed x b part tokens rest r e s = spaced_cons x b part rest r (subst (λ (y : List (List ℕ)). Spaced y (b ∷ r)) e s)

pub end_moves : (done : List Argument) → Moves (RestToken [] next.End done) (RestToken [] next.Call done) 59
end_moves done = record {
  on = λ r calls x. (x.1.0, x.1.2, (fixed 59 59 [] x.0 x.1.0 r x.1.1 (spaced_solid 59 x.0 r refl x.2)).1);
  back = λ r calls x. (
    (59 ∷ []) ∷ x.0,
    (x.0, refl, x.1),
    solid_spaced ((59 ∷ []) ∷ x.0) (59 ∷ r) (cons_spaced 59 [] x.0 r x.2),
  );
}

pub end_halts : (done : List Argument) (b : ℕ) → is_blank b ≡ false → b ≢ 59 → Halts (RestToken [] next.End done) b
end_halts done b solid other r calls x = other (fixed 59 b [] x.0 x.1.0 r x.1.1 (spaced_solid b x.0 r solid x.2)).0

pub close_moves : (done : List Argument) → Moves (RestToken [] next.Close done) (RestToken [] next.End done) 41
close_moves done = record {
  on = λ r calls x. (x.1.0, x.1.2, (fixed 41 41 [] x.0 x.1.0 r x.1.1 (spaced_solid 41 x.0 r refl x.2)).1);
  back = λ r calls x. (
    (41 ∷ []) ∷ x.0,
    (x.0, refl, x.1),
    solid_spaced ((41 ∷ []) ∷ x.0) (41 ∷ r) (cons_spaced 41 [] x.0 r x.2),
  );
}

pub close_halts : (done : List Argument) (b : ℕ) → is_blank b ≡ false → b ≢ 41 → Halts (RestToken [] next.Close done) b
close_halts done b solid other r calls x = other (fixed 41 b [] x.0 x.1.0 r x.1.1 (spaced_solid b x.0 r solid x.2)).0

pub open_moves : (done : List Argument) → Moves (RestToken [] next.Open done) (RestToken [] next.Argument done) 40
open_moves done = record {
  on = λ r calls x. (x.1.0, x.1.2, (fixed 40 40 [] x.0 x.1.0 r x.1.1 (spaced_solid 40 x.0 r refl x.2)).1);
  back = λ r calls x. (
    (40 ∷ []) ∷ x.0,
    (x.0, refl, x.1),
    solid_spaced ((40 ∷ []) ∷ x.0) (40 ∷ r) (cons_spaced 40 [] x.0 r x.2),
  );
}

pub open_halts : (done : List Argument) (b : ℕ) → is_blank b ≡ false → b ≢ 40 → Halts (RestToken [] next.Open done) b
open_halts done b solid other r calls x = other (fixed 40 b [] x.0 x.1.0 r x.1.1 (spaced_solid b x.0 r solid x.2)).0

-- a call
closing : List (List ℕ)
closing = (41 ∷ []) ∷ (59 ∷ []) ∷ []

pub call_opens : (more : List Argument) (done : List Argument) (tokens : List (List ℕ)) (calls : List Argument) (b : ℕ)
    (r : List ℕ) →
    calls ≡ done ++ more → list_all is_argument more ≡ true → tokens ≡ flat_map call_tokens more → Spaced tokens (b ∷ r)
    → (b ≡ 112) × RestToken (codes "rint") next.Open done r calls
call_opens [] done tokens calls b r e h t s = let bad : b ∷ r ≡ [] =
    subst (λ (y : List (List ℕ)). Spaced y (b ∷ r)) t s in cc
call_opens (a ∷ more) done tokens calls b r e h t s =
    let front : List (List ℕ) = argument_tokens a in
    let behind : List (List ℕ) = flat_map call_tokens more in
    let inner : List (List ℕ) = (front ++ (41 ∷ []) ∷ (59 ∷ []) ∷ []) ++ behind in
    let here = first_of_both (is_argument a) (list_all is_argument more) h in
    let others = second_of_both (is_argument a) (list_all is_argument more) h in
    let f = fixed 112 b (codes "rint") tokens ((40 ∷ []) ∷ inner) r t s in
    let all : calls ≡ (done ++ a ∷ []) ++ more = e ∙ sym (append_assoc done (a ∷ []) more) in (
      f.0,
      (
        (40 ∷ []) ∷ inner,
        (
          inner,
          refl,
          (
            a,
            (41 ∷ []) ∷ (59 ∷ []) ∷ behind,
            here,
            append_assoc front ((41 ∷ []) ∷ (59 ∷ []) ∷ []) behind,
            ((59 ∷ []) ∷ behind, refl, (behind, refl, (more, all, others, refl))),
          ),
        ),
        f.1,
      ),
    )

pub opened : (done : List Argument) (r : List ℕ) (calls : List Argument)
    → RestToken (codes "rint") next.Open done r calls → RestToken [] next.Call done (112 ∷ r) calls
opened done r calls x =
    let f = x.1 in
    let g = f.2 in
    let a : Argument = g.0 in
    let h = g.4 in
    let k = h.2.2 in
    let more : List Argument = k.0 in
    let tokens : codes "print" ∷ x.0 ≡ flat_map call_tokens (a ∷ more) =
    ap (λ (y : List (List ℕ)). codes "print" ∷ y) f.1
    ∙ ap (λ (y : List (List ℕ)). codes "print" ∷ (40 ∷ []) ∷ y) g.3
    ∙ ap (λ (y : List (List ℕ)). codes "print" ∷ (40 ∷ []) ∷ (argument_tokens a ++ y))
    (h.1 ∙ ap (λ (y : List (List ℕ)). (41 ∷ []) ∷ y) (h.2.1 ∙ ap (λ (y : List (List ℕ)). (59 ∷ []) ∷ y) k.3))
    ∙ ap (λ (y : List (List ℕ)). codes "print" ∷ (40 ∷ []) ∷ y)
    (sym (append_assoc (argument_tokens a) ((41 ∷ []) ∷ (59 ∷ []) ∷ []) (flat_map call_tokens more))) in
    let all : calls ≡ done ++ (a ∷ more) = k.1 ∙ append_assoc done (a ∷ []) more in (
      codes "print" ∷ x.0,
      (a ∷ more, all, both (is_argument a) (list_all is_argument more) g.2 k.2, tokens),
      solid_spaced (codes "print" ∷ x.0) (112 ∷ r) (cons_spaced 112 (codes "rint") x.0 r x.2),
    )

pub call_moves : (done : List Argument)
    → Moves (RestToken [] next.Call done) (RestToken (codes "rint") next.Open done) 112
call_moves done = record {
  on = λ r calls x. (call_opens x.1.0 done x.0 calls 112 r x.1.1 x.1.2 x.1.3 (spaced_solid 112 x.0 r refl x.2)).1;
  back = λ r calls x. opened done r calls x;
}

pub call_halts : (done : List Argument) (b : ℕ) → is_blank b ≡ false → b ≢ 112 → Halts (RestToken [] next.Call done) b
call_halts done b solid other r calls x =
    other (call_opens x.1.0 done x.0 calls b r x.1.1 x.1.2 x.1.3 (spaced_solid b x.0 r solid x.2)).0
