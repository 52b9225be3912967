-- A first text is at least as long as its calls weigh.
use Rattle.std.proofs.Common.{◌≡◌, ℕ, suc, ◌+◌, ◌*◌, ◌<◌, ◌≤◌, Bool, true, inl, inr, List, [], ◌∷◌, ◌++◌, length, map}
use Rattle.std.proofs.Common.{flat_map, refl, ap, sym, ◌∙◌, subst, length-append, decimal, arith}
use Rattle.std.specs.List.{list_all}
use Rattle.std.proofs.lemmas.Fmt.{decimal_nonempty}
use Rattle.hermes.proofs.first_texts.reading.Bools.{first_of_both, second_of_both}
use Rattle.hermes.specs.first.Texts.{first_tokens, call_tokens, argument_tokens, sum_tokens, Spaced, is_number}
use Rattle.hermes.specs.first.Texts.{is_argument, is_sum, Spells, IsFirst, addend_numbers, further_numbers, weight_of}
use Rattle.hermes.specs.first.Texts.{weight}
use Rattle.hermes.specs.first.Reading.{Step, times, addend_steps, later_steps, steps_of, step_tokens, is_step}
use Rattle.hermes.proofs.first_texts.reading.Numerals.{number_small}
use Rattle.hermes.proofs.first_texts.reading.SumSteps.{sum_tokens_are, sum_numbers}
use Rattle.hermes.specs.declared.first.language.Addend.{Addend}
use Rattle.hermes.specs.declared.first.language.Sum.{Sum}
use Rattle.hermes.specs.declared.first.language.Argument.{Argument}
use Rattle.hermes.specs.declared.first.language.Argument.TheVariants as argument

-- the bytes of all tokens
abbrev size : List (List ℕ) → ℕ
size [] = 0
size (t ∷ ts) = length t + size ts

size_append : (xs ys : List (List ℕ)) → size (xs ++ ys) ≡ size xs + size ys
size_append [] ys = omega arith
size_append (x ∷ xs) ys = let e = size_append xs ys in omega arith

spaced_size : (tokens : List (List ℕ)) (bytes : List ℕ) → Spaced tokens bytes → size tokens ≤ length bytes
spaced_size [] bytes s = omega arith
spaced_size (t ∷ tokens) bytes s =
    let rest : size tokens ≤ length s.1 = spaced_size tokens s.1 s.4 in
    let whole : length bytes ≡ length (t ++ (s.0 ++ s.1)) = ap (λ (y : List ℕ). length y) s.2 in
    let first : length (t ++ (s.0 ++ s.1)) ≡ length t + length (s.0 ++ s.1) = length-append t (s.0 ++ s.1) in
    let second : length (s.0 ++ s.1) ≡ length s.0 + length s.1 = length-append s.0 s.1 in
    omega arith

number_size : (n : ℕ) → is_number n ≡ true → 1 ≤ length (decimal n)
number_size n h = let some : 0 < length (decimal n) = decimal_nonempty n (number_small n h) in omega arith

steps_size : (us : List Step) → list_all is_step us ≡ true → 2 * length us ≤ size (flat_map step_tokens us)
steps_size [] h = omega arith
steps_size (u ∷ us) h =
    let here : 1 ≤ length (decimal u.1) = number_size u.1 (first_of_both (is_number u.1) (list_all is_step us) h) in
    let rest : 2 * length us ≤ size (flat_map step_tokens us) =
    steps_size us (second_of_both (is_number u.1) (list_all is_step us) h) in
    omega arith

map_length : (fs : List ℕ) → length (map times fs) ≡ length fs
map_length [] = refl
map_length (f ∷ fs) = ap (λ (n : ℕ). suc n) (map_length fs)

addends_length : (rs : List Addend) → length (flat_map addend_steps rs) ≡ addend_numbers rs
addends_length [] = refl
addends_length (a ∷ rs) =
    let rest = addends_length rs in
    let here : length (addend_steps a ++ flat_map addend_steps rs)
    ≡ length (addend_steps a) + length (flat_map addend_steps rs) =
    length-append (addend_steps a) (flat_map addend_steps rs) in
    let terms : length (map times a.term.others) ≡ length a.term.others = map_length a.term.others in
    omega arith

later_length : (s : Sum) → length (later_steps s) ≡ further_numbers s
later_length s =
    let both : length (map times s.first.others ++ flat_map addend_steps s.others)
    ≡ length (map times s.first.others) + length (flat_map addend_steps s.others) =
    length-append (map times s.first.others) (flat_map addend_steps s.others) in
    let terms = map_length s.first.others in
    let addends = addends_length s.others in
    both ∙ ap (λ (n : ℕ). n + length (flat_map addend_steps s.others)) terms
    ∙ ap (λ (n : ℕ). length s.first.others + n) addends

sum_size : (s : Sum) → is_sum s ≡ true → 1 + 2 * further_numbers s ≤ size (sum_tokens s)
sum_size s h =
    let steps : list_all is_step (steps_of s) ≡ true = sym (sum_numbers s) ∙ h in
    let first : 1 ≤ length (decimal s.first.first) =
    number_size s.first.first (first_of_both (is_number s.first.first) (list_all is_step (later_steps s)) steps) in
    let others : 2 * length (later_steps s) ≤ size (flat_map step_tokens (later_steps s)) =
    steps_size (later_steps s)
    (second_of_both (is_number s.first.first) (list_all is_step (later_steps s)) steps) in
    let count : length (later_steps s) ≡ further_numbers s = later_length s in
    let tokens : size (sum_tokens s) ≡ length (decimal s.first.first) + size (flat_map step_tokens (later_steps s)) =
    ap size (sum_tokens_are s) in
    let twice : 2 * further_numbers s ≤ size (flat_map step_tokens (later_steps s)) =
    subst (λ (n : ℕ). 2 * n ≤ size (flat_map step_tokens (later_steps s))) count others in
    omega (arith, first, twice, tokens)

argument_size : (a : Argument) → is_argument a ≡ true → weight_of a ≤ 8 + size (argument_tokens a)
argument_size (argument.Text t) h = let e : length (t ++ 34 ∷ []) ≡ length t + 1 = length-append t (34 ∷ []) in
    omega arith
argument_size (argument.Sum s) h = let e : 1 + 2 * further_numbers s ≤ size (sum_tokens s) = sum_size s h in
    omega (arith, e)

call_size : (a : Argument) → is_argument a ≡ true → weight_of a ≤ size (call_tokens a)
call_size a h =
    let e : weight_of a ≤ 8 + size (argument_tokens a) = argument_size a h in
    let f : size (argument_tokens a ++ (41 ∷ []) ∷ (59 ∷ []) ∷ []) ≡ size (argument_tokens a) + 2 =
    size_append (argument_tokens a) ((41 ∷ []) ∷ (59 ∷ []) ∷ []) in
    omega (arith, e, f)

calls_size : (calls : List Argument) → list_all is_argument calls ≡ true
    → weight calls ≤ size (flat_map call_tokens calls)
calls_size [] h = omega arith
calls_size (a ∷ calls) h =
    let here : weight_of a ≤ size (call_tokens a) =
    call_size a (first_of_both (is_argument a) (list_all is_argument calls) h) in
    let rest : weight calls ≤ size (flat_map call_tokens calls) =
    calls_size calls (second_of_both (is_argument a) (list_all is_argument calls) h) in
    let split : size (call_tokens a ++ flat_map call_tokens calls)
    ≡ size (call_tokens a) + size (flat_map call_tokens calls) =
    size_append (call_tokens a) (flat_map call_tokens calls) in
    omega (arith, here, rest, split)

spelled_weighs : (strict : Bool) (calls : List Argument) (bytes : List ℕ) → Spells strict calls bytes
    → size (flat_map call_tokens calls) ≤ length bytes
spelled_weighs strict calls bytes (inl s) =
    let all : size (first_tokens calls) ≤ length bytes = spaced_size (first_tokens calls) bytes s in
    let front : size (first_tokens calls) ≡ 13 + size (flat_map call_tokens calls) = refl in
    omega (arith, all, front)
spelled_weighs strict calls bytes (inr s) = spaced_size (flat_map call_tokens calls) bytes s.1

pub weighs : (strict : Bool) (calls : List Argument) (bytes : List ℕ) → IsFirst strict calls bytes
    → weight calls ≤ length bytes
weighs strict calls bytes f =
    let all : size (flat_map call_tokens calls) ≤ length bytes = spelled_weighs strict calls bytes f.spelled in
    let calls_weigh : weight calls ≤ size (flat_map call_tokens calls) = calls_size calls f.parts in
    omega (arith, all, calls_weigh)
