-- A sum and the list of its steps determine each other.
use Rattle.std.proofs.Common.{◌≡◌, ℕ, Bool, true, false, ◌&&◌, List, [], ◌∷◌, ◌++◌, map, flat_map, refl, ap, sym, ◌∙◌}
use Rattle.std.proofs.Common.{append_assoc, decimal}
use Rattle.std.specs.List.{list_all}
use Rattle.std.proofs.lemmas.List.{append-nil}
use Rattle.hermes.specs.first.Texts.{is_number, is_addend, is_sum, factor_tokens, addend_tokens, sum_tokens}
use Rattle.hermes.specs.first.Reading.{Step, times, addend_steps, later_steps, steps_of, step_tokens, is_step}
use Rattle.hermes.specs.declared.first.language.Sign.{Sign}
use Rattle.hermes.specs.declared.first.language.Sign.TheVariants.{Plus}
use Rattle.hermes.specs.declared.first.language.Addend.{Addend}
use Rattle.hermes.specs.declared.first.language.Sum.{Sum}
use Rattle.hermes.specs.declared.first.state.Operator.{Operator}
use Rattle.hermes.specs.declared.first.state.Operator.TheVariants as operator

-- The other factors of the term that the steps go on with, and the addends behind it.
abbrev Parts : Type 0
Parts = List ℕ × List Addend

abbrev placed : Operator → ℕ → Parts → Parts
placed operator.Times n p = (n ∷ p.0, p.1)
placed (operator.Sign sign) n p = ([], record { sign = sign; term = record { first = n; others = p.0 } } ∷ p.1)

abbrev parted : List Step → Parts
parted [] = ([], [])
parted (u ∷ us) = placed u.0 u.1 (parted us)

abbrev sum_with : ℕ → Parts → Sum
sum_with n p = record { first = record { first = n; others = p.0 }; others = p.1 }

abbrev steps_in : Parts → List Step
steps_in p = map times p.0 ++ flat_map addend_steps p.1

placed_steps : (op : Operator) (n : ℕ) (p : Parts) (us : List Step) → steps_in p ≡ us
    → steps_in (placed op n p) ≡ (op, n) ∷ us
placed_steps operator.Times n p us e = ap (λ (y : List Step). (operator.Times, n) ∷ y) e
placed_steps (operator.Sign sign) n p us e = ap (λ (y : List Step). (operator.Sign sign, n) ∷ y) e

parted_steps : (us : List Step) → steps_in (parted us) ≡ us
parted_steps [] = refl
parted_steps (u ∷ us) = placed_steps u.0 u.1 (parted us) us (parted_steps us)

-- Each list of steps behind a first number is that of a sum.
pub some_sum : (n : ℕ) (us : List Step) → (s : Sum) × (steps_of s ≡ (operator.Sign Plus, n) ∷ us)
some_sum n us = (sum_with n (parted us), ap (λ (y : List Step). (operator.Sign Plus, n) ∷ y) (parted_steps us))

factors_parted : (fs : List ℕ) (us : List Step) (p : Parts) → parted us ≡ p
    → parted (map times fs ++ us) ≡ (fs ++ p.0, p.1)
factors_parted [] us p e = e
factors_parted (f ∷ fs) us p e = ap (λ (q : Parts). placed operator.Times f q) (factors_parted fs us p e)

addends_parted : (rs : List Addend) → parted (flat_map addend_steps rs) ≡ ([], rs)
addends_parted [] = refl
addends_parted (a ∷ rs) =
    ap (λ (q : Parts). placed (operator.Sign a.sign) a.term.first q)
    (factors_parted a.term.others (flat_map addend_steps rs) ([], rs) (addends_parted rs))
    ∙ ap (λ (fs : List ℕ). placed (operator.Sign a.sign) a.term.first (fs, rs)) (append-nil a.term.others)

sum_again : (s : Sum) → sum_with s.first.first (parted (later_steps s)) ≡ s
sum_again s =
    ap (λ (q : Parts). sum_with s.first.first q)
    (factors_parted s.first.others (flat_map addend_steps s.others) ([], s.others) (addends_parted s.others))
    ∙ ap (λ (fs : List ℕ). sum_with s.first.first (fs, s.others)) (append-nil s.first.others)

heads : (u v : Step) (us vs : List Step) → u ∷ us ≡ v ∷ vs → u ≡ v
heads u v us vs e = cc

pub same_sum : (s t : Sum) → steps_of s ≡ steps_of t → s ≡ t
same_sum s t e =
    let first : s.first.first ≡ t.first.first = ap (λ (u : Step). u.1) (heads _ _ _ _ e) in
    let later : later_steps s ≡ later_steps t = cc in
    sym (sum_again s)
    ∙ ap (λ (us : List Step). sum_with s.first.first (parted us)) later
    ∙ ap (λ (n : ℕ). sum_with n (parted (later_steps t))) first
    ∙ sum_again t

-- the numbers
and_assoc : (a b c : Bool) → ((a && b) && c) ≡ (a && (b && c))
and_assoc true b c = refl
and_assoc false b c = refl

factors_numbers : (fs : List ℕ) (us : List Step)
    → list_all is_step (map times fs ++ us) ≡ (list_all is_number fs && list_all is_step us)
factors_numbers [] us = refl
factors_numbers (f ∷ fs) us = ap (λ (b : Bool). is_number f && b) (factors_numbers fs us)
    ∙ sym (and_assoc (is_number f) (list_all is_number fs) (list_all is_step us))

addends_numbers : (rs : List Addend) → list_all is_step (flat_map addend_steps rs) ≡ list_all is_addend rs
addends_numbers [] = refl
addends_numbers (a ∷ rs) =
    ap (λ (b : Bool). is_number a.term.first && b) (factors_numbers a.term.others (flat_map addend_steps rs))
    ∙ ap (λ (b : Bool). is_number a.term.first && (list_all is_number a.term.others && b)) (addends_numbers rs)
    ∙ sym (and_assoc (is_number a.term.first) (list_all is_number a.term.others) (list_all is_addend rs))

pub sum_numbers : (s : Sum) → is_sum s ≡ list_all is_step (steps_of s)
sum_numbers s =
    and_assoc (is_number s.first.first) (list_all is_number s.first.others) (list_all is_addend s.others)
    ∙ ap (λ (b : Bool). is_number s.first.first && (list_all is_number s.first.others && b))
    (sym (addends_numbers s.others))
    ∙ ap (λ (b : Bool). is_number s.first.first && b)
    (sym (factors_numbers s.first.others (flat_map addend_steps s.others)))

-- the tokens
factors_tokens : (fs : List ℕ) (us : List Step) (ys : List (List ℕ)) → ys ≡ flat_map step_tokens us
    → flat_map factor_tokens fs ++ ys ≡ flat_map step_tokens (map times fs ++ us)
factors_tokens [] us ys e = e
factors_tokens (f ∷ fs) us ys e = ap (λ (y : List (List ℕ)). (42 ∷ []) ∷ decimal f ∷ y) (factors_tokens fs us ys e)

addends_tokens : (rs : List Addend) → flat_map addend_tokens rs ≡ flat_map step_tokens (flat_map addend_steps rs)
addends_tokens [] = refl
addends_tokens (a ∷ rs) =
    ap (λ (y : List (List ℕ)). addend_tokens (record a { term = record a.term { others = [] } }) ++ y)
    (factors_tokens a.term.others (flat_map addend_steps rs) (flat_map addend_tokens rs) (addends_tokens rs))

pub sum_tokens_are : (s : Sum) → sum_tokens s ≡ decimal s.first.first ∷ flat_map step_tokens (later_steps s)
sum_tokens_are s =
    ap (λ (y : List (List ℕ)). decimal s.first.first ∷ y)
    (factors_tokens s.first.others (flat_map addend_steps s.others) (flat_map addend_tokens s.others)
    (addends_tokens s.others))

-- one step more
flat_more : (rs : List Addend) (a : Addend)
    → flat_map addend_steps (rs ++ a ∷ []) ≡ flat_map addend_steps rs ++ addend_steps a
flat_more [] a = append-nil (addend_steps a)
flat_more (x ∷ rs) a = ap (λ (y : List Step). addend_steps x ++ y) (flat_more rs a)
    ∙ sym (append_assoc (addend_steps x) (flat_map addend_steps rs) (addend_steps a))

times_more : (fs : List ℕ) (n : ℕ) → map times (fs ++ n ∷ []) ≡ map times fs ++ times n ∷ []
times_more [] n = refl
times_more (f ∷ fs) n = ap (λ (y : List Step). times f ∷ y) (times_more fs n)

pub signed_more : (s : Sum) (sign : Sign) (n : ℕ) →
    steps_of (record s { others = s.others ++ record { sign = sign; term = record { first = n; others = [] } } ∷ [] })
    ≡ steps_of s ++ (operator.Sign sign, n) ∷ []
signed_more s sign n =
    let a : Addend = record { sign = sign; term = record { first = n; others = [] } } in
    ap (λ (y : List Step). (operator.Sign Plus, s.first.first) ∷ (map times s.first.others ++ y)) (flat_more s.others a)
    ∙ ap (λ (y : List Step). (operator.Sign Plus, s.first.first) ∷ y)
    (sym (append_assoc (map times s.first.others) (flat_map addend_steps s.others) (addend_steps a)))

pub first_more : (s : Sum) (n : ℕ) → s.others ≡ []
    → steps_of (record s { first = record s.first { others = s.first.others ++ n ∷ [] } })
    ≡ steps_of s ++ (operator.Times, n) ∷ []
first_more s n e =
    let front : List Step = map times s.first.others in
    let none : flat_map addend_steps s.others ≡ [] = ap (λ (y : List Addend). flat_map addend_steps y) e in
    let before : map times (s.first.others ++ n ∷ []) ++ flat_map addend_steps s.others
    ≡ (front ++ flat_map addend_steps s.others) ++ times n ∷ [] =
    ap (λ (y : List Step). map times (s.first.others ++ n ∷ []) ++ y) none
    ∙ append-nil (map times (s.first.others ++ n ∷ []))
    ∙ times_more s.first.others n
    ∙ ap (λ (y : List Step). y ++ times n ∷ []) (sym (append-nil front))
    ∙ ap (λ (y : List Step). (front ++ y) ++ times n ∷ []) (sym none) in
    ap (λ (y : List Step). (operator.Sign Plus, s.first.first) ∷ y) before

pub last_more : (s : Sum) (rs : List Addend) (a : Addend) (n : ℕ) → s.others ≡ rs ++ a ∷ [] →
    steps_of (record s { others = rs ++ record a { term = record a.term { others = a.term.others ++ n ∷ [] } } ∷ [] })
    ≡ steps_of s ++ (operator.Times, n) ∷ []
last_more s rs a n e =
    let front : List Step = map times s.first.others in
    let longer : Addend = record a { term = record a.term { others = a.term.others ++ n ∷ [] } } in
    let last : addend_steps longer ≡ addend_steps a ++ times n ∷ [] =
    ap (λ (y : List Step). (operator.Sign a.sign, a.term.first) ∷ y) (times_more a.term.others n) in
    let new : flat_map addend_steps (rs ++ longer ∷ []) ≡ (flat_map addend_steps rs ++ addend_steps a) ++ times n ∷ [] =
    flat_more rs longer
    ∙ ap (λ (y : List Step). flat_map addend_steps rs ++ y) last
    ∙ sym (append_assoc (flat_map addend_steps rs) (addend_steps a) (times n ∷ [])) in
    let old : flat_map addend_steps s.others ≡ flat_map addend_steps rs ++ addend_steps a =
    ap (λ (y : List Addend). flat_map addend_steps y) e ∙ flat_more rs a in
    ap (λ (y : List Step). (operator.Sign Plus, s.first.first) ∷ (front ++ y))
    (new ∙ ap (λ (y : List Step). y ++ times n ∷ []) (sym old))
    ∙ ap (λ (y : List Step). (operator.Sign Plus, s.first.first) ∷ y)
    (sym (append_assoc front (flat_map addend_steps s.others) (times n ∷ [])))

-- the same, at what the code makes
pub first_grown : (s : Sum) (fs : List ℕ) (others : List Addend) (n : ℕ) → fs ≡ s.first.others ++ n ∷ []
    → s.others ≡ others ++ [] → s.others ≡ [] →
    steps_of (record { first = record { first = s.first.first; others = fs }; others = others })
    ≡ steps_of s ++ (operator.Times, n) ∷ []
first_grown s fs [] n grown same none =
    ap (λ (y : List ℕ). steps_of (record { first = record { first = s.first.first; others = y }; others = [] })) grown
    ∙ ap (λ (y : List Addend). steps_of
    (record { first = record { first = s.first.first; others = s.first.others ++ n ∷ [] }; others = y })) (sym none)
    ∙ first_more s n none
first_grown s fs (r ∷ rs) n grown same none = let bad : [] ≡ r ∷ (rs ++ []) = sym none ∙ same in cc
