-- The tokens of a source from the start of one terminal to the end before another are those between the two.
use Rattle.std.proofs.Common.{◌≡◌, ℕ, ◌+◌, ◌<◌, ◌≤◌, Bool, true, false, ◌&&◌, cond, nat_lt, nat_le, List, [], ◌∷◌, ◌++◌}
use Rattle.std.proofs.Common.{length, refl, ap, sym, ◌∙◌, subst, arith}
use Rattle.std.specs.List.{count_by}
use Rattle.std.proofs.lemmas.Bool.Decides.{nat_tests}
use Rattle.std.proofs.lemmas.List.Sums.{sum_by-cons, sum_by-append}
use Rattle.hz_tree.specs.grammar.Classes.{class_of}
use Rattle.hz_tree.specs.grammar.Look.{Terminal, begins_parameters, terminals_from, terminals}
use Rattle.hz_tree.specs.tokens.Text.{Text}
use Rattle.hz_tree.specs.tokens.Tokens.{Lexeme, is_last, tokens}
use Rattle.hz_tree.specs.trees.FunctionTrees.{tokens_within}
use Rattle.hz_scan.specs.Order.{end_of}
use Rattle.hz_own.specs.Lined.{GoesOn, Lined}
use Rattle.hz_own.proofs.Lines.{terminals_lined}

-- ---- terminals in line

-- what is left of terminals in line stands in line
pub lined_behind : (source : Text) (place : ℕ) (xs : List Terminal) (y : Terminal) (ys : List Terminal)
    → Lined source place (xs ++ y ∷ ys) → Lined source y.behind (y ∷ ys)
lined_behind source place [] y ys h = subst (λ p. Lined source p (y ∷ ys)) (sym h.0.behind) h
lined_behind source place (x ∷ xs) y ys h = lined_behind source (end_of x.token) xs y ys h.1

goes_on : (t : Lexeme) (xs : List Terminal) (y : Terminal) (ys : List Terminal) → GoesOn t (xs ++ y ∷ ys)
    → (is_last t.kind ≡ false) × (1 ≤ length t.text)
goes_on t [] y ys h = h
goes_on t (x ∷ xs) y ys h = h

pub later : (source : Text) (place : ℕ) (xs : List Terminal) (y : Terminal) (ys : List Terminal)
    → Lined source place (xs ++ y ∷ ys) → place ≤ y.behind
later source place [] y ys h = let same : y.behind ≡ place = h.0.behind in omega (arith, same)
later source place (x ∷ xs) y ys h =
    let first : place ≤ x.token.at = h.0.lies.after in
    let more : end_of x.token ≤ y.behind = later source (end_of x.token) xs y ys h.1 in
    omega (arith, first, more)

-- by recursion on the terminals, which suits counts
abbrev pub Each : (Terminal → Type 0) → List Terminal → Type 0
Each P [] = Unit {0}
Each P (x ∷ xs) = P x × Each P xs

pub each_before : (source : Text) (place : ℕ) (xs : List Terminal) (y : Terminal) (ys : List Terminal)
    → Lined source place (xs ++ y ∷ ys)
    → Each (λ x. (x.token.at < y.behind) × (is_last x.token.kind ≡ false)) xs
each_before source place [] y ys h = tt
each_before source place (x ∷ xs) y ys h =
    let some = goes_on x.token xs y ys h.0.goes_on in
    let text : 1 ≤ length x.token.text = some.1 in
    let more : end_of x.token ≤ y.behind = later source (end_of x.token) xs y ys h.1 in
    ((omega (arith, text, more), some.0), each_before source (end_of x.token) xs y ys h.1)

each_first : (xs ys : List Terminal) (P : Terminal → Type 0) → Each P (xs ++ ys) → Each P xs
each_first [] ys P h = tt
each_first (x ∷ xs) ys P h = (h.0, each_first xs ys P h.1)

pub each_map : (P Q : Terminal → Type 0) → ((x : Terminal) → P x → Q x) → (xs : List Terminal) → Each P xs → Each Q xs
each_map P Q f [] h = tt
each_map P Q f (x ∷ xs) h = (f x h.0, each_map P Q f xs h.1)

each_pair : (P Q : Terminal → Type 0) (xs : List Terminal) → Each P xs → Each Q xs → Each (λ x. P x × Q x) xs
each_pair P Q [] h i = tt
each_pair P Q (x ∷ xs) h i = ((h.0, i.0), each_pair P Q xs h.1 i.1)

pub each_behind : (source : Text) (place : ℕ) (xs : List Terminal) → Lined source place xs
    → Each (λ x. place ≤ x.token.at) xs
each_behind source place [] h = tt
each_behind source place (x ∷ xs) h =
    let first : place ≤ x.token.at = h.0.lies.after in (
      first,
      each_map (λ u. end_of x.token ≤ u.token.at) (λ u. place ≤ u.token.at) (λ u i. omega (arith, first, i)) xs
          (each_behind source (end_of x.token) xs h.1),
    )

-- ---- counts

abbrev pub at_place : (start end : ℕ) → Terminal → Bool
at_place start end x = nat_le start x.token.at && nat_lt x.token.at end

abbrev pub here : (start end : ℕ) → List Terminal → ℕ
here start end xs = count_by (at_place start end) xs

count_cons : (p : Terminal → Bool) (x : Terminal) (xs : List Terminal)
    → count_by p (x ∷ xs) ≡ cond (p x) 1 0 + count_by p xs
count_cons p x xs = sum_by-cons (λ y. cond (p y) 1 0) x xs

pub here_append : (start end : ℕ) (xs ys : List Terminal)
    → here start end (xs ++ ys) ≡ here start end xs + here start end ys
here_append start end xs ys = sum_by-append (λ x. cond (at_place start end x) 1 0) xs ys

pub none_before : (start end : ℕ) (xs : List Terminal) → Each (λ x. x.token.at < start) xs → here start end xs ≡ 0
none_before start end [] h = refl
none_before start end (x ∷ xs) h =
    let below : x.token.at < start = h.0 in
    let no : at_place start end x ≡ false = grind (arith, nat_tests) in
    let more : here start end xs ≡ 0 = none_before start end xs h.1 in
    count_cons (at_place start end) x xs ∙ ap (λ b. cond b 1 0 + here start end xs) no ∙ omega (arith, more)

pub none_behind : (start end : ℕ) (xs : List Terminal) → Each (λ x. end ≤ x.token.at) xs → here start end xs ≡ 0
none_behind start end [] h = refl
none_behind start end (x ∷ xs) h =
    let above : end ≤ x.token.at = h.0 in
    let no : at_place start end x ≡ false = grind (arith, nat_tests) in
    let more : here start end xs ≡ 0 = none_behind start end xs h.1 in
    count_cons (at_place start end) x xs ∙ ap (λ b. cond b 1 0 + here start end xs) no ∙ omega (arith, more)

pub all_within : (start end : ℕ) (xs : List Terminal) → Each (λ x. (start ≤ x.token.at) × (x.token.at < end)) xs
    → here start end xs ≡ length xs
all_within start end [] h = refl
all_within start end (x ∷ xs) h =
    let above : start ≤ x.token.at = h.0.0 in
    let below : x.token.at < end = h.0.1 in
    let yes : at_place start end x ≡ true = grind (arith, nat_tests) in
    let more : here start end xs ≡ length xs = all_within start end xs h.1 in
    count_cons (at_place start end) x xs ∙ ap (λ b. cond b 1 0 + here start end xs) yes ∙ omega (arith, more)

-- ---- the tokens of a source

abbrev as_terminal : (behind : ℕ) → Lexeme → List Lexeme → Terminal
as_terminal behind t ts =
    record { token = t; class = class_of t; behind = behind; arrow = begins_parameters (class_of t) ts }

tokens_here : (start end behind : ℕ) (ts : List Lexeme)
    → count_by (λ t. nat_le start t.at && nat_lt t.at end) ts ≡ here start end (terminals_from behind ts)
tokens_here start end behind [] = refl
tokens_here start end behind (t ∷ ts) =
    sum_by-cons (λ u. cond (nat_le start u.at && nat_lt u.at end) 1 0) t ts
    ∙ ap (λ k. cond (nat_le start t.at && nat_lt t.at end) 1 0 + k) (tokens_here start end (end_of t) ts)
    ∙ sym (count_cons (at_place start end) (as_terminal behind t ts) (terminals_from (end_of t) ts))

pub within_here : (source : Text) (start end : ℕ) → tokens_within source start end ≡ here start end (terminals source)
unfolding tokens_within terminals
within_here source start end = tokens_here start end 0 (tokens source)

-- Between the start of a terminal and the end before a later one stand those between the two.
pub window : (source : Text) (before : List Terminal) (t : Terminal) (own : List Terminal) (r : Terminal)
    (more : List Terminal) → terminals source ≡ before ++ (t ∷ (own ++ r ∷ more))
    → tokens_within source t.token.at r.behind ≡ length (t ∷ own)
window source before t own r more same =
    let start = t.token.at in
    let end = r.behind in
    let all : Lined source 0 (before ++ (t ∷ (own ++ r ∷ more))) =
    subst (Lined source 0) same (terminals_lined source) in
    let from : Lined source t.behind (t ∷ (own ++ r ∷ more)) =
    lined_behind source 0 before t (own ++ r ∷ more) all in
    let left : Lined source r.behind (r ∷ more) = lined_behind source t.behind (t ∷ own) r more from in
    let first : t.behind ≤ start = from.0.lies.after in
    let sooner : here start end before ≡ 0 =
    none_before start end before
    (each_map (λ x. (x.token.at < t.behind) × (is_last x.token.kind ≡ false)) (λ x. x.token.at < start)
    (λ x h. let i : x.token.at < t.behind = h.0 in omega (arith, first, i)) before
    (each_before source 0 before t (own ++ r ∷ more) all)) in
    let above : Each (λ x. start ≤ x.token.at) (t ∷ own) = (
      omega arith,
      each_map (λ x. end_of t.token ≤ x.token.at) (λ x. start ≤ x.token.at) (λ x i. omega (arith, i)) own
          (each_first own (r ∷ more) (λ x. end_of t.token ≤ x.token.at)
          (each_behind source (end_of t.token) (own ++ r ∷ more) from.1)),
    ) in
    let below : Each (λ x. x.token.at < end) (t ∷ own) =
    each_map (λ x. (x.token.at < end) × (is_last x.token.kind ≡ false)) (λ x. x.token.at < end) (λ x h. h.0) (t ∷ own)
    (each_before source t.behind (t ∷ own) r more from) in
    let inside : here start end (t ∷ own) ≡ length (t ∷ own) =
    all_within start end (t ∷ own)
    (each_pair (λ x. start ≤ x.token.at) (λ x. x.token.at < end) (t ∷ own) above below) in
    let behind : here start end (r ∷ more) ≡ 0 =
    none_behind start end (r ∷ more) (each_behind source r.behind (r ∷ more) left) in
    let parts : here start end (before ++ (t ∷ (own ++ r ∷ more)))
    ≡ here start end before + here start end (t ∷ (own ++ r ∷ more)) =
    here_append start end before (t ∷ (own ++ r ∷ more)) in
    let others : here start end (t ∷ (own ++ r ∷ more)) ≡ here start end (t ∷ own) + here start end (r ∷ more) =
    here_append start end (t ∷ own) (r ∷ more) in
    within_here source start end ∙ ap (here start end) same ∙ omega (arith, parts, others, sooner, inside, behind)
