-- The least of the errors of labels and jumps that stand in what is open.
use Rattle.std.proofs.Common.{◌≡◌, ℕ, ◌+◌, Bool, true, false, ◌&&◌, ◌||◌, cond, List, [], ◌∷◌, ◌++◌, Option, Some}
use Rattle.std.proofs.Common.{None, refl, ap, sym, ◌∙◌, arith, nat_lt}
use Rattle.std.proofs.lemmas.Bool.{lt-ltb}
use Rattle.std.proofs.lemmas.List.{map-append}
use Rattle.hz_tree.specs.declared.early.EarlyKind.{EarlyKind}
use Rattle.hz_tree.specs.declared.early.EarlyKind.TheVariants as early
use Rattle.hz_tree.specs.declared.signal.Jump.{Jump}
use Rattle.hz_tree.specs.declared.signal.Jump.TheVariants as jump
use Rattle.hz_tree.specs.tokens.Text.{Text}
use Rattle.hz_tree.specs.sources.EarlyErrors.{order_of_early}
use Rattle.hz_tree.specs.sources.Least.{lesser, least_of}
use Rattle.hz_tree.specs.errors.Jumps as meant
use Rattle.hz_tree.specs.errors.Jumps.{Leaving, Labelled, Jumping, still, beside, is_break, has_no_label, has_label}
use Rattle.hz_tree.specs.errors.Jumps.{without, duplicates, in_label, leaving_errors, in_whole}
use Rattle.hz_tree.specs.errors.Scopes.{EarlyError}
use Rattle.hz_early.proofs.LeastLemmas.{lesser-none, lesser_assoc, least_of-append}
use Rattle.hz_errors.specs.Labels.{OpenBody, nothing_open, is_open, leads, in_loop, in_switch}
use Rattle.hz_errors.proofs.Orders.{early_is_order, lesser_comm}

abbrev pub Least : Type 0
Least = Option (EarlyKind × ℕ)

abbrev pub both : Least → Least → Least
both = lesser order_of_early

abbrev pub least : List EarlyError → Least
least = least_of order_of_early

-- ---- the lesser of several

pub both_assoc : (a b c : Least) → both (both a b) c ≡ both a (both b c)
both_assoc = lesser_assoc order_of_early

pub both_comm : (a b : Least) → both a b ≡ both b a
both_comm = lesser_comm order_of_early early_is_order

pub both_none : (a : Least) → both a None ≡ a
both_none = lesser-none order_of_early

cond_same : {A : Type 0} (b : Bool) (x : A) → cond b x x ≡ x
cond_same true x = refl
cond_same false x = refl

pub both_same : (a : Least) → both a a ≡ a
both_same None = refl
both_same (Some x) = cond_same _ (Some x)

pub both_swap : (a b c : Least) → both a (both b c) ≡ both b (both a c)
both_swap a b c = sym (both_assoc a b c) ∙ ap (λ x. both x c) (both_comm a b) ∙ both_assoc b a c

both_middle : (a b c d : Least) → both (both a b) (both c d) ≡ both (both a c) (both b d)
both_middle a b c d =
    both_assoc a b (both c d) ∙ ap (both a) (both_swap b c d) ∙ sym (both_assoc a c (both b d))

both_three : (a b c d e f : Least)
    → both (both a d) (both (both b e) (both c f)) ≡ both (both a (both b c)) (both d (both e f))
both_three a b c d e f =
    ap (both (both a d)) (both_middle b e c f) ∙ both_middle a d (both b c) (both e f)

-- ---- what is found in a tree, where this is open

abbrev pub unled : OpenBody → List Leaving → List Leaving
unled body = without (λ l. leads l.jump l.label body)

abbrev pub open_errors : OpenBody → List Labelled → List EarlyError
open_errors body [] = []
open_errors body (l ∷ more) =
    cond (is_open l.name body) ((early.DuplicateLabel, l.at) ∷ open_errors body more) (open_errors body more)

abbrev pub found : OpenBody → Jumping → Least
found body x =
    both (least x.errors)
    (both (least (leaving_errors (unled body x.leaving))) (least (open_errors body x.labels)))

-- ---- parts

cond_append : {A : Type 0} (b : Bool) (x : A) (xs ys : List A)
    → cond b (xs ++ ys) (x ∷ (xs ++ ys)) ≡ cond b xs (x ∷ xs) ++ ys
cond_append true x xs ys = refl
cond_append false x xs ys = refl

cond_append_other : {A : Type 0} (b : Bool) (x : A) (xs ys : List A)
    → cond b (x ∷ (xs ++ ys)) (xs ++ ys) ≡ cond b (x ∷ xs) xs ++ ys
cond_append_other true x xs ys = refl
cond_append_other false x xs ys = refl

without_append : (test : Leaving → Bool) (xs ys : List Leaving)
    → without test (xs ++ ys) ≡ without test xs ++ without test ys
without_append test [] ys = refl
without_append test (x ∷ xs) ys =
    ap (λ zs. cond (test x) zs (x ∷ zs)) (without_append test xs ys)
    ∙ cond_append (test x) x (without test xs) (without test ys)

pub open_append : (body : OpenBody) (xs ys : List Labelled)
    → open_errors body (xs ++ ys) ≡ open_errors body xs ++ open_errors body ys
open_append body [] ys = refl
open_append body (x ∷ xs) ys =
    ap (λ zs. cond (is_open x.name body) ((early.DuplicateLabel, x.at) ∷ zs) zs) (open_append body xs ys)
    ∙ cond_append_other (is_open x.name body) (early.DuplicateLabel, x.at) (open_errors body xs) (open_errors body ys)

pub least_append : (xs ys : List EarlyError) → least (xs ++ ys) ≡ both (least xs) (least ys)
least_append = least_of-append order_of_early

leaving_append : (body : OpenBody) (xs ys : List Leaving)
    → least (leaving_errors (unled body (xs ++ ys)))
    ≡ both (least (leaving_errors (unled body xs))) (least (leaving_errors (unled body ys)))
leaving_append body xs ys =
    ap (λ zs. least (leaving_errors zs)) (without_append _ xs ys)
    ∙ ap least (map-append _ (unled body xs) (unled body ys))
    ∙ least_append (leaving_errors (unled body xs)) (leaving_errors (unled body ys))

pub found_beside : (body : OpenBody) (x y : Jumping) → found body (beside x y) ≡ both (found body x) (found body y)
found_beside body x y =
    ap (λ e. both e (both (least (leaving_errors (unled body (x.leaving ++ y.leaving))))
    (least (open_errors body (x.labels ++ y.labels))))) (least_append x.errors y.errors)
    ∙ ap (λ e. both (both (least x.errors) (least y.errors)) (both e (least (open_errors body (x.labels ++ y.labels)))))
    (leaving_append body x.leaving y.leaving)
    ∙ ap (λ e. both (both (least x.errors) (least y.errors))
    (both (both (least (leaving_errors (unled body x.leaving))) (least (leaving_errors (unled body y.leaving)))) e))
    (ap least (open_append body x.labels y.labels)
    ∙ least_append (open_errors body x.labels) (open_errors body y.labels))
    ∙ both_three (least x.errors) (least (leaving_errors (unled body x.leaving))) (least (open_errors body x.labels))
    (least y.errors) (least (leaving_errors (unled body y.leaving))) (least (open_errors body y.labels))

-- ---- loops and switches

without_one : (p q : Bool) (l : Leaving) (test : Leaving → Bool) (xs : List Leaving) → test l ≡ q
    → cond (p || q) (without test xs) (l ∷ without test xs) ≡ without test (cond p xs (l ∷ xs))
without_one true q l test xs h = refl
without_one false q l test xs h = ap (λ b. cond b (without test xs) (l ∷ without test xs)) (sym h)

pub without_twice : (p q r : Leaving → Bool) → ((l : Leaving) → r l ≡ (p l || q l)) → (ls : List Leaving)
    → without r ls ≡ without q (without p ls)
without_twice p q r h [] = refl
without_twice p q r h (l ∷ more) =
    ap (λ zs. cond (r l) zs (l ∷ zs)) (without_twice p q r h more)
    ∙ ap (λ b. cond b (without q (without p more)) (l ∷ without q (without p more))) (h l)
    ∙ without_one (p l) (q l) l q (without p more) refl

some_open : (n : ℕ) → nat_lt 0 (n + 1) ≡ true
some_open n = lt-ltb 0 (n + 1) (omega arith)

or_true : (b : Bool) → (b || true) ≡ true
or_true true = refl
or_true false = refl

led_in_loop : (body : OpenBody) (jump : Jump) (label : Option Text) (at : ℕ)
    → leads jump label (in_loop body)
    ≡ (has_no_label (record { jump = jump; label = label; at = at }) || leads jump label body)
led_in_loop body jump.Break None at = ap (λ b. b || nat_lt 0 body.switches) (some_open body.loops)
led_in_loop body jump.Break (Some name) at = refl
led_in_loop body jump.Continue None at = some_open body.loops
led_in_loop body jump.Continue (Some name) at = refl

pub found_in_loop : (body : OpenBody) (x : Jumping) → found (in_loop body) x ≡ found body (meant.in_loop x)
found_in_loop body x =
    ap (λ ls. both (least x.errors) (both (least (leaving_errors ls)) (least (open_errors body x.labels))))
    (without_twice has_no_label _ _ (λ l. led_in_loop body l.jump l.label l.at) x.leaving)

led_in_switch : (body : OpenBody) (jump : Jump) (label : Option Text) (at : ℕ)
    → leads jump label (in_switch body)
    ≡ ((is_break jump && has_no_label (record { jump = jump; label = label; at = at })) || leads jump label body)
led_in_switch body jump.Break None at =
    ap (λ b. nat_lt 0 body.loops || b) (some_open body.switches) ∙ or_true (nat_lt 0 body.loops)
led_in_switch body jump.Break (Some name) at = refl
led_in_switch body jump.Continue None at = refl
led_in_switch body jump.Continue (Some name) at = refl

found_clauses : (body : OpenBody) (x : Jumping) → found (in_switch body) x ≡ found body (meant.in_switch x)
found_clauses body x =
    ap (λ ls. both (least x.errors) (both (least (leaving_errors ls)) (least (open_errors body x.labels))))
    (without_twice (λ l. is_break l.jump && has_no_label l) _ _ (λ l. led_in_switch body l.jump l.label l.at) x.leaving)

-- no jump leaves what a switch is on
found_value : (body : OpenBody) (x : Jumping) → x.leaving ≡ [] → found (in_switch body) x ≡ found body x
found_value body x h =
    ap (λ ls. both (least x.errors) (both (least (leaving_errors (unled (in_switch body) ls)))
    (least (open_errors body x.labels)))) h
    ∙ ap (λ ls. both (least x.errors) (both (least (leaving_errors (unled body ls)))
    (least (open_errors body x.labels)))) (sym h)

pub found_in_switch : (body : OpenBody) (x y : Jumping) → x.leaving ≡ []
    → found (in_switch body) (beside x y) ≡ found body (beside x (meant.in_switch y))
found_in_switch body x y h =
    found_beside (in_switch body) x y
    ∙ ap (λ e. both e (found (in_switch body) y)) (found_value body x h)
    ∙ ap (both (found body x)) (found_clauses body y)
    ∙ sym (found_beside body x (meant.in_switch y))

-- ---- whole functions

without_none : (test : Leaving → Bool) → ((l : Leaving) → test l ≡ false) → (ls : List Leaving)
    → without test ls ≡ ls
without_none test h [] = refl
without_none test h (l ∷ more) =
    ap (λ b. cond b (without test more) (l ∷ without test more)) (h l) ∙ ap (λ zs. l ∷ zs) (without_none test h more)

led_nowhere : (jump : Jump) (label : Option Text) → leads jump label nothing_open ≡ false
led_nowhere jump.Break None = refl
led_nowhere jump.Break (Some name) = refl
led_nowhere jump.Continue None = refl
led_nowhere jump.Continue (Some name) = refl

open_nothing : (ls : List Labelled) → open_errors nothing_open ls ≡ []
open_nothing [] = refl
open_nothing (l ∷ more) = open_nothing more

pub found_whole : (body : OpenBody) (x : Jumping) → found nothing_open x ≡ found body (in_whole x)
found_whole body x =
    ap (λ ls. both (least x.errors) (both (least (leaving_errors ls)) (least (open_errors nothing_open x.labels))))
    (without_none _ (λ l. led_nowhere l.jump l.label) x.leaving)
    ∙ ap (λ es. both (least x.errors) (both (least (leaving_errors x.leaving)) (least es))) (open_nothing x.labels)
    ∙ ap (both (least x.errors)) (both_none (least (leaving_errors x.leaving)))
    ∙ sym (least_append x.errors (leaving_errors x.leaving))
    ∙ sym (both_none (least (x.errors ++ leaving_errors x.leaving)))
