-- What is found in a statement behind a label.
use Rattle.std.proofs.Common.{◌≡◌, ℕ, Bool, true, false, ◌&&◌, ◌||◌, cond, List, [], ◌∷◌, ◌++◌, Option, Some, None}
use Rattle.std.proofs.Common.{refl, ap, sym, ◌∙◌}
use Rattle.std.specs.Str.{bytes_eq}
use Rattle.std.proofs.lemmas.Slice.Eq.{bytes_eq-Decides}
use Rattle.hz_tree.specs.declared.early.EarlyKind.TheVariants as early
use Rattle.hz_tree.specs.declared.signal.Jump.{Jump}
use Rattle.hz_tree.specs.declared.signal.Jump.TheVariants as jump
use Rattle.hz_tree.specs.tokens.Text.{Text}
use Rattle.hz_tree.specs.errors.Jumps as meant
use Rattle.hz_tree.specs.errors.Jumps.{Leaving, Labelled, Jumping, without, duplicates, in_label, leaving_errors}
use Rattle.hz_tree.specs.errors.Scopes.{EarlyError, occurs}
use Rattle.hz_errors.specs.Labels.{OpenLabel, OpenBody, names, loop_names, is_open, leads, labelled, settled}
use Rattle.hz_errors.proofs.LabelsFound.{Least, both, least, both_assoc, both_swap, both_same, unled, open_errors}
use Rattle.hz_errors.proofs.LabelsFound.{found, without_twice, open_append, least_append}

same_true : (b c : Bool) → (b ≡ true → c ≡ true) → (c ≡ true → b ≡ true) → b ≡ c
same_true true c h i = sym (h refl)
same_true false true h i = i refl
same_true false false h i = refl

bytes_eq_comm : (a b : Text) → bytes_eq a b ≡ bytes_eq b a
bytes_eq_comm a b =
    let one = bytes_eq-Decides a b in
    let other = bytes_eq-Decides b a in
    same_true (bytes_eq a b) (bytes_eq b a) (λ h. other.1 (sym (one.0 h))) (λ h. one.1 (sym (other.0 h)))

-- ---- the body of a statement, with one more label

abbrev pub within : Text → (loops : Bool) → OpenBody → OpenBody
within name loops body = record {
  fresh = [];
  labels = record { name = name; on_loop = loops } ∷ (labelled loops body.fresh ++ body.labels);
  loops = body.loops;
  switches = body.switches;
}

and_true : (b : Bool) → (b && true) ≡ b
and_true true = refl
and_true false = refl

and_false : (b : Bool) → (b && false) ≡ false
and_false true = refl
and_false false = refl

led_continue : (name other : Text) (loops : Bool) (outer : List OpenLabel)
    → occurs other (cond loops (name ∷ loop_names outer) (loop_names outer))
    ≡ ((bytes_eq other name && (false || loops)) || occurs other (loop_names outer))
led_continue name other true outer =
    ap (λ b. b || occurs other (loop_names outer)) (bytes_eq_comm name other ∙ sym (and_true (bytes_eq other name)))
led_continue name other false outer =
    ap (λ b. b || occurs other (loop_names outer)) (sym (and_false (bytes_eq other name)))

led_within : (name : Text) (loops : Bool) (body : OpenBody) (jump : Jump) (label : Option Text) (at : ℕ)
    → leads jump label (within name loops body)
    ≡ (meant.leads name loops (record { jump = jump; label = label; at = at }) || leads jump label (settled loops body))
led_within name loops body jump.Break None at = refl
led_within name loops body jump.Break (Some other) at =
    ap (λ b. b || occurs other (names (settled loops body).labels))
    (bytes_eq_comm name other ∙ sym (and_true (bytes_eq other name)))
led_within name loops body jump.Continue None at = refl
led_within name loops body jump.Continue (Some other) at = led_continue name other loops (settled loops body).labels

-- ---- labels that are open already

found_twice : (x a b : Least) (p q : Bool)
    → cond (p || q) (both x (both a b)) (both a b) ≡ both (cond p (both x a) a) (cond q (both x b) b)
found_twice x a b true true =
    ap (λ y. both y (both a b)) (sym (both_same x)) ∙ both_assoc x x (both a b)
    ∙ ap (both x) (both_swap x a b) ∙ sym (both_assoc x a (both x b))
found_twice x a b true false = sym (both_assoc x a b)
found_twice x a b false true = both_swap x a b
found_twice x a b false false = refl

cond_least : (b : Bool) (x : EarlyError) (es : List EarlyError)
    → least (cond b (x ∷ es) es) ≡ cond b (both (Some x) (least es)) (least es)
cond_least true x es = refl
cond_least false x es = refl

open_within : (name : Text) (loops : Bool) (body : OpenBody) (ls : List Labelled)
    → least (open_errors (within name loops body) ls)
    ≡ both (least (duplicates name ls)) (least (open_errors (settled loops body) ls))
open_within name loops body [] = refl
open_within name loops body (l ∷ more) =
    let x : EarlyError = (early.DuplicateLabel, l.at) in
    let fs = open_errors (settled loops body) more in
    let ds = duplicates name more in
    cond_least (is_open l.name (within name loops body)) x (open_errors (within name loops body) more)
    ∙ ap (λ b. cond (b || is_open l.name (settled loops body))
    (both (Some x) (least (open_errors (within name loops body) more)))
    (least (open_errors (within name loops body) more))) (bytes_eq_comm name l.name)
    ∙ ap (λ e. cond (bytes_eq l.name name || is_open l.name (settled loops body)) (both (Some x) e) e)
    (open_within name loops body more)
    ∙ found_twice (Some x) (least ds) (least fs) (bytes_eq l.name name) (is_open l.name (settled loops body))
    ∙ ap (λ e. both e (cond (is_open l.name (settled loops body)) (both (Some x) (least fs)) (least fs)))
    (sym (cond_least (bytes_eq l.name name) x ds))
    ∙ ap (both (least (duplicates name (l ∷ more)))) (sym (cond_least (is_open l.name (settled loops body)) x fs))

-- ---- the whole

ordered : (d e u n o : Least) → both d (both e (both u (both n o))) ≡ both (both e n) (both u (both d o))
ordered d e u n o =
    ap (λ x. both d (both e x)) (both_swap u n o)
    ∙ ap (both d) (sym (both_assoc e n (both u o)))
    ∙ both_swap d (both e n) (both u o)
    ∙ ap (both (both e n)) (both_swap d u o)

-- the label's own error beside those within
pub found_in_label : (name : Text) (at : ℕ) (body : OpenBody) (x : Jumping)
    → both (least (open_errors (settled x.loops body) (record { name = name; at = at } ∷ [])))
    (found (within name x.loops body) x)
    ≡ found (settled x.loops body) (in_label name at x)
found_in_label name at body x =
    let f = settled x.loops body in
    let label : Labelled = record { name = name; at = at } in
    let left = without (meant.leads name x.loops) x.leaving in
    let d = least (open_errors f (label ∷ [])) in
    ap (λ ls. both d (both (least x.errors)
    (both (least (leaving_errors ls)) (least (open_errors (within name x.loops body) x.labels)))))
    (without_twice (meant.leads name x.loops) _ _ (λ l. led_within name x.loops body l.jump l.label l.at) x.leaving)
    ∙ ap (λ e. both d (both (least x.errors) (both (least (leaving_errors (unled f left))) e)))
    (open_within name x.loops body x.labels)
    ∙ ordered d (least x.errors) (least (leaving_errors (unled f left))) (least (duplicates name x.labels))
    (least (open_errors f x.labels))
    ∙ ap (λ e. both e (both (least (leaving_errors (unled f left))) (both d (least (open_errors f x.labels)))))
    (sym (least_append x.errors (duplicates name x.labels)))
    ∙ ap (λ e. both (least (x.errors ++ duplicates name x.labels)) (both (least (leaving_errors (unled f left))) e))
    (sym (ap least (open_append f (label ∷ []) x.labels)
    ∙ least_append (open_errors f (label ∷ [])) (open_errors f x.labels)))
