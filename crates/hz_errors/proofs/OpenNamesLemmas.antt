-- The labels of a function as the program keeps them.
use Rattle.std.proofs.Common.{◌≡◌, ℕ, ◌+◌, ◌-◌, ◌<◌, ◌≤◌, Bool, true, false, ◌||◌, cond, List, [], ◌∷◌, ◌++◌, length}
use Rattle.std.proofs.Common.{map, take, drop, reverse, set, get_or, refl, ap, sym, ◌∙◌, arith, add-one, subst}
use Rattle.std.proofs.Common.{length-append, length-drop}
use Rattle.std.proofs.Math.Seq.{take-append_seam, take-length, take-suc-set, map-set_same}
use Rattle.std.proofs.lemmas.List.{reverse-append, reverse-reverse, take-append-le, take-append-drop, map-append}
use Rattle.std.proofs.lemmas.List.{length-map, length-reverse, length-set, get_or_default}
use Rattle.std.proofs.lemmas.List.Folds.{list_any-append}
use Rattle.std.specs.Str.{bytes_eq}
use Rattle.hz_tree.specs.tokens.Text.{Text}
use Rattle.hz_tree.specs.errors.Scopes.{occurs}
use Rattle.hz_errors.specs.declared.open_labels.Label.{Label}
use Rattle.hz_errors.specs.Labels as spec
use Rattle.hz_errors.specs.Labels.{OpenLabel, loop_names}
use Rattle.hz_errors.specs.OpenNames.{text_of, shown, fresh_of, labels_of, IsNamed}

-- ---- looking names up

either : (a b : Bool) → (b || (a || false)) ≡ (a || b)
either true true = refl
either true false = refl
either false true = refl
either false false = refl

occurs-reverse : (name : Text) (xs : List Text) → occurs name (reverse xs) ≡ occurs name xs
occurs-reverse name [] = refl
occurs-reverse name (x ∷ xs) =
    ap (occurs name) (reverse-append (x ∷ []) xs)
    ∙ list_any-append (λ other. bytes_eq other name) (reverse xs) (x ∷ [])
    ∙ ap (λ b. b || (bytes_eq x name || false)) (occurs-reverse name xs)
    ∙ either (bytes_eq x name) (occurs name xs)

names-reverse : (xs : List Label) → spec.names (reverse (map shown xs)) ≡ reverse (map text_of xs)
names-reverse [] = refl
names-reverse (x ∷ xs) =
    ap spec.names (reverse-append (shown x ∷ []) (map shown xs))
    ∙ map-append _ (reverse (map shown xs)) (shown x ∷ [])
    ∙ ap (λ ns. ns ++ text_of x ∷ []) (names-reverse xs)
    ∙ sym (reverse-append (text_of x ∷ []) (map text_of xs))

all_names : (n : ℕ) (xs : List Label) → reverse (map text_of xs) ≡ fresh_of n xs ++ spec.names (labels_of n xs)
all_names n xs =
    ap (λ (ys : List Label). reverse (map text_of ys)) (sym (take-append-drop n xs))
    ∙ ap reverse (map-append text_of (take n xs) (drop n xs))
    ∙ reverse-append (map text_of (take n xs)) (map text_of (drop n xs))
    ∙ ap (λ ns. fresh_of n xs ++ ns) (sym (names-reverse (take n xs)))

pub occurs_open : (name : Text) (n : ℕ) (xs : List Label) (names loops : List Text) → IsNamed xs n names loops
    → occurs name names ≡ occurs name (fresh_of n xs ++ spec.names (labels_of n xs))
occurs_open name n xs names loops is =
    ap (occurs name) is.of_all ∙ sym (occurs-reverse name (map text_of xs)) ∙ ap (occurs name) (all_names n xs)

pub occurs_on_loop : (name : Text) (n : ℕ) (xs : List Label) (names loops : List Text) → IsNamed xs n names loops
    → occurs name loops ≡ occurs name (loop_names (labels_of n xs))
occurs_on_loop name n xs names loops is = sym (occurs-reverse name loops) ∙ ap (occurs name) is.of_loops

-- ---- fresh labels

pub length-fresh_of : (n : ℕ) (xs : List Label) → length (fresh_of n xs) ≡ length xs - n
length-fresh_of n xs =
    length-reverse (map text_of (drop n xs)) ∙ length-map (drop n xs) text_of ∙ length-drop n xs

no_items : {A : Type 0} (xs : List A) → length xs ≡ 0 → xs ≡ []
no_items [] h = refl
no_items (x ∷ xs) h = absurd (omega (arith, h))

pub none_fresh : (n : ℕ) (xs : List Label) → length xs ≤ n → fresh_of n xs ≡ []
none_fresh n xs h = no_items (fresh_of n xs) (length-fresh_of n xs ∙ omega (arith, h))

pub settled_all : (n : ℕ) (xs : List Label) → fresh_of n xs ≡ [] → length xs ≤ n
settled_all n xs h =
    let none : length xs - n ≡ 0 = sym (length-fresh_of n xs) ∙ ap length h in
    omega (arith, none)

labels_next : (n : ℕ) (xs : List Label) (x : Label) → n < length xs
    → labels_of (n + 1) (set xs n x) ≡ shown x ∷ labels_of n xs
labels_next n xs x h =
    ap (λ m. reverse (map shown (take m (set xs n x)))) (add-one n)
    ∙ ap (λ (ys : List Label). reverse (map shown ys)) (take-suc-set xs n x h)
    ∙ ap reverse (map-append shown (take n xs) (x ∷ []))
    ∙ reverse-append (map shown (take n xs)) (shown x ∷ [])

-- one more label is settled, as on a loop or not
abbrev pub with_loop : (on_loop : Bool) → Text → List Text → List Text
with_loop on_loop name loops = cond on_loop (loops ++ name ∷ []) loops

loops_next : (on_loop : Bool) (name : Text) (loops outer : List Text) → reverse loops ≡ outer
    → reverse (with_loop on_loop name loops) ≡ cond on_loop (name ∷ outer) outer
loops_next true name loops outer h = reverse-append loops (name ∷ []) ∙ ap (λ ns. name ∷ ns) h
loops_next false name loops outer h = h

pub named_settled : (xs : List Label) (n : ℕ) (names loops : List Text) (old : Label) (on_loop : Bool)
    → IsNamed xs n names loops → n < length xs → old ≡ get_or xs n old
    → IsNamed (set xs n (record { name = old.name; on_loop = on_loop })) (n + 1) names
    (with_loop on_loop old.name.now loops)
named_settled xs n names loops old on_loop is h at =
    let new : Label = record { name = old.name; on_loop = on_loop } in
    record {
      within = omega (arith, h, length-set xs n new);
      of_all = is.of_all ∙ sym (map-set_same text_of xs n new old (ap text_of at));
      of_loops =
          loops_next on_loop old.name.now loops (loop_names (labels_of n xs)) is.of_loops
          ∙ ap loop_names (sym (labels_next n xs new h));
    }

pub same_item : (xs : List Label) (n : ℕ) (x y : Label) → n < length xs → x ≡ get_or xs n x → y ≡ get_or xs n y
    → x ≡ y
same_item xs n x y h i j = i ∙ get_or_default xs n x y h ∙ sym j

-- ---- the innermost label ends

without_last : (fewer : List Label) (x : Label) (names : List Text) → names ≡ map text_of (fewer ++ x ∷ [])
    → take (length fewer) names ≡ map text_of fewer
without_last fewer x names h =
    ap (take (length fewer)) (h ∙ map-append text_of fewer (x ∷ []))
    ∙ ap (λ m. take m (map text_of fewer ++ text_of x ∷ [])) (sym (length-map fewer text_of))
    ∙ take-append_seam (map text_of fewer) (text_of x ∷ [])

-- it was fresh
pub named_fresh : (items fewer : List Label) (x : Label) (n : ℕ) (names loops : List Text)
    → items ≡ fewer ++ x ∷ [] → IsNamed items n names loops → n ≤ length fewer
    → IsNamed fewer n (take (length fewer) names) loops
named_fresh items fewer x n names loops are is h = record {
  within = h;
  of_all = without_last fewer x names (is.of_all ∙ ap (map text_of) are);
  of_loops =
      is.of_loops
      ∙ ap (λ (ys : List Label). loop_names (reverse (map shown ys)))
      (ap (take n) are ∙ take-append-le n fewer (x ∷ []) h);
}

all_labels : (items fewer : List Label) (x : Label) (n : ℕ) → items ≡ fewer ++ x ∷ [] → n ≤ length items
    → length fewer < n → labels_of n items ≡ shown x ∷ labels_of (length fewer) fewer
all_labels items fewer x n are h i =
    let long : length items ≡ length fewer + 1 = ap length are ∙ length-append fewer (x ∷ []) in
    let all : n ≡ length items = omega (arith, long, h, i) in
    ap (λ m. labels_of m items) all
    ∙ ap (λ (ys : List Label). reverse (map shown ys)) (take-length items ∙ are)
    ∙ ap reverse (map-append shown fewer (x ∷ []))
    ∙ reverse-append (map shown fewer) (shown x ∷ [])
    ∙ ap (λ (ys : List Label). shown x ∷ reverse (map shown ys)) (sym (take-length fewer))

last_taken : (loops outer : List Text) (name : Text) → reverse loops ≡ name ∷ outer
    → reverse (take (length loops - 1) loops) ≡ outer
last_taken loops outer name h =
    let are : loops ≡ reverse outer ++ name ∷ [] =
    sym (reverse-reverse loops) ∙ ap reverse h ∙ reverse-append (name ∷ []) outer in
    let long : length loops - 1 ≡ length (reverse outer) =
    ap (λ m. m - 1) (ap length are ∙ length-append (reverse outer) (name ∷ [])) ∙ omega arith in
    ap (λ m. reverse (take m loops)) long
    ∙ ap (λ ls. reverse (take (length (reverse outer)) ls)) are
    ∙ ap reverse (take-append_seam (reverse outer) (name ∷ []))
    ∙ reverse-reverse outer

-- it was on a loop
pub named_loop : (items fewer : List Label) (x : Label) (n : ℕ) (names loops : List Text)
    → items ≡ fewer ++ x ∷ [] → IsNamed items n names loops → length fewer < n → x.on_loop ≡ true
    → IsNamed fewer (length fewer) (take (length fewer) names) (take (length loops - 1) loops)
named_loop items fewer x n names loops are is h on = record {
  within = omega arith;
  of_all = without_last fewer x names (is.of_all ∙ ap (map text_of) are);
  of_loops =
      last_taken loops (loop_names (labels_of (length fewer) fewer)) (text_of x)
      (is.of_loops ∙ ap loop_names (all_labels items fewer x n are is.within h)
      ∙ ap (λ b. cond b (text_of x ∷ loop_names (labels_of (length fewer) fewer))
      (loop_names (labels_of (length fewer) fewer))) on);
}

-- it was on another statement
pub named_plain : (items fewer : List Label) (x : Label) (n : ℕ) (names loops : List Text)
    → items ≡ fewer ++ x ∷ [] → IsNamed items n names loops → length fewer < n → x.on_loop ≡ false
    → IsNamed fewer (length fewer) (take (length fewer) names) loops
named_plain items fewer x n names loops are is h on = record {
  within = omega arith;
  of_all = without_last fewer x names (is.of_all ∙ ap (map text_of) are);
  of_loops =
      is.of_loops ∙ ap loop_names (all_labels items fewer x n are is.within h)
      ∙ ap (λ b. cond b (text_of x ∷ loop_names (labels_of (length fewer) fewer))
      (loop_names (labels_of (length fewer) fewer))) on;
}

-- ---- the outermost fresh label, as it is stored

pub some_fresh : (n : ℕ) (xs : List Label) (fresh : List Text) → fresh_of n xs ≡ fresh → 0 < length fresh
    → n < length xs
some_fresh n xs fresh are some =
    let long : length xs - n ≡ length fresh = sym (length-fresh_of n xs) ∙ ap length are in
    omega (arith, long, some)

module _ (xs : List Label) (n : ℕ) (names loops : List Text) (is : IsNamed xs n names loops) (h : n < length xs) where
  pub named_then : (xs' : List Label) (names' loops' : List Text) (first old : Label) (on_loop : Bool)
      → xs' ≡ xs → names' ≡ names → first ≡ get_or xs n first → old ≡ get_or xs' n old
      → loops' ≡ with_loop on_loop first.name.now loops
      → IsNamed (set xs' n (record { name = old.name; on_loop = on_loop })) (n + 1) names' loops'
  named_then xs' names' loops' first old on_loop same named i j pushed =
      let new : Label = record { name = old.name; on_loop = on_loop } in
      let at : old ≡ get_or xs n old = j ∙ ap (λ (ys : List Label). get_or ys n old) same in
      let one : first ≡ old = same_item xs n first old h i at in
      let found : loops' ≡ with_loop on_loop old.name.now loops =
      pushed ∙ ap (λ (l : Label). with_loop on_loop l.name.now loops) one in
      subst (λ (ys : List Label). IsNamed (set ys n new) (n + 1) names' loops') (sym same)
      (subst (λ ns. IsNamed (set xs n new) (n + 1) ns loops') (sym named)
      (subst (λ ls. IsNamed (set xs n new) (n + 1) names ls) (sym found)
      (named_settled xs n names loops old on_loop is h at)))
