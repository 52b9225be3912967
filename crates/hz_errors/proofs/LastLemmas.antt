-- The last items of a list, which come first where it is read backwards.
use Rattle.std.proofs.Common.{◌≡◌, ℕ, ◌-◌, ◌<◌, ◌≤◌, List, [], ◌∷◌, ◌++◌, length, map, reverse, get_or, set, Some, None}
use Rattle.std.proofs.Common.{refl, ap, ◌∙◌, subst, arith, length-append, drop}
use Rattle.std.proofs.lemmas.List.{reverse-append, reverse-reverse, length-reverse, get_or-reverse}
use Rattle.std.proofs.Math.Seq.{set-append_seam}
use Rattle.hz_errors.specs.declared.operand_entries.Entry.{Entry as Kept}
use Rattle.hz_errors.specs.declared.entries.Run.{Run}
use Rattle.hz_errors.specs.declared.functions.Opened.{Opened}
use Rattle.hz_errors.specs.Operands.{change_first, change_innermost, place_below}
use Rattle.hz_errors.specs.OperandEntries.{entry_seen, entries_seen}

abbrev with_first : {A : Type 0} → A → List A → List A
with_first x [] = []
with_first x (y ∷ ys) = x ∷ ys

set_end : {A : Type 0} (zs : List A) (y x : A) (n : ℕ) → n ≡ length zs → set (zs ++ y ∷ []) n x ≡ zs ++ x ∷ []
set_end zs y x n h = ap (λ n. set (zs ++ y ∷ []) n x) h ∙ set-append_seam zs y [] x

set_reversed : {A : Type 0} (ys : List A) (x : A)
    → reverse (set (reverse ys) (length (reverse ys) - 1) x) ≡ with_first x ys
set_reversed [] x = refl
set_reversed (y ∷ ys) x =
    let split : reverse (y ∷ ys) ≡ reverse ys ++ y ∷ [] = reverse-append (y ∷ []) ys in
    ap (λ zs. reverse (set zs (length zs - 1) x)) split
    ∙ ap reverse (set_end (reverse ys) y x (length (reverse ys ++ y ∷ []) - 1)
    (omega (arith, length-append (reverse ys) (y ∷ []))))
    ∙ reverse-append (reverse ys) (x ∷ [])
    ∙ ap (λ zs. x ∷ zs) (reverse-reverse ys)

set_last : {A : Type 0} (xs : List A) (x : A) → reverse (set xs (length xs - 1) x) ≡ with_first x (reverse xs)
set_last xs x =
    subst (λ zs. reverse (set zs (length zs - 1) x) ≡ with_first x (reverse xs)) (reverse-reverse xs)
    (set_reversed (reverse xs) x)

-- ---- runs

first_is : (runs : List Run) (d : Run) → 0 < length runs → runs ≡ get_or runs 0 d ∷ drop 1 runs
first_is [] d h = absurd (omega arith)
first_is (run ∷ below) d h = refl

-- the uppermost run
pub last_run : (runs : List Run) (count : ℕ) (d : Run) → count ≡ length runs → 0 < count
    → reverse runs ≡ get_or runs (count - 1) d ∷ drop 1 (reverse runs)
last_run runs count d long some =
    first_is (reverse runs) d (omega (arith, length-reverse runs))
    ∙ ap (λ run. run ∷ drop 1 (reverse runs)) (get_or-reverse runs 0 d (omega arith)
    ∙ ap (λ k. get_or runs k d) (omega arith))

-- the uppermost run becomes another
pub set_last_run : (runs : List Run) (count : ℕ) (run : Run) → count ≡ length runs → 0 < count
    → reverse (set runs (count - 1) run) ≡ run ∷ drop 1 (reverse runs)
set_last_run runs count run long some =
    ap (λ n. reverse (set runs (n - 1) run)) long ∙ set_last runs run
    ∙ ap (with_first run) (last_run runs count run long some)

-- ---- functions and entries

first_function : (f : Opened) (fs : List Opened) → with_first f fs ≡ change_innermost (λ g. f) fs
first_function f [] = refl
first_function f (g ∷ outer) = refl

-- the innermost function becomes another
pub set_innermost : (fs : List Opened) (f : Opened)
    → reverse (set fs (length fs - 1) f) ≡ change_innermost (λ g. f) (reverse fs)
set_innermost fs f = set_last fs f ∙ first_function f (reverse fs)

first_entry : (e : Kept) (es : List Kept)
    → map entry_seen (with_first e es) ≡ change_first (λ x. entry_seen e) (map entry_seen es)
first_entry e [] = refl
first_entry e (x ∷ es) = refl

-- the uppermost entry becomes another
pub set_top : (es : List Kept) (e : Kept)
    → entries_seen (set es (length es - 1) e) ≡ change_first (λ x. entry_seen e) (entries_seen es)
set_top es e = ap (map entry_seen) (set_last es e) ∙ first_entry e (reverse es)

second_entry : (es : List Kept) (d : Kept) → 2 ≤ length es
    → place_below (map entry_seen es) ≡ Some (get_or es 1 d).at
second_entry [] d h = absurd (omega arith)
second_entry (a ∷ []) d h = absurd (omega arith)
second_entry (a ∷ b ∷ es) d h = refl

-- the entry below the uppermost one
pub below_top : (es : List Kept) (d : Kept) → 2 ≤ length es
    → place_below (entries_seen es) ≡ Some (get_or es (length es - 2) d).at
below_top es d h =
    second_entry (reverse es) d (omega (arith, length-reverse es))
    ∙ ap (λ e. Some e.at) (get_or-reverse es 1 d (omega arith)
    ∙ ap (λ k. get_or es k d) (omega arith))

no_second : (es : List Kept) → length es < 2 → place_below (map entry_seen es) ≡ None
no_second [] h = refl
no_second (a ∷ []) h = refl
no_second (a ∷ b ∷ es) h = absurd (omega arith)

pub below_none : (es : List Kept) → length es < 2 → place_below (entries_seen es) ≡ None
below_none es h = no_second (reverse es) (omega (arith, length-reverse es))
