-- In a source that is not refused for its nesting, functions stand no deeper than the limit.
use Rattle.std.proofs.Common.{◌≡◌, ℕ, suc, ◌+◌, ◌-◌, ◌≤◌, nat_le, Bool, true, false, ◌&&◌, cond, List, [], ◌∷◌, ◌++◌}
use Rattle.std.proofs.Common.{zero, drop, length, map, Some, None, refl, ap, sym, subst, ◌∙◌, arith, rules}
use Rattle.std.proofs.lemmas.Bool.{leb-true, le-leb}
use Rattle.hz_tree.specs.declared.signal.Signal.{Signal}
use Rattle.hz_tree.specs.declared.signal.Signal.TheVariants as tell
use Rattle.hz_tree.specs.declared.tree.FunctionForm.TheVariants as form
use Rattle.hz_tree.specs.declared.tree.Tree.{Tree, roll-Tree}
use Rattle.hz_tree.specs.declared.tree.Tree.TheOpen.{Tree-F}
use Rattle.hz_tree.specs.declared.tree.Tree.TheFolds.{fold-roll-Tree, ind-Tree, map-Tree}
use Rattle.hz_tree.specs.errors.Limits.{Depths, least_each, all_levels, depths_layer, depths_of, max_depth}
use Rattle.hz_tree.specs.errors.Limits.{limit_errors}
use Rattle.hz_tree.specs.grammar.Signals.{Event, Plain, Placed, Texted, Named, Written}
use Rattle.hz_tree.specs.trees.Events.{told_all, told_layer, events_of}
use Rattle.hz_tree.specs.trees.Places.{node}
use Rattle.hz_laws.specs.Sorts.{Sort, script, method, property, is_method, is_property, Fits, fits_layer, fits_of}
use Rattle.hz_laws.proofs.Fits.{is_apart, is_method_part, Fit, Parts, has_method_parts, first_part, more_parts, parts_fit}
use Rattle.hz_laws.proofs.Hearing.{PassesOver, heard_by, hearing_laws}
use Rattle.hz_laws.proofs.Ranks.{and_left, and_right}
use Rattle.hz_laws.proofs.TreeLaws.{children_map}
use Rattle.hz_scopes.specs.Depth.{open_behind, is_shallow}

-- ---- the events of functions

abbrev heard_one : Event → List Event
heard_one (Plain tell.Enter) = Plain tell.Enter ∷ []
heard_one (Placed tell.Close end) = Placed tell.Close end ∷ []
heard_one _ = []

abbrev heard : List Event → List Event
heard = heard_by heard_one

passed_over : PassesOver heard_one
passed_over = record {
  join = refl;
  argument = refl;
  node = refl;
  bare = refl;
  end_statement = refl;
  end_scope = λ end. refl;
  scope = refl;
  rest = λ at. refl;
  name = λ role at name. refl;
}

abbrev heard_own : Tree-F (List Event) → List Event
heard_own (Tree-F.Function at end form kind parameters rest body) =
    Plain tell.Enter ∷ (heard body ++ Placed tell.Close end ∷ [])
heard_own layer = told_all (map heard (node layer).children)

heard_layer : (y : Tree-F (List Event)) → heard (told_layer y) ≡ heard_own y
heard_layer (Tree-F.Continue at None) = refl
heard_layer (Tree-F.Continue at (Some label)) = refl
heard_layer (Tree-F.Break at None) = refl
heard_layer (Tree-F.Break at (Some label)) = refl
heard_layer _ = let over : PassesOver heard_one = passed_over in first_of (simp hearing_laws, search rules)

-- ---- how many are open

abbrev open_after : (n : ℕ) → List Event → ℕ
open_after n [] = n
open_after n (e ∷ es) = open_after (open_behind n e) es

-- Between the first of these events and the last so many functions more are open at most, and none behind the last.
record Quiet (es : List Event) (depth : ℕ) : Type 0 where
  returns : (n : ℕ) → open_after n es ≡ n
  shallow : (n : ℕ) → n + depth ≤ max_depth → is_shallow n es ≡ true

open_append : (n : ℕ) (es fs : List Event) → open_after n (es ++ fs) ≡ open_after (open_after n es) fs
open_append n [] fs = refl
open_append n (e ∷ es) fs = open_append (open_behind n e) es fs

shallow_both : (n : ℕ) (es fs : List Event) → is_shallow n es ≡ true → is_shallow (open_after n es) fs ≡ true
    → is_shallow n (es ++ fs) ≡ true
shallow_both n [] fs h i = i
shallow_both n (e ∷ es) fs h i =
    let first : nat_le (open_behind n e) max_depth ≡ true = and_left _ (is_shallow (open_behind n e) es) h in
    let more : is_shallow (open_behind n e) (es ++ fs) ≡ true =
    shallow_both (open_behind n e) es fs (and_right (nat_le (open_behind n e) max_depth) _ h) i in
    cc (first, more)

quiet_none : (depth : ℕ) → Quiet [] depth
quiet_none depth = record { returns = λ n. refl; shallow = λ n h. refl }

quiet_both : (es fs : List Event) (depth : ℕ) → Quiet es depth → Quiet fs depth → Quiet (es ++ fs) depth
quiet_both es fs depth h i = record {
  returns = λ n. open_append n es fs ∙ ap (λ m. open_after m fs) (h.returns n) ∙ i.returns n;
  shallow = λ n small.
      shallow_both n es fs (h.shallow n small)
      (ap (λ m. is_shallow m fs) (h.returns n) ∙ i.shallow n small);
}

quiet_more : (es : List Event) (a b : ℕ) → a ≤ b → Quiet es a → Quiet es b
quiet_more es a b less h =
    record { returns = h.returns; shallow = λ n small. h.shallow n (omega (arith, less, small)) }

within_limit : (n : ℕ) → n ≤ max_depth → nat_le n max_depth ≡ true
within_limit n h = le-leb n max_depth h

quiet_function : (body : List Event) (end depth : ℕ) → Quiet body depth
    → Quiet (Plain tell.Enter ∷ (body ++ Placed tell.Close end ∷ [])) (suc depth)
quiet_function body end depth h = record {
  returns = λ n.
      open_append (suc n) body (Placed tell.Close end ∷ [])
      ∙ ap (λ m. m - 1) (h.returns (suc n)) ∙ omega arith;
  shallow = λ n small.
      let first : nat_le (suc n) max_depth ≡ true = within_limit (suc n) (omega (arith, small)) in
      let last : nat_le (suc n - 1) max_depth ≡ true = within_limit (suc n - 1) (omega (arith, small)) in
      let closes : is_shallow (suc n) (Placed tell.Close end ∷ []) ≡ true = ap (λ b. b && true) last in
      let rest : is_shallow (suc n) (body ++ Placed tell.Close end ∷ []) ≡ true =
      shallow_both (suc n) body (Placed tell.Close end ∷ []) (h.shallow (suc n) (omega (arith, small)))
      (ap (λ m. is_shallow m (Placed tell.Close end ∷ [])) (h.returns (suc n)) ∙ closes) in
      cc (first, rest);
}

-- ---- levels

least_left : (xs ys : List ℕ) → length xs ≤ length (least_each xs ys)
least_left [] ys = omega arith
least_left (x ∷ xs) [] = omega arith
least_left (x ∷ xs) (y ∷ ys) = let more : length xs ≤ length (least_each xs ys) = least_left xs ys in omega (arith, more)

least_right : (xs ys : List ℕ) → length ys ≤ length (least_each xs ys)
least_right [] ys = omega arith
least_right (x ∷ xs) [] = omega arith
least_right (x ∷ xs) (y ∷ ys) =
    let more : length ys ≤ length (least_each xs ys) = least_right xs ys in omega (arith, more)

-- the function of a property has no level of its own, and a property none
abbrev extra : Bool → ℕ
extra wanted = cond wanted 1 0

abbrev TreeQuiet : Tree → Type 0
TreeQuiet tree =
    (wanted : Sort) → fits_of tree wanted ≡ true
    → Quiet (heard (events_of tree)) (length (depths_of tree).levels + extra (is_method_part wanted))

abbrev Proved : Type 0
Proved = (tree : Tree) × TreeQuiet tree

abbrev trees : List Proved → List Tree
trees = map (λ e. e.0)

apart_extra : (may : Bool) (wanted : Sort) → is_apart may wanted ≡ false → extra (is_method_part wanted) ≤ extra may
apart_extra true method h = omega arith
apart_extra true property h = omega arith
apart_extra true _ h = omega arith
apart_extra false method h = absurd (cc)
apart_extra false property h = absurd (cc)
apart_extra false _ h = omega arith

child : (may : Bool) (e : Proved) → Fit may (fits_of e.0)
    → Quiet (heard (events_of e.0)) (length (depths_of e.0).levels + extra may)
child may e fit =
    let less : extra (is_method_part fit.sort) ≤ extra may = apart_extra may fit.sort fit.is_part in
    quiet_more (heard (events_of e.0)) (length (depths_of e.0).levels + extra (is_method_part fit.sort))
    (length (depths_of e.0).levels + extra may) (omega (arith, less)) (e.1 fit.sort fit.holds)

all_quiet : (may : Bool) (ts : List Proved) → Parts may (map fits_of (trees ts))
    → Quiet (told_all (map heard (map events_of (trees ts))))
    (length (all_levels (map depths_of (trees ts))) + extra may)
all_quiet may [] h = quiet_none _
all_quiet may (e ∷ more) h =
    let first : List ℕ = (depths_of e.0).levels in
    let rest : List ℕ = all_levels (map depths_of (trees more)) in
    let a : length first ≤ length (least_each first rest) = least_left first rest in
    let b : length rest ≤ length (least_each first rest) = least_right first rest in
    quiet_both (heard (events_of e.0)) (told_all (map heard (map events_of (trees more))))
    (length (least_each first rest) + extra may)
    (quiet_more _ _ _ (omega (arith, a)) (child may e (first_part h)))
    (quiet_more _ _ _ (omega (arith, b)) (all_quiet may more (more_parts h)))

-- ---- layers

abbrev mapped : {A : Type 0} → (Tree → A) → Tree-F Proved → Tree-F A
mapped {A} f y = map-Tree Tree A f (map-Tree Proved Tree (λ e. e.0) y)

children_twice : {A : Type 0} (f : Tree → A) (y : Tree-F Proved)
    → (node (mapped f y)).children ≡ map f (trees (node y).children)
children_twice f y = children_map f (map-Tree Proved Tree (λ e. e.0) y) ∙ ap (map f) (children_map (λ e. e.0) y)

parts_quiet : (may : Bool) (y : Tree-F Proved) → Parts may (node (mapped fits_of y)).children
    → Quiet (told_all (map heard (node (mapped events_of y)).children))
    (length (all_levels (node (mapped depths_of y)).children) + extra may)
parts_quiet may y fit =
    subst (λ ess. Quiet (told_all (map heard ess)) (length (all_levels (node (mapped depths_of y)).children) + extra may))
    (sym (children_twice events_of y))
    (subst (λ ds. Quiet (told_all (map heard (map events_of (trees (node y).children))))
    (length (all_levels ds) + extra may)) (sym (children_twice depths_of y))
    (all_quiet may (node y).children (subst (Parts may) (children_twice fits_of y) fit)))

-- a layer has the levels of its parts
levels_of_parts : (y : Tree-F Depths) → length (all_levels (node y).children) ≤ length (depths_layer y).levels
levels_of_parts (Tree-F.Function at end (form.Declaration bound) kind parameters rest body) = omega arith
levels_of_parts (Tree-F.Function at end (form.Expression name) kind parameters rest body) = omega arith
levels_of_parts (Tree-F.Function at end form.Arrow kind parameters rest body) = omega arith
levels_of_parts (Tree-F.Function at end form.Method kind parameters rest body) = omega arith
levels_of_parts (Tree-F.Catch at bound brace items end) = omega arith
levels_of_parts _ = omega arith

-- the function of a property, and a property, have no level of their own
property_extra : (wanted : Sort) → is_property wanted ≡ true → extra (is_method_part wanted) ≡ 1
property_extra property h = refl
property_extra _ h = absurd (cc)

method_extra : (wanted : Sort) → is_method wanted ≡ true → extra (is_method_part wanted) ≡ 1
method_extra method h = refl
method_extra _ h = absurd (cc)

-- a function stands one deeper than its body
function_quiet : (end : ℕ) (body : Proved) (levels : ℕ) → Fit false (fits_of body.0)
    → suc (length (least_each (depths_of body.0).levels [])) ≤ levels
    → Quiet (Plain tell.Enter ∷ (heard (events_of body.0) ++ Placed tell.Close end ∷ [])) levels
function_quiet end body levels fit h =
    let less : length (depths_of body.0).levels ≤ length (least_each (depths_of body.0).levels []) =
    least_left (depths_of body.0).levels [] in
    quiet_more _ _ _ (omega (arith, h, less))
    (quiet_function (heard (events_of body.0)) end (length (depths_of body.0).levels + 0) (child false body fit))

-- properties go into a literal, and a property has room for one function
own_quiet : (y : Tree-F Proved) → Parts (has_method_parts (mapped fits_of y)) (node (mapped fits_of y)).children
    → (wanted : Sort) → fits_layer (mapped fits_of y) wanted ≡ true
    → Quiet (heard_own (mapped events_of y))
    (length (depths_layer (mapped depths_of y)).levels + extra (is_method_part wanted))
own_quiet (Tree-F.Function at end (form.Declaration bound) kind parameters rest body) fit wanted h =
    function_quiet end body _ (first_part fit) (omega arith)
own_quiet (Tree-F.Function at end (form.Expression name) kind parameters rest body) fit wanted h =
    function_quiet end body _ (first_part fit) (omega arith)
own_quiet (Tree-F.Function at end form.Arrow kind parameters rest body) fit wanted h =
    function_quiet end body _ (first_part fit) (omega arith)
own_quiet (Tree-F.Function at end form.Method kind parameters rest body) fit wanted h =
    let one : extra (is_method_part wanted) ≡ 1 = method_extra wanted (and_left (is_method wanted) _ h) in
    function_quiet end body _ (first_part fit) (omega (arith, one))
own_quiet (Tree-F.Object at props) fit wanted h =
    quiet_more _ _ _ (omega arith) (parts_quiet true (Tree-F.Object at props) fit)
own_quiet (Tree-F.Method at key function) fit wanted h =
    let one : extra (is_method_part wanted) ≡ 1 = property_extra wanted (and_left (is_property wanted) _ h) in
    quiet_more _ _ _ (omega (arith, one)) (parts_quiet true (Tree-F.Method at key function) fit)
own_quiet (Tree-F.Getter at key function) fit wanted h =
    let one : extra (is_method_part wanted) ≡ 1 = property_extra wanted (and_left (is_property wanted) _ h) in
    quiet_more _ _ _ (omega (arith, one)) (parts_quiet true (Tree-F.Getter at key function) fit)
own_quiet (Tree-F.Setter at key function) fit wanted h =
    let one : extra (is_method_part wanted) ≡ 1 = property_extra wanted (and_left (is_property wanted) _ h) in
    quiet_more _ _ _ (omega (arith, one)) (parts_quiet true (Tree-F.Setter at key function) fit)
own_quiet y fit wanted h =
    let less : length (all_levels (node (mapped depths_of y)).children)
    ≤ length (depths_layer (mapped depths_of y)).levels = levels_of_parts (mapped depths_of y) in
    quiet_more _ _ _ (omega (arith, less)) (parts_quiet false y fit)

layer_quiet : (y : Tree-F Proved) (wanted : Sort) → fits_layer (mapped fits_of y) wanted ≡ true
    → Quiet (heard (told_layer (mapped events_of y)))
    (length (depths_layer (mapped depths_of y)).levels + extra (is_method_part wanted))
layer_quiet y wanted h =
    subst (λ es. Quiet es (length (depths_layer (mapped depths_of y)).levels + extra (is_method_part wanted)))
    (sym (heard_layer (mapped events_of y))) (own_quiet y (parts_fit (mapped fits_of y) wanted h) wanted h)

quiet_roll : (x : Tree-F Tree)
    → ((wanted : Sort) → fits_layer (map-Tree Tree Fits fits_of x) wanted ≡ true
    → Quiet (heard (told_layer (map-Tree Tree (List Event) events_of x)))
    (length (depths_layer (map-Tree Tree Depths depths_of x)).levels + extra (is_method_part wanted)))
    → TreeQuiet (roll-Tree x)
unfolding events_of depths_of fits_of
quiet_roll x is wanted h =
    subst (λ d. Quiet (heard (events_of (roll-Tree x))) (length d.levels + extra (is_method_part wanted)))
    (sym (fold-roll-Tree Depths depths_layer x))
    (subst (λ es. Quiet (heard es)
    (length (depths_layer (map-Tree Tree Depths depths_of x)).levels + extra (is_method_part wanted)))
    (sym (fold-roll-Tree (List Event) told_layer x))
    (is wanted (sym (ap (λ fits. fits wanted) (fold-roll-Tree Fits fits_layer x)) ∙ h)))

tree_quiet : (tree : Tree) → TreeQuiet tree
tree_quiet =
    ind-Tree TreeQuiet (λ x y is. subst (λ z. TreeQuiet (roll-Tree z)) is
    (quiet_roll (map-Tree Proved Tree (λ e. e.0) y) (layer_quiet y)))

-- ---- sources

none_dropped : {A B : Type 0} (f : A → B) (n : ℕ) (xs : List A) (ys : List B) → map f (drop n xs) ++ ys ≡ []
    → length xs ≤ n
none_dropped f zero [] ys h = omega arith
none_dropped f zero (x ∷ xs) ys h = absurd (cc (h))
none_dropped f (suc n) [] ys h = omega arith
none_dropped f (suc n) (x ∷ xs) ys h = let less : length xs ≤ n = none_dropped f n xs ys h in omega (arith, less)

below_limit : (n : ℕ) → nat_le n max_depth ≡ true → n ≤ max_depth
below_limit n h = leb-true n max_depth h

and_true : (a b : Bool) → a ≡ true → b ≡ true → (a && b) ≡ true
and_true a b h i = cc (h, i)

plain_shallow : (signal : Signal) (es : List Event) (n : ℕ) → n ≤ max_depth
    → ((m : ℕ) → m ≤ max_depth → is_shallow m (heard es) ≡ true → is_shallow m es ≡ true)
    → is_shallow n (heard_one (Plain signal) ++ heard es) ≡ true → is_shallow n (Plain signal ∷ es) ≡ true
plain_shallow tell.Enter es n h more i =
    let small : nat_le (suc n) max_depth ≡ true = and_left _ (is_shallow (suc n) (heard es)) i in
    and_true _ _ small (more (suc n) (below_limit (suc n) small) (and_right (nat_le (suc n) max_depth) _ i))
plain_shallow _ es n h more i = and_true _ _ (within_limit n h) (more n h i)

placed_shallow : (signal : Signal) (at : ℕ) (es : List Event) (n : ℕ) → n ≤ max_depth
    → ((m : ℕ) → m ≤ max_depth → is_shallow m (heard es) ≡ true → is_shallow m es ≡ true)
    → is_shallow n (heard_one (Placed signal at) ++ heard es) ≡ true → is_shallow n (Placed signal at ∷ es) ≡ true
placed_shallow tell.Close at es n h more i =
    let small : n - 1 ≤ max_depth = omega (arith, h) in
    and_true _ _ (within_limit (n - 1) small) (more (n - 1) small (and_right (nat_le (n - 1) max_depth) _ i))
placed_shallow _ at es n h more i = and_true _ _ (within_limit n h) (more n h i)

-- the other events change nothing
all_shallow : (es : List Event) (n : ℕ) → n ≤ max_depth → is_shallow n (heard es) ≡ true → is_shallow n es ≡ true
all_shallow [] n h i = refl
all_shallow (Plain signal ∷ es) n h i = plain_shallow signal es n h (all_shallow es) i
all_shallow (Placed signal at ∷ es) n h i = placed_shallow signal at es n h (all_shallow es) i
all_shallow (Texted signal text ∷ es) n h i = and_true _ _ (within_limit n h) (all_shallow es n h i)
all_shallow (Named signal at name ∷ es) n h i = and_true _ _ (within_limit n h) (all_shallow es n h i)
all_shallow (Written signal at text octal ∷ es) n h i = and_true _ _ (within_limit n h) (all_shallow es n h i)

pub shallow_source : (tree : Tree) → fits_of tree script ≡ true → limit_errors tree ≡ []
    → is_shallow 0 (events_of tree) ≡ true
shallow_source tree fits none =
    let small : length (depths_of tree).levels ≤ max_depth =
    none_dropped _ max_depth (depths_of tree).levels (depths_of tree).errors none in
    all_shallow (events_of tree) 0 (omega arith)
    ((tree_quiet tree script fits).shallow 0 (omega (arith, small)))
