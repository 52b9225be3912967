-- What the events of labels and jumps do, by the sort of the tree.
use Rattle.std.proofs.Common.{◌≡◌, Bool, true, false, ◌||◌, List, [], ◌∷◌, ◌++◌, map, Option, Some, None, refl, ap}
use Rattle.std.proofs.Common.{sym, ◌∙◌}
use Rattle.hz_tree.specs.declared.tree.Tree.{Tree}
use Rattle.hz_tree.specs.declared.tree.Tree.TheOpen.{Tree-F}
use Rattle.hz_tree.specs.declared.tree.Tree.TheFolds.{map-Tree}
use Rattle.hz_tree.specs.grammar.Signals.{Event}
use Rattle.hz_tree.specs.trees.Events.{told_all, events_of}
use Rattle.hz_tree.specs.trees.Places.{node, optional}
use Rattle.hz_tree.specs.errors.Jumps.{Jumping, all_beside, jumping_of}
use Rattle.hz_laws.specs.Sorts.{Sort, script, statement, bind, clause, handler, expression, element, property, method}
use Rattle.hz_laws.specs.Sorts.{body, key, tail, is_script, is_statement, is_bind, is_clause, is_handler}
use Rattle.hz_laws.specs.Sorts.{is_expression, is_element, is_property, is_method, is_body, is_key, is_tail, Fits}
use Rattle.hz_laws.specs.Sorts.{all_fit, fits_of}
use Rattle.hz_laws.proofs.Ranks.{false_true, and_left, and_right}
use Rattle.hz_laws.proofs.TreeLaws.{children_map}
use Rattle.hz_errors.proofs.LabelsHeard.{heard}
use Rattle.hz_errors.proofs.LabelsActs.{Within, Settles, Whole, within_none, within_both, settles_within}

-- no jump leaves it
pub record Inside (es : List Event) (x : Jumping) : Type 0 where
  pub within : Within es x
  pub stays : x.leaving ≡ []

abbrev pub Acts : Sort → List Event → Jumping → Type 0
Acts script es x = Whole es x
Acts statement es x = Settles es x
Acts clause es x = Within es x
Acts handler es x = Within es x
Acts body es x = Within es x
Acts _ es x = Inside es x

-- jumps stay in trees of this sort
abbrev pub is_inside : Sort → Bool
is_inside script = false
is_inside statement = false
is_inside clause = false
is_inside handler = false
is_inside body = false
is_inside _ = true

pub acts_within : (s : Sort) (es : List Event) (x : Jumping) → is_script s ≡ false → Acts s es x → Within es x
acts_within script es x h a = absurd (false_true (sym h))
acts_within statement es x h a = settles_within es x a
acts_within clause es x h a = a
acts_within handler es x h a = a
acts_within body es x h a = a
acts_within _ es x h a = a.within

pub acts_inside : (s : Sort) (es : List Event) (x : Jumping) → is_inside s ≡ true → Acts s es x → Inside es x
acts_inside script es x h a = absurd (false_true h)
acts_inside statement es x h a = absurd (false_true h)
acts_inside clause es x h a = absurd (false_true h)
acts_inside handler es x h a = absurd (false_true h)
acts_inside body es x h a = absurd (false_true h)
acts_inside _ es x h a = a

pub as_script : (s : Sort) (es : List Event) (x : Jumping) → is_script s ≡ true → Whole es x → Acts s es x
as_script script es x h a = a
as_script _ es x h a = absurd (false_true h)

pub as_statement : (s : Sort) (es : List Event) (x : Jumping) → is_statement s ≡ true → Settles es x → Acts s es x
as_statement statement es x h a = a
as_statement _ es x h a = absurd (false_true h)

pub as_clause : (s : Sort) (es : List Event) (x : Jumping) → is_clause s ≡ true → Within es x → Acts s es x
as_clause clause es x h a = a
as_clause _ es x h a = absurd (false_true h)

pub as_handler : (s : Sort) (es : List Event) (x : Jumping) → is_handler s ≡ true → Within es x → Acts s es x
as_handler handler es x h a = a
as_handler _ es x h a = absurd (false_true h)

pub as_body : (s : Sort) (es : List Event) (x : Jumping) → is_body s ≡ true → Within es x → Acts s es x
as_body body es x h a = a
as_body _ es x h a = absurd (false_true h)

pub as_bind : (s : Sort) (es : List Event) (x : Jumping) → is_bind s ≡ true → Inside es x → Acts s es x
as_bind bind es x h a = a
as_bind _ es x h a = absurd (false_true h)

pub as_expression : (s : Sort) (es : List Event) (x : Jumping) → is_expression s ≡ true → Inside es x → Acts s es x
as_expression expression es x h a = a
as_expression element es x h a = a
as_expression body es x h a = a.within
as_expression _ es x h a = absurd (false_true h)

pub as_element : (s : Sort) (es : List Event) (x : Jumping) → is_element s ≡ true → Inside es x → Acts s es x
as_element element es x h a = a
as_element _ es x h a = absurd (false_true h)

pub as_property : (s : Sort) (es : List Event) (x : Jumping) → is_property s ≡ true → Inside es x → Acts s es x
as_property property es x h a = a
as_property _ es x h a = absurd (false_true h)

pub as_spread : (s : Sort) (es : List Event) (x : Jumping) → (is_element s || is_property s) ≡ true → Inside es x
    → Acts s es x
as_spread element es x h a = a
as_spread property es x h a = a
as_spread _ es x h a = absurd (false_true h)

pub as_method : (s : Sort) (es : List Event) (x : Jumping) → is_method s ≡ true → Inside es x → Acts s es x
as_method method es x h a = a
as_method _ es x h a = absurd (false_true h)

pub as_key : (s : Sort) (es : List Event) (x : Jumping) → is_key s ≡ true → Inside es x → Acts s es x
as_key key es x h a = a
as_key _ es x h a = absurd (false_true h)

pub as_tail : (s : Sort) (es : List Event) (x : Jumping) → is_tail s ≡ true → Inside es x → Acts s es x
as_tail tail es x h a = a
as_tail _ es x h a = absurd (false_true h)

-- ---- trees, and lists of them

abbrev pub TreeActs : Tree → Type 0
TreeActs tree = (s : Sort) → fits_of tree s ≡ true → Acts s (heard (events_of tree)) (jumping_of tree)

abbrev pub Proved : Type 0
Proved = (tree : Tree) × TreeActs tree

abbrev pub trees : List Proved → List Tree
trees = map (λ e. e.0)

abbrev pub OneWithin : Proved → Type 0
OneWithin e = Within (heard (events_of e.0)) (jumping_of e.0)

abbrev pub OneInside : Proved → Type 0
OneInside e = Inside (heard (events_of e.0)) (jumping_of e.0)

abbrev pub AllWithin : List Proved → Type 0
AllWithin [] = Unit {0}
AllWithin (e ∷ more) = OneWithin e × AllWithin more

abbrev pub AllInside : List Proved → Type 0
AllInside [] = Unit {0}
AllInside (e ∷ more) = OneInside e × AllInside more

pub within_append : (ts us : List Proved) → AllWithin ts → AllWithin us → AllWithin (ts ++ us)
within_append [] us a b = b
within_append (e ∷ ts) us a b = (a.0, within_append ts us a.1 b)

pub inside_append : (ts us : List Proved) → AllInside ts → AllInside us → AllInside (ts ++ us)
inside_append [] us a b = b
inside_append (e ∷ ts) us a b = (a.0, inside_append ts us a.1 b)

pub inside_within : (ts : List Proved) → AllInside ts → AllWithin ts
inside_within [] a = tt
inside_within (e ∷ ts) a = (a.0.within, inside_within ts a.1)

pub one_within : (s : Sort) (e : Proved) → is_script s ≡ false → fits_of e.0 s ≡ true → OneWithin e
one_within s e i h = acts_within s (heard (events_of e.0)) (jumping_of e.0) i (e.1 s h)

pub one_inside : (s : Sort) (e : Proved) → is_inside s ≡ true → fits_of e.0 s ≡ true → OneInside e
one_inside s e i h = acts_inside s (heard (events_of e.0)) (jumping_of e.0) i (e.1 s h)

pub all_within : (s : Sort) (ts : List Proved) → is_script s ≡ false → all_fit s (map fits_of (trees ts)) ≡ true
    → AllWithin ts
all_within s [] i h = tt
all_within s (e ∷ ts) i h =
    (one_within s e i (and_left (fits_of e.0 s) _ h), all_within s ts i (and_right (fits_of e.0 s) _ h))

pub all_inside : (s : Sort) (ts : List Proved) → is_inside s ≡ true → all_fit s (map fits_of (trees ts)) ≡ true
    → AllInside ts
all_inside s [] i h = tt
all_inside s (e ∷ ts) i h =
    (one_inside s e i (and_left (fits_of e.0 s) _ h), all_inside s ts i (and_right (fits_of e.0 s) _ h))

pub told_within : (ts : List Proved) → AllWithin ts
    → Within (told_all (map heard (map events_of (trees ts)))) (all_beside (map jumping_of (trees ts)))
told_within [] a = within_none
told_within (e ∷ ts) a =
    within_both (heard (events_of e.0)) (told_all (map heard (map events_of (trees ts)))) (jumping_of e.0)
    (all_beside (map jumping_of (trees ts))) a.0 (told_within ts a.1)

pub beside_stays : (ts : List Proved) → AllInside ts → (all_beside (map jumping_of (trees ts))).leaving ≡ []
beside_stays [] a = refl
beside_stays (e ∷ ts) a =
    ap (λ ls. ls ++ (all_beside (map jumping_of (trees ts))).leaving) a.0.stays ∙ beside_stays ts a.1

pub told_inside : (ts : List Proved) → AllInside ts
    → Inside (told_all (map heard (map events_of (trees ts)))) (all_beside (map jumping_of (trees ts)))
told_inside ts a = record { within = told_within ts (inside_within ts a); stays = beside_stays ts a }

-- ---- the parts of a layer

pub optional_within : (s : Sort) (o : Option Proved) → is_script s ≡ false
    → all_fit s (node (map-Tree Tree Fits fits_of (map-Tree Proved Tree (λ e. e.0) (Tree-F.Return 0 o)))).children
    ≡ true
    → AllWithin (optional o)
optional_within s None i h = tt
optional_within s (Some e) i h = (one_within s e i (and_left (fits_of e.0 s) _ h), tt)

pub optional_inside : (s : Sort) (o : Option Proved) → is_inside s ≡ true
    → all_fit s (node (map-Tree Tree Fits fits_of (map-Tree Proved Tree (λ e. e.0) (Tree-F.Return 0 o)))).children
    ≡ true
    → AllInside (optional o)
optional_inside s None i h = tt
optional_inside s (Some e) i h = (one_inside s e i (and_left (fits_of e.0 s) _ h), tt)

children_twice : {A : Type 0} (f : Tree → A) (y : Tree-F Proved)
    → (node (map-Tree Tree A f (map-Tree Proved Tree (λ e. e.0) y))).children ≡ map f (trees (node y).children)
children_twice f y = children_map f (map-Tree Proved Tree (λ e. e.0) y) ∙ ap (map f) (children_map (λ e. e.0) y)

abbrev pub event_parts : Tree-F Proved → List (List Event)
event_parts y = (node (map-Tree Tree (List Event) events_of (map-Tree Proved Tree (λ e. e.0) y))).children

abbrev pub jumping_parts : Tree-F Proved → List Jumping
jumping_parts y = (node (map-Tree Tree Jumping jumping_of (map-Tree Proved Tree (λ e. e.0) y))).children

within_parts : (events : List (List Event)) (meant : List Jumping) (y : Tree-F Proved)
    → events ≡ map events_of (trees (node y).children) → meant ≡ map jumping_of (trees (node y).children)
    → AllWithin (node y).children → Within (told_all (map heard events)) (all_beside meant)
within_parts events meant y h i a = rw (h, i) (told_within (node y).children a)

inside_parts : (events : List (List Event)) (meant : List Jumping) (y : Tree-F Proved)
    → events ≡ map events_of (trees (node y).children) → meant ≡ map jumping_of (trees (node y).children)
    → AllInside (node y).children → Inside (told_all (map heard events)) (all_beside meant)
inside_parts events meant y h i a = rw (h, i) (told_inside (node y).children a)

pub parts_within : (y : Tree-F Proved) → AllWithin (node y).children
    → Within (told_all (map heard (event_parts y))) (all_beside (jumping_parts y))
parts_within y a = within_parts (event_parts y) (jumping_parts y) y (children_twice events_of y)
    (children_twice jumping_of y) a

pub parts_inside : (y : Tree-F Proved) → AllInside (node y).children
    → Inside (told_all (map heard (event_parts y))) (all_beside (jumping_parts y))
parts_inside y a = inside_parts (event_parts y) (jumping_parts y) y (children_twice events_of y)
    (children_twice jumping_of y) a
