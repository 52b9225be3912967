-- The errors of declarations that the events of a script tell are those of its tree.
use Rattle.std.proofs.Common.{Bool, ◌≡◌, ℕ, true, false, List, [], ◌∷◌, map, Some, None, refl, subst, sym}
use Rattle.std.proofs.Common.{ap, ◌∙◌}
use Rattle.hz_tree.specs.declared.scope.ScopeKind.TheVariants as scope
use Rattle.hz_tree.specs.declared.tree.FunctionForm.TheVariants as form
use Rattle.hz_tree.specs.declared.tree.Tree.{Tree, out-Tree, roll-Tree}
use Rattle.hz_tree.specs.declared.tree.Tree.TheOpen.{Tree-F}
use Rattle.hz_tree.specs.declared.tree.Tree.TheFolds.{fold-roll-Tree, fold_out-Tree, ind-Tree, map-Tree}
use Rattle.hz_tree.specs.grammar.Signals.{Event}
use Rattle.hz_tree.specs.sources.EarlyErrors.{order_of_early}
use Rattle.hz_tree.specs.sources.Kinds.{order_of_profile}
use Rattle.hz_tree.specs.sources.Least.{least_of}
use Rattle.hz_tree.specs.trees.Places.{node}
use Rattle.hz_tree.specs.trees.Events.{told_all, told_layer, events_of}
use Rattle.hz_tree.specs.errors.Declarations.{Declaration, Declaring, all_together, declaring_layer, declaring_of}
use Rattle.hz_tree.specs.errors.Scopes.{empty_scope}
use Rattle.hz_tree.specs.errors.Sources.{global_errors, script_declarations}
use Rattle.hz_early.specs.Events.{Known}
use Rattle.hz_laws.specs.Sorts.{Sort, script, statement, is_script, Fits, all_fit, fits_layer, fits_of}
use Rattle.hz_laws.proofs.Ranks.{and_left}
use Rattle.hz_laws.proofs.TreeLaws.{children_map, own_events, told_out}
use Rattle.hz_errors.specs.declared.declarations.Site.{Site}
use Rattle.hz_errors.specs.Declarations.{Declared, globals_noted, begun, after, of_script, declared_at}
use Rattle.hz_errors.proofs.DeclaredActs.{Acts, acts_none, acts_both, state, knows}
use Rattle.hz_errors.proofs.DeclaredHeard.{heard, after_heard, heard_all, heard_own, heard_layer}
use Rattle.hz_errors.proofs.DeclaredNames.{acts_none_bound, acts_bound, acts_block, acts_switch, acts_for}
use Rattle.hz_errors.proofs.DeclaredNames.{acts_for_declared, acts_catch, acts_function, acts_body}
use Rattle.hz_laws.proofs.Fits.{Fit, Parts, no_script, has_method_parts, first_part, more_parts, list, parts_fit}

-- ---- all trees but scripts

abbrev TreeActs : Tree → Type 0
TreeActs tree = (sort : Sort) → is_script sort ≡ false → fits_of tree sort ≡ true
    → Acts (heard (events_of tree)) (declaring_of tree)

abbrev Proved : Type 0
Proved = (tree : Tree) × TreeActs tree

abbrev trees : List Proved → List Tree
trees = map (λ e. e.0)

child : {may : Bool} (e : Proved) → Fit may (fits_of e.0) → Acts (heard (events_of e.0)) (declaring_of e.0)
child e h = e.1 h.sort (no_script h) h.holds

acts_all : {may : Bool} (ts : List Proved) → Parts may (map fits_of (trees ts))
    → Acts (told_all (map heard (map events_of (trees ts)))) (all_together (map declaring_of (trees ts)))
acts_all [] h = acts_none
acts_all (e ∷ more) h = acts_both (child e (first_part h)) (acts_all more (more_parts h))

children_twice : {A : Type 0} (f : Tree → A) (y : Tree-F Proved)
    → (node (map-Tree Tree A f (map-Tree Proved Tree (λ e. e.0) y))).children ≡ map f (trees (node y).children)
children_twice f y = children_map f (map-Tree Proved Tree (λ e. e.0) y) ∙ ap (map f) (children_map (λ e. e.0) y)

abbrev mapped : {A : Type 0} → (Tree → A) → Tree-F Proved → Tree-F A
mapped {A} f y = map-Tree Tree A f (map-Tree Proved Tree (λ e. e.0) y)

acts_children : {may : Bool} (events : List (List Event)) (within : List Declaring) (y : Tree-F Proved)
    → events ≡ map events_of (trees (node y).children) → within ≡ map declaring_of (trees (node y).children)
    → Parts may (map fits_of (trees (node y).children))
    → Acts (told_all (map heard events)) (all_together within)
acts_children events within y h i fit = rw (h, i) (acts_all (node y).children fit)

acts_parts : {may : Bool} (y : Tree-F Proved) → Parts may (node (mapped fits_of y)).children
    → Acts (told_all (map heard (node (mapped events_of y)).children))
    (all_together (node (mapped declaring_of y)).children)
acts_parts {may} y fit =
    acts_children (node (mapped events_of y)).children (node (mapped declaring_of y)).children y
    (children_twice events_of y) (children_twice declaring_of y) (subst (Parts may) (children_twice fits_of y) fit)

acts_own : {may : Bool} (y : Tree-F Proved) → Parts may (node (mapped fits_of y)).children → (sort : Sort)
    → is_script sort ≡ false → fits_layer (mapped fits_of y) sort ≡ true
    → Acts (heard_own (mapped events_of y)) (declaring_layer (mapped declaring_of y))
acts_own (Tree-F.Script at items) fit sort h i =
    let e : is_script sort ≡ true = and_left (is_script sort) (all_fit statement (map fits_of (trees items))) i in
    absurd (cc)
acts_own (Tree-F.Body at items) fit sort h i = acts_body at (acts_all items fit)
acts_own (Tree-F.Function at end form kind parameters rest body) fit sort h i =
    acts_function end form parameters rest (child body (first_part fit))
acts_own (Tree-F.Bind at word name None) fit sort h i = acts_none_bound word at name
acts_own (Tree-F.Bind at word name (Some value)) fit sort h i = acts_bound word at name (child value (first_part fit))
acts_own (Tree-F.Block at items end) fit sort h i = acts_block end (acts_all items fit)
acts_own (Tree-F.Switch at value brace clauses end) fit sort h i =
    acts_both (child value (first_part fit)) (acts_switch brace end (acts_all clauses (more_parts fit)))
acts_own (Tree-F.Catch at bound brace items end) fit sort h i = acts_catch at bound end (acts_all items fit)
acts_own (Tree-F.ForDeclared at word bound iteration over body end) fit sort h i =
    acts_for_declared end word bound (child over (first_part fit)) (child body (first_part (more_parts fit)))
acts_own (Tree-F.ForBinds at word binds test update body end) fit sort h i =
    acts_for end (acts_parts (Tree-F.ForBinds at word binds test update body end) fit)
acts_own y fit sort h i = acts_parts y fit

acts_layer : (y : Tree-F Proved) (sort : Sort) → is_script sort ≡ false
    → fits_layer (mapped fits_of y) sort ≡ true
    → Acts (heard (told_layer (mapped events_of y))) (declaring_layer (mapped declaring_of y))
acts_layer y sort h i =
    subst (λ es. Acts es (declaring_layer (mapped declaring_of y))) (sym (heard_layer (mapped events_of y)))
    (acts_own y (parts_fit (mapped fits_of y) sort i) sort h i)

acts_roll : (x : Tree-F Tree)
    → ((sort : Sort) → is_script sort ≡ false → fits_layer (map-Tree Tree Fits fits_of x) sort ≡ true
    → Acts (heard (told_layer (map-Tree Tree (List Event) events_of x)))
    (declaring_layer (map-Tree Tree Declaring declaring_of x)))
    → TreeActs (roll-Tree x)
unfolding events_of declaring_of fits_of
acts_roll x is sort h i =
    subst (λ d. Acts (heard (events_of (roll-Tree x))) d) (sym (fold-roll-Tree Declaring declaring_layer x))
    (subst (λ es. Acts (heard es) (declaring_layer (map-Tree Tree Declaring declaring_of x)))
    (sym (fold-roll-Tree (List Event) told_layer x))
    (is sort h (sym (ap (λ fits. fits sort) (fold-roll-Tree Fits fits_layer x)) ∙ i)))

tree_acts : (tree : Tree) → TreeActs tree
tree_acts =
    ind-Tree TreeActs (λ x y is. subst (λ z. TreeActs (roll-Tree z)) is
    (acts_roll (map-Tree Proved Tree (λ e. e.0) y) (acts_layer y)))

-- ---- scripts

items_act : {may : Bool} (items : List Tree) → Parts may (map fits_of items)
    → Acts (told_all (map heard (map events_of items))) (all_together (map declaring_of items))
items_act [] h = acts_none
items_act {may} (tree ∷ more) h =
    let fit : Fit may (fits_of tree) = first_part h in
    acts_both (tree_acts tree fit.sort (no_script fit) fit.holds) (items_act more (more_parts h))

abbrev script_site : Site
script_site = record { holds_vars = true; of_script = true }

all_of_script : (ds : List Declaration) → of_script script_site ds ≡ ds
all_of_script [] = refl
all_of_script (d ∷ ds) = ap (λ es. d ∷ es) (all_of_script ds)

abbrev script_known : Known
script_known = record { scopes = empty_scope scope.Script ∷ []; least = None }

abbrev script_state : Declaring → ℕ → Declared
script_state d bound =
    state (script_site ∷ []) (knows d.errors (map (declared_at script_site) d.declarations) script_known) bound
    (globals_noted script_site d.declarations None)

script_after : {may : Bool} (at : ℕ) (items : List Tree) (h : Parts may (map fits_of items))
    → after begun (own_events (Tree-F.Script at items))
    ≡ script_state (all_together (map declaring_of items)) ((items_act items h).bound 0)
script_after at items h =
    let told : List Event = told_all (map events_of items) in
    let open_script : Declared = state (script_site ∷ []) script_known 0 None in
    sym (after_heard told open_script)
    ∙ ap (after open_script) (heard_all (map events_of items))
    ∙ (items_act items h).acts script_site [] script_known 0 None

abbrev IsTold : Tree-F Tree → Type 0
IsTold x =
    ((after begun (own_events x)).known.least
    ≡ least_of order_of_early (declaring_layer (map-Tree Tree Declaring declaring_of x)).errors)
    × ((after begun (own_events x)).profile ≡ least_of order_of_profile (global_errors (script_declarations x)))

script_told : {may : Bool} (at : ℕ) (items : List Tree) → Parts may (map fits_of items) → IsTold (Tree-F.Script at items)
script_told at items h = (
  ap (λ d. d.known.least) (script_after at items h),
  ap (λ d. d.profile) (script_after at items h)
      ∙ ap (λ ds. least_of order_of_profile (global_errors ds))
      (all_of_script (all_together (map declaring_of items)).declarations),
)

layer_told : (x : Tree-F Tree) → fits_layer (map-Tree Tree Fits fits_of x) script ≡ true → IsTold x
layer_told (Tree-F.Script at items) h = script_told {may = true} at items (list statement (map fits_of items) refl h)
layer_told (Tree-F.Function at end (form.Declaration bound) kind parameters rest body) h = absurd (cc)
layer_told (Tree-F.Function at end (form.Expression name) kind parameters rest body) h = absurd (cc)
layer_told (Tree-F.Function at end form.Arrow kind parameters rest body) h = absurd (cc)
layer_told (Tree-F.Function at end form.Method kind parameters rest body) h = absurd (cc)
layer_told _ h = absurd (cc)

fits_out : (tree : Tree) → fits_of tree script ≡ fits_layer (map-Tree Tree Fits fits_of (out-Tree tree)) script
unfolding fits_of
fits_out tree = ap (λ fits. fits script) (fold_out-Tree Fits fits_layer tree)

declaring_out : (tree : Tree)
    → declaring_of tree ≡ declaring_layer (map-Tree Tree Declaring declaring_of (out-Tree tree))
unfolding declaring_of
declaring_out tree = fold_out-Tree Declaring declaring_layer tree

-- The least early error behind the events of a script is that of its tree ..
pub early_declared : (tree : Tree) → fits_of tree script ≡ true
    → (after begun (events_of tree)).known.least ≡ least_of order_of_early (declaring_of tree).errors
early_declared tree h =
    ap (λ es. (after begun es).known.least) (told_out tree)
    ∙ (layer_told (out-Tree tree) (sym (fits_out tree) ∙ h)).0
    ∙ ap (λ (d : Declaring). least_of order_of_early d.errors) (sym (declaring_out tree))

-- .. and so is that of the names that it may not declare.
pub globals_declared : (tree : Tree) → fits_of tree script ≡ true
    → (after begun (events_of tree)).profile
    ≡ least_of order_of_profile (global_errors (script_declarations (out-Tree tree)))
globals_declared tree h =
    ap (λ es. (after begun es).profile) (told_out tree)
    ∙ (layer_told (out-Tree tree) (sym (fits_out tree) ∙ h)).1
