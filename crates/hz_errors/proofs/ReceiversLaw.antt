-- What is found along the events of a tree: where `this` and `new.target` stand in no function but arrows.
use Rattle.std.proofs.Common.{◌≡◌, ℕ, Bool, true, false, List, [], ◌∷◌, ◌++◌, map, refl, subst, ap, sym, ◌∙◌, ◌||◌}
use Rattle.std.proofs.Common.{cond}
use Rattle.std.proofs.lemmas.List.{map-append}
use Rattle.hz_tree.specs.declared.early.EarlyKind.{EarlyKind}
use Rattle.hz_tree.specs.declared.early.EarlyKind.TheVariants as early
use Rattle.hz_tree.specs.declared.profile.ProfileKind.{ProfileKind}
use Rattle.hz_tree.specs.declared.profile.ProfileKind.TheVariants as profile
use Rattle.hz_tree.specs.declared.signal.NodeKind.{NodeKind}
use Rattle.hz_tree.specs.declared.signal.Signal.TheVariants as tell
use Rattle.hz_tree.specs.declared.tree.FunctionKind.{FunctionKind}
use Rattle.hz_tree.specs.declared.tree.FunctionKind.TheVariants as kind
use Rattle.hz_tree.specs.declared.tree.Tree.{Tree, roll-Tree}
use Rattle.hz_tree.specs.declared.tree.Tree.TheOpen.{Tree-F}
use Rattle.hz_tree.specs.declared.tree.Tree.TheFolds.{fold-roll-Tree, ind-Tree, map-Tree}
use Rattle.hz_tree.specs.errors.Receivers.{Receiving as Meant, received, all_received, in_kind, receiving_layer}
use Rattle.hz_tree.specs.errors.Receivers.{receiving_of}
use Rattle.hz_tree.specs.grammar.Signals.{Event, Placed}
use Rattle.hz_tree.specs.sources.EarlyErrors.{order_of_early}
use Rattle.hz_tree.specs.sources.Kinds.{order_of_profile}
use Rattle.hz_tree.specs.sources.Least.{least_of}
use Rattle.hz_tree.specs.trees.Events.{told_all, node_of, told_layer, events_of}
use Rattle.hz_tree.specs.trees.Places.{node}
use Rattle.hz_laws.proofs.TreeLaws.{children_map}
use Rattle.hz_errors.specs.Found.{noted}
use Rattle.hz_errors.specs.Receivers.{Receiving, is_no_arrow, is_received, opens, closes, happens, after, begun}
use Rattle.hz_errors.proofs.Orders.{early_is_order, profile_is_order, noted_twice, noted_none}
use Rattle.hz_errors.proofs.ReceiversHeard.{heard, after_heard, own_function, heard_own, heard_layer}

after_append : (r : Receiving) (es fs : List Event) → after r (es ++ fs) ≡ after (after r es) fs
after_append r [] fs = refl
after_append r (e ∷ es) fs = after_append (happens r e) es fs

abbrev targets : List ℕ → List (EarlyKind × ℕ)
targets = map (λ at. (early.NewTarget, at))

abbrev thises : List ℕ → List (ProfileKind × ℕ)
thises = map (λ at. (profile.ScriptThis, at))

-- what stands in no function but arrows is found
abbrev found_in : Bool → Meant → Receiving → Receiving
found_in true meant r = r
found_in false meant r =
    record {
      opened = r.opened;
      early = noted order_of_early (targets meant.target_at) r.early;
      profile = noted order_of_profile (thises meant.this_at) r.profile;
    }

abbrev acted : Meant → Receiving → Receiving
acted meant r = found_in (is_received r.opened) meant r

-- What events do where what they tell means these.
record Acts (es : List Event) (meant : Meant) : Type 0 where
  act : (r : Receiving) → after r es ≡ acted meant r

none_found : (b : Bool) (r : Receiving) → r ≡ found_in b received r
none_found true r = refl
none_found false r =
    ap (λ e. record r { early = e }) (sym (noted_none order_of_early early_is_order r.early))
    ∙ ap (λ p. record { opened = r.opened; early = noted order_of_early [] r.early; profile = p })
    (sym (noted_none order_of_profile profile_is_order r.profile))

acts_none : Acts [] received
acts_none = record { act = λ r. none_found (is_received r.opened) r }

two_found : (b : Bool) (x : Meant) (more : List Meant) (r : Receiving)
    → found_in b (all_received more) (found_in b x r) ≡ found_in b (all_received (x ∷ more)) r
two_found true x more r = refl
two_found false x more r =
    ap (λ e. record {
      opened = r.opened;
      early = e;
      profile =
          noted order_of_profile (thises (all_received more).this_at)
          (noted order_of_profile (thises x.this_at) r.profile);
    }) (noted_twice order_of_early early_is_order (targets x.target_at) (targets (all_received more).target_at) r.early
    ∙ ap (λ es. noted order_of_early es r.early) (sym (map-append _ x.target_at (all_received more).target_at)))
    ∙ ap (λ p. record {
      opened = r.opened;
      early = noted order_of_early (targets (all_received (x ∷ more)).target_at) r.early;
      profile = p;
    }) (noted_twice order_of_profile profile_is_order (thises x.this_at) (thises (all_received more).this_at) r.profile
    ∙ ap (λ es. noted order_of_profile es r.profile) (sym (map-append _ x.this_at (all_received more).this_at)))

opened_same : (b : Bool) (x : Meant) (r : Receiving) → (found_in b x r).opened ≡ r.opened
opened_same true x r = refl
opened_same false x r = refl

acts_more : (es es' : List Event) (x : Meant) (more : List Meant) → Acts es x → Acts es' (all_received more)
    → Acts (es ++ es') (all_received (x ∷ more))
acts_more es es' x more h i = record {
  act = λ r.
      after_append r es es' ∙ ap (λ r. after r es') (h.act r) ∙ i.act (acted x r)
      ∙ ap (λ o. found_in (is_received o) (all_received more) (acted x r)) (opened_same (is_received r.opened) x r)
      ∙ two_found (is_received r.opened) x more r;
}

-- ---- functions

-- a function begins round what its body tells, and ends
abbrev in_open : Bool → Meant → Receiving → Receiving
in_open b x r = closes (found_in b x (record r { opened = b ∷ r.opened }))

arrow_ends : (b : Bool) (x : Meant) (r : Receiving) → in_open b x r ≡ found_in b x r
arrow_ends true x r = refl
arrow_ends false x r = refl

function_ends : (kind : FunctionKind) (x : Meant) (r : Receiving)
    → in_open (is_no_arrow kind || is_received r.opened) x r ≡ acted (in_kind kind x) r
function_ends kind.Arrow x r = arrow_ends (is_received r.opened) x r
function_ends _ x r = none_found (is_received r.opened) r

acts_function : (at end : ℕ) (node : NodeKind) (kind : FunctionKind) (body : List Event) (x : Meant) → Acts body x
    → Acts (own_function at end node kind body) (in_kind kind x)
acts_function at end node kind body x h = record {
  act = λ r.
      after_append (opens kind r) body (Placed tell.Close end ∷ [])
      ∙ ap (λ r. after r (Placed tell.Close end ∷ [])) (h.act (opens kind r))
      ∙ function_ends kind x r;
}

-- ---- all trees

this_found : (at : ℕ) (b : Bool) (r : Receiving)
    → record r { profile = cond b r.profile (noted order_of_profile ((profile.ScriptThis, at) ∷ []) r.profile) }
    ≡ found_in b (record { this_at = at ∷ []; target_at = [] }) r
this_found at true r = refl
this_found at false r =
    ap (λ e. record {
      opened = r.opened;
      early = e;
      profile = noted order_of_profile ((profile.ScriptThis, at) ∷ []) r.profile;
    }) (sym (noted_none order_of_early early_is_order r.early))

target_found : (at : ℕ) (b : Bool) (r : Receiving)
    → record r { early = cond b r.early (noted order_of_early ((early.NewTarget, at) ∷ []) r.early) }
    ≡ found_in b (record { this_at = []; target_at = at ∷ [] }) r
target_found at true r = refl
target_found at false r =
    ap (λ p. record {
      opened = r.opened;
      early = noted order_of_early ((early.NewTarget, at) ∷ []) r.early;
      profile = p;
    }) (sym (noted_none order_of_profile profile_is_order r.profile))

abbrev TreeActs : Tree → Type 0
TreeActs tree = Acts (heard (events_of tree)) (receiving_of tree)

abbrev Proved : Type 0
Proved = (tree : Tree) × TreeActs tree

abbrev trees : List Proved → List Tree
trees = map (λ e. e.0)

acts_all : (ts : List Proved)
    → Acts (told_all (map heard (map events_of (trees ts)))) (all_received (map receiving_of (trees ts)))
acts_all [] = acts_none
acts_all (e ∷ more) =
    acts_more (heard (events_of e.0)) (told_all (map heard (map events_of (trees more)))) (receiving_of e.0)
    (map receiving_of (trees more)) e.1 (acts_all more)

children_twice : {A : Type 0} (f : Tree → A) (y : Tree-F Proved)
    → (node (map-Tree Tree A f (map-Tree Proved Tree (λ e. e.0) y))).children ≡ map f (trees (node y).children)
children_twice f y = children_map f (map-Tree Proved Tree (λ e. e.0) y) ∙ ap (map f) (children_map (λ e. e.0) y)

acts_children : (events : List (List Event)) (meant : List Meant) (y : Tree-F Proved)
    → events ≡ map events_of (trees (node y).children) → meant ≡ map receiving_of (trees (node y).children)
    → Acts (told_all (map heard events)) (all_received meant)
acts_children events meant y h i = rw (h, i) (acts_all (node y).children)

acts_own : (y : Tree-F Proved)
    → Acts (heard_own (map-Tree Tree (List Event) events_of (map-Tree Proved Tree (λ e. e.0) y)))
    (receiving_layer (map-Tree Tree Meant receiving_of (map-Tree Proved Tree (λ e. e.0) y)))
acts_own (Tree-F.Function at end form kind parameters rest body) =
    acts_function at end (node_of form) kind (heard (events_of body.0)) (receiving_of body.0) body.1
acts_own (Tree-F.This at) = record { act = λ r. this_found at (is_received r.opened) r }
acts_own (Tree-F.NewTarget at) = record { act = λ r. target_found at (is_received r.opened) r }
acts_own y = acts_children _ _ y (children_twice events_of y) (children_twice receiving_of y)

acts_layer : (y : Tree-F Proved)
    → Acts (heard (told_layer (map-Tree Tree (List Event) events_of (map-Tree Proved Tree (λ e. e.0) y))))
    (receiving_layer (map-Tree Tree Meant receiving_of (map-Tree Proved Tree (λ e. e.0) y)))
acts_layer y =
    subst (λ es. Acts es (receiving_layer (map-Tree Tree Meant receiving_of (map-Tree Proved Tree (λ e. e.0) y))))
    (sym (heard_layer (map-Tree Tree (List Event) events_of (map-Tree Proved Tree (λ e. e.0) y)))) (acts_own y)

acts_roll : (x : Tree-F Tree) → Acts (heard (told_layer (map-Tree Tree (List Event) events_of x)))
    (receiving_layer (map-Tree Tree Meant receiving_of x)) → TreeActs (roll-Tree x)
unfolding events_of receiving_of
acts_roll x h = record {
  act = λ r.
      ap (λ es. after r (heard es)) (fold-roll-Tree (List Event) told_layer x) ∙ h.act r
      ∙ ap (λ meant. acted meant r) (sym (fold-roll-Tree Meant receiving_layer x));
}

tree_acts : (tree : Tree) → TreeActs tree
tree_acts =
    ind-Tree TreeActs (λ x y is. subst (λ z. TreeActs (roll-Tree z)) is
    (acts_roll (map-Tree Proved Tree (λ e. e.0) y) (acts_layer y)))

found : (tree : Tree) → after begun (events_of tree) ≡ found_in false (receiving_of tree) begun
found tree = sym (after_heard (events_of tree) begun) ∙ (tree_acts tree).act begun

-- `new.target` stands in functions that are no arrows, or in arrows within them (16.1.1)
pub early_is : (tree : Tree)
    → (after begun (events_of tree)).early
    ≡ least_of order_of_early (map (λ at. (early.NewTarget, at)) (receiving_of tree).target_at)
early_is tree = ap (λ r. r.early) (found tree)

-- and so does `this`
pub profile_is : (tree : Tree)
    → (after begun (events_of tree)).profile
    ≡ least_of order_of_profile (map (λ at. (profile.ScriptThis, at)) (receiving_of tree).this_at)
profile_is tree = ap (λ r. r.profile) (found tree)
