-- The events of a script find the least of its errors of operands, and whether it says "use strict".
use Rattle.std.proofs.Common.{◌≡◌, true, List, subst, sym}
use Rattle.std.specs.List.{list_any}
use Rattle.hz_tree.specs.declared.tree.Tree.{Tree, roll-Tree}
use Rattle.hz_tree.specs.declared.tree.Tree.TheOpen.{Tree-F}
use Rattle.hz_tree.specs.declared.tree.Tree.TheFolds.{fold-roll-Tree, ind-Tree, map-Tree}
use Rattle.hz_tree.specs.grammar.Signals.{Event}
use Rattle.hz_tree.specs.sources.EarlyErrors.{order_of_early}
use Rattle.hz_tree.specs.sources.Kinds.{order_of_profile}
use Rattle.hz_tree.specs.sources.Least.{least_of}
use Rattle.hz_tree.specs.errors.Targets.{is_use_strict}
use Rattle.hz_tree.specs.trees.Events.{told_layer, events_of}
use Rattle.hz_tree.specs.errors.Targets.{Meaning, meaning_layer, meaning_of}
use Rattle.hz_laws.specs.Sorts.{script, Fits, fits_layer, fits_of}
use Rattle.hz_errors.specs.Operands.{after, begun, is_strict}
use Rattle.hz_errors.proofs.OperandSorts.{Sorted, SortedTree, Tells}
use Rattle.hz_errors.proofs.OperandTrees.{SortedLayer, trees_of, sorted_layer}

sorted_roll : (x : Tree-F Tree) → SortedLayer x → SortedTree (roll-Tree x)
unfolding events_of meaning_of fits_of
sorted_roll x h =
    subst (λ es. Sorted es (meaning_of (roll-Tree x)) (fits_of (roll-Tree x)))
    (sym (fold-roll-Tree (List Event) told_layer x))
    (subst (λ m. Sorted (told_layer (map-Tree Tree (List Event) events_of x)) m (fits_of (roll-Tree x)))
    (sym (fold-roll-Tree Meaning meaning_layer x))
    (subst (λ fits. Sorted (told_layer (map-Tree Tree (List Event) events_of x))
    (meaning_layer (map-Tree Tree Meaning meaning_of x)) fits)
    (sym (fold-roll-Tree Fits fits_layer x)) h))

-- what the events of a tree do, where it can stand
pub sorted_tree : (tree : Tree) → SortedTree tree
sorted_tree =
    ind-Tree SortedTree
    (λ x y is. subst (λ z. SortedTree (roll-Tree z)) is (sorted_roll (trees_of y) (sorted_layer y)))

pub operands_law : (tree : Tree) → fits_of tree script ≡ true → Tells (events_of tree) (meaning_of tree)
operands_law tree h = sorted_tree tree script h

pub early_of_operands : (tree : Tree) → fits_of tree script ≡ true
    → (after begun (events_of tree)).early ≡ least_of order_of_early (meaning_of tree).errors.early
early_of_operands tree h = (operands_law tree h).early

pub profile_of_operands : (tree : Tree) → fits_of tree script ≡ true
    → (after begun (events_of tree)).profile ≡ least_of order_of_profile (meaning_of tree).errors.profile
profile_of_operands tree h = (operands_law tree h).profile

pub strict_of_operands : (tree : Tree) → fits_of tree script ≡ true
    → is_strict (after begun (events_of tree))
    ≡ list_any (λ d. is_use_strict d.written) (meaning_of tree).directives
strict_of_operands tree h = (operands_law tree h).strict
