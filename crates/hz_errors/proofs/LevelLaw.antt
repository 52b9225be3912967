-- Behind the events of a script the least error is the least of those of its tree.
use Rattle.std.proofs.Common.{◌≡◌, true, List, None, subst, ap, sym, ◌∙◌}
use Rattle.hz_tree.specs.declared.tree.Tree.{Tree, roll-Tree}
use Rattle.hz_tree.specs.declared.tree.Tree.TheOpen.{Tree-F}
use Rattle.hz_tree.specs.declared.tree.Tree.TheFolds.{fold-roll-Tree, ind-Tree, map-Tree}
use Rattle.hz_tree.specs.errors.Limits.{Depths, depths_layer, depths_of, deeper, limit_errors}
use Rattle.hz_tree.specs.grammar.Signals.{Event}
use Rattle.hz_tree.specs.sources.Kinds.{order_of_limit}
use Rattle.hz_tree.specs.sources.Least.{least_of}
use Rattle.hz_tree.specs.trees.Events.{told_layer, events_of}
use Rattle.hz_laws.specs.Sorts.{Sort, script, Fits, fits_layer, fits_of}
use Rattle.hz_errors.specs.Levels.{after, begun, least_in}
use Rattle.hz_errors.proofs.LevelActs.{noted_more, noted_commutes}
use Rattle.hz_errors.proofs.LevelTrees.{is_entry, Acts, TreeActs, inside}
use Rattle.hz_errors.proofs.LevelLayers.{layer_acts}

roll_acts : (x : Tree-F Tree)
    → ((wanted : Sort) → fits_layer (map-Tree Tree Fits fits_of x) wanted ≡ true
    → Acts (is_entry wanted) (told_layer (map-Tree Tree (List Event) events_of x))
    (depths_layer (map-Tree Tree Depths depths_of x)))
    → TreeActs (roll-Tree x)
unfolding events_of depths_of fits_of
roll_acts x h wanted fits =
    subst (λ es. Acts (is_entry wanted) es (depths_of (roll-Tree x))) (sym (fold-roll-Tree (List Event) told_layer x))
    (subst (λ d. Acts (is_entry wanted) (told_layer (map-Tree Tree (List Event) events_of x)) d)
    (sym (fold-roll-Tree Depths depths_layer x))
    (h wanted (sym (ap (λ fits. fits wanted) (fold-roll-Tree Fits fits_layer x)) ∙ fits)))

pub tree_acts : (tree : Tree) → TreeActs tree
tree_acts =
    ind-Tree TreeActs (λ x y is. subst (λ z. TreeActs (roll-Tree z)) is (roll_acts (inside y) (layer_acts y)))

pub least_of_levels : (tree : Tree) → fits_of tree script ≡ true
    → least_in (after begun (events_of tree)) ≡ least_of order_of_limit (limit_errors tree)
least_of_levels tree h =
    ap least_in ((tree_acts tree script h).acts begun)
    ∙ noted_commutes (depths_of tree).errors (deeper (depths_of tree).levels) None
    ∙ noted_more (deeper (depths_of tree).levels) (depths_of tree).errors None
