-- What is known of scopes behind the events of a script is what its tree means.
use Rattle.std.proofs.Common.{◌≡◌, List, length, set, subst, sym, ap}
use Rattle.hz_tree.specs.declared.tree.Tree.{Tree, roll-Tree}
use Rattle.hz_tree.specs.declared.tree.Tree.TheOpen.{Tree-F}
use Rattle.hz_tree.specs.declared.tree.Tree.TheFolds.{fold-roll-Tree, ind-Tree, map-Tree}
use Rattle.hz_tree.specs.grammar.Signals.{Event}
use Rattle.hz_tree.specs.tokens.Text.{Text}
use Rattle.hz_tree.specs.trees.Events.{told_layer, events_of}
use Rattle.hz_tree.specs.trees.FunctionScopes.{Scoping, scoping_layer, scoping_of, function_scopes_of}
use Rattle.hz_scopes.specs.State.{Known, begun, after, finished, of_body}
use Rattle.hz_scopes.proofs.Does.{Does}
use Rattle.hz_scopes.proofs.Layers.{TreeDoes, Proved, layer}

rolled : (x : Tree-F Tree)
    → Does (told_layer (map-Tree Tree (List Event) events_of x)) (scoping_layer (map-Tree Tree Scoping scoping_of x))
    → TreeDoes (roll-Tree x)
unfolding events_of scoping_of
rolled x h =
    subst (Does (events_of (roll-Tree x))) (sym (fold-roll-Tree Scoping scoping_layer x))
    (subst (λ es. Does es (scoping_layer (map-Tree Tree Scoping scoping_of x)))
    (sym (fold-roll-Tree (List Event) told_layer x)) h)

tree_does : (tree : Tree) → TreeDoes tree
tree_does =
    ind-Tree TreeDoes (λ x y is. subst (λ z. TreeDoes (roll-Tree z)) is
    (rolled (map-Tree Proved Tree (λ e. e.0) y) (layer y)))

pub scopes_found : (source : Text) (tree : Tree)
    → finished (length source) (after begun (events_of tree)) ≡ function_scopes_of source tree
unfolding function_scopes_of
scopes_found source tree =
    ap (λ (k : Known). set k.functions k.body.number (of_body (length source) k.body)) ((tree_does tree).known begun)
