-- The functions in a tree, from those in the trees in it.
use Rattle.std.proofs.Common.{◌≡◌, List, [], ◌∷◌, ◌++◌, map, refl, ap, sym, ◌∙◌}
use Rattle.std.proofs.Common.{append_assoc}
use Rattle.std.proofs.lemmas.Simd.{map-map}
use Rattle.hz_tree.specs.declared.tree.Tree.{Tree, roll-Tree, out-Tree, roll-out-Tree}
use Rattle.hz_tree.specs.declared.tree.Tree.TheFolds.{para-roll-Tree, map-Tree}
use Rattle.hz_tree.specs.declared.tree.Tree.TheOpen.{Tree-F}
use Rattle.hz_tree.specs.trees.Places.{node}
use Rattle.hz_laws.proofs.TreeLaws.{children_map}
use Rattle.hz_stands.specs.Nodes.{FunctionNode, all_nodes, nodes_layer, nodes_of, tree_nodes}

abbrev pub own_nodes : Tree-F Tree → List FunctionNode
own_nodes (Tree-F.Function at end form kind parameters rest body) = record {
  at = at;
  end = end;
  form = form;
  kind = kind;
  parameters = parameters;
  rest = rest;
  body = body;
} ∷ nodes_of body
own_nodes layer = tree_nodes (node layer).children

abbrev with_nodes : Tree → Tree × List FunctionNode
with_nodes tree = (tree, nodes_of tree)

layer_nodes : (x : Tree-F Tree) → nodes_layer (map-Tree Tree (Tree × List FunctionNode) with_nodes x) ≡ own_nodes x
layer_nodes (Tree-F.Function at end form kind parameters rest body) = refl
layer_nodes x =
    ap (λ l. all_nodes (map (λ e. e.1) l)) (children_map with_nodes x)
    ∙ ap all_nodes (map-map (λ e. e.1) with_nodes (node x).children)

pub nodes_roll : (x : Tree-F Tree) → nodes_of (roll-Tree x) ≡ own_nodes x
unfolding nodes_of
nodes_roll x = para-roll-Tree (List FunctionNode) nodes_layer x ∙ layer_nodes x

pub nodes_out : (tree : Tree) → nodes_of tree ≡ own_nodes (out-Tree tree)
nodes_out tree = ap nodes_of (sym (roll-out-Tree tree)) ∙ nodes_roll (out-Tree tree)

-- the same before others
pub nodes_next : (tree : Tree) (more : List FunctionNode) → nodes_of tree ++ more ≡ own_nodes (out-Tree tree) ++ more
nodes_next tree more = ap (λ l. l ++ more) (nodes_out tree)

pub nodes_append : (xs ys : List Tree) → tree_nodes (xs ++ ys) ≡ tree_nodes xs ++ tree_nodes ys
nodes_append [] ys = refl
nodes_append (x ∷ xs) ys =
    ap (λ l. nodes_of x ++ l) (nodes_append xs ys) ∙ sym (append_assoc (nodes_of x) (tree_nodes xs) (tree_nodes ys))
