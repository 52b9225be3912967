-- What a tree's cut is, from the cuts of the trees in it.
use Rattle.std.proofs.Common.{◌≡◌, List, Some, None, refl, ap, ◌∙◌, rules}
use Rattle.std.proofs.lemmas.Simd.{map-map}
use Rattle.hz_tree.specs.declared.index.FunctionInfo.{FunctionInfo}
use Rattle.hz_tree.specs.declared.tree.Tree.{Tree, roll-Tree, out-Tree, out-roll-Tree, fold_out-Tree, map-Tree}
use Rattle.hz_tree.specs.declared.tree.Tree.TheOpen.{Tree-F}
use Rattle.hz_tree.specs.trees.FunctionTrees.{Cut, cut_layer, cut, number_at}
use Rattle.hz_tree.specs.trees.Places.{node, place}
use Rattle.hz_cuts.specs.Cuts.{cut_tree}

-- the layer of a tree's cut
abbrev pub own_cut : List FunctionInfo → Tree-F Tree → Tree-F Tree
own_cut functions (Tree-F.Function at end form kind parameters rest body) =
    Tree-F.Inner at (number_at functions at) form
own_cut functions layer = map-Tree Tree Tree (cut_tree functions) layer

layer_cut : (functions : List FunctionInfo) (x : Tree-F Tree)
    → (cut_layer functions (map-Tree Tree Cut (cut functions) x)).tree ≡ roll-Tree (own_cut functions x)
unfolding cut_tree
layer_cut functions (Tree-F.Bind at word name None) = refl
layer_cut functions (Tree-F.If at test body None) = refl
layer_cut functions (Tree-F.Return at None) = refl
layer_cut functions (Tree-F.Yield at delegates None) = refl
layer_cut functions (Tree-F.Try at block None None) = refl
layer_cut functions (Tree-F.Try at block (Some handler) None) = refl
layer_cut functions (Tree-F.ForBinds at word binds None None body end) = simp map-map
layer_cut functions (Tree-F.ForBinds at word binds (Some test) None body end) = simp map-map
layer_cut functions (Tree-F.ForExpr at None None None body) = refl
layer_cut functions (Tree-F.ForExpr at None (Some test) None body) = refl
layer_cut functions (Tree-F.ForExpr at (Some first) None None body) = refl
layer_cut functions (Tree-F.ForExpr at (Some first) (Some test) None body) = refl
layer_cut functions (Tree-F.New at callee members None) = simp map-map
layer_cut functions (Tree-F.Function at end form kind parameters rest body) = refl
layer_cut functions _ = first_of (simp map-map, search rules)

pub cut_out : (functions : List FunctionInfo) (tree : Tree)
    → cut_tree functions tree ≡ roll-Tree (own_cut functions (out-Tree tree))
unfolding cut_tree cut
cut_out functions tree =
    ap (λ c. c.tree) (fold_out-Tree Cut (cut_layer functions) tree) ∙ layer_cut functions (out-Tree tree)

own_place : (functions : List FunctionInfo) (x : Tree-F Tree) → (node (own_cut functions x)).at ≡ (node x).at
own_place functions (Tree-F.Function at end form kind parameters rest body) = refl
own_place functions _ = refl

-- Functions that are cut out leave a tree where it is.
pub cut_place : (functions : List FunctionInfo) (tree : Tree) → place (cut_tree functions tree) ≡ place tree
cut_place functions tree =
    let layer = own_cut functions (out-Tree tree) in
    ap place (cut_out functions tree) ∙ ap (λ x. (node x).at) (out-roll-Tree layer)
    ∙ own_place functions (out-Tree tree)
