-- The trees of functions, and what the index has of them, are those of the functions in a tree.
use Rattle.std.proofs.Common.{◌≡◌, ℕ, suc, ◌+◌, List, [], ◌∷◌, ◌++◌, length, min, map, refl, ap, sym, ◌∙◌, subst}
use Rattle.std.proofs.lemmas.List.{map-append}
use Rattle.hz_tree.specs.declared.index.FunctionInfo.{FunctionInfo}
use Rattle.hz_tree.specs.declared.tree.Tree.{Tree, roll-Tree}
use Rattle.hz_tree.specs.declared.tree.Tree.TheOpen.{Tree-F}
use Rattle.hz_tree.specs.declared.tree.Tree.TheFolds.{fold-roll-Tree, ind-Tree, map-Tree}
use Rattle.hz_tree.specs.tokens.Text.{Text}
use Rattle.hz_tree.specs.trees.Functions.{Found, in_all, in_layer, found_in, functions_of}
use Rattle.hz_tree.specs.trees.FunctionTrees.{Cut, all_functions, cut_layer, cut, function_trees}
use Rattle.hz_tree.specs.trees.Places.{node}
use Rattle.hz_laws.proofs.TreeLaws.{children_map}
use Rattle.hz_cuts.specs.Cuts.{cut_tree}
use Rattle.hz_stands.specs.Nodes.{FunctionNode, Extent, nodes_of, tree_nodes, function_tree_of, extent_of_info}
use Rattle.hz_stands.specs.Nodes.{extent_of_node, script_tree, script_extent}
use Rattle.hz_stands.proofs.TreeNodes.{own_nodes, nodes_roll}

-- ---- trees of which something is proved

abbrev Proved : (Tree → Type 0) → Type 0
Proved P = (tree : Tree) × P tree

abbrev trees : (P : Tree → Type 0) → List (Proved P) → List Tree
trees P = map (λ e. e.0)

abbrev layer : (P : Tree → Type 0) → Tree-F (Proved P) → Tree-F Tree
layer P y = map-Tree (Proved P) Tree (λ e. e.0) y

children_twice : (P : Tree → Type 0) {A : Type 0} (f : Tree → A) (y : Tree-F (Proved P))
    → (node (map-Tree Tree A f (layer P y))).children ≡ map f (trees P (node y).children)
children_twice P f y = children_map f (layer P y) ∙ ap (map f) (children_map (λ e. e.0) y)

-- ---- trees of functions

abbrev HasTrees : List FunctionInfo → Tree → Type 0
HasTrees functions tree = (cut functions tree).functions ≡ map (function_tree_of functions) (nodes_of tree)

all_trees : (functions : List FunctionInfo) (es : List (Proved (HasTrees functions)))
    → all_functions (map (cut functions) (trees (HasTrees functions) es))
    ≡ map (function_tree_of functions) (tree_nodes (trees (HasTrees functions) es))
all_trees functions [] = refl
all_trees functions (e ∷ more) =
    ap (λ l. l ++ all_functions (map (cut functions) (trees (HasTrees functions) more))) e.1
    ∙ ap (λ l. map (function_tree_of functions) (nodes_of e.0) ++ l) (all_trees functions more)
    ∙ sym (map-append (function_tree_of functions) (nodes_of e.0) (tree_nodes (trees (HasTrees functions) more)))

layer_trees : (functions : List FunctionInfo) (y : Tree-F (Proved (HasTrees functions)))
    → (cut_layer functions (map-Tree Tree Cut (cut functions) (layer (HasTrees functions) y))).functions
    ≡ map (function_tree_of functions) (own_nodes (layer (HasTrees functions) y))
unfolding cut_tree
layer_trees functions (Tree-F.Function at end form kind parameters rest body) =
    let own : FunctionNode = record {
      at = at;
      end = end;
      form = form;
      kind = kind;
      parameters = parameters;
      rest = rest;
      body = body.0;
    } in
    ap (λ l. function_tree_of functions own ∷ l) body.1
layer_trees functions y =
    ap all_functions (children_twice (HasTrees functions) (cut functions) y)
    ∙ all_trees functions (node y).children
    ∙ ap (λ l. map (function_tree_of functions) (tree_nodes l)) (sym (children_map (λ e. e.0) y))

trees_roll : (functions : List FunctionInfo) (x : Tree-F Tree)
    → (cut_layer functions (map-Tree Tree Cut (cut functions) x)).functions
    ≡ map (function_tree_of functions) (own_nodes x) → HasTrees functions (roll-Tree x)
unfolding cut
trees_roll functions x h =
    ap (λ c. c.functions) (fold-roll-Tree Cut (cut_layer functions) x)
    ∙ h ∙ ap (map (function_tree_of functions)) (sym (nodes_roll x))

cut_functions : (functions : List FunctionInfo) (tree : Tree) → HasTrees functions tree
cut_functions functions =
    ind-Tree (HasTrees functions) (λ x y is. subst (λ z. HasTrees functions (roll-Tree z)) is
    (trees_roll functions (layer (HasTrees functions) y) (layer_trees functions y)))

-- The trees of the functions of a script are those of the functions in its tree, behind that of the script.
pub trees_are : (functions : List FunctionInfo) (script : Tree)
    → function_trees functions script
    ≡ script_tree functions script ∷ map (function_tree_of functions) (nodes_of script)
unfolding function_trees cut_tree
trees_are functions script = ap (λ l. script_tree functions script ∷ l) (cut_functions functions script)

-- ---- what the index has of functions

abbrev HasExtents : Tree → Type 0
HasExtents tree =
    (parent next : ℕ) → map extent_of_info (found_in tree parent next) ≡ map extent_of_node (nodes_of tree)

all_extents : (es : List (Proved HasExtents)) (parent next : ℕ)
    → map extent_of_info (in_all (map found_in (trees HasExtents es)) parent next)
    ≡ map extent_of_node (tree_nodes (trees HasExtents es))
all_extents [] parent next = refl
all_extents (e ∷ more) parent next =
    let found = found_in e.0 parent next in
    let others = in_all (map found_in (trees HasExtents more)) parent (next + length found) in
    map-append extent_of_info found others
    ∙ ap (λ l. l ++ map extent_of_info others) (e.1 parent next)
    ∙ ap (λ l. map extent_of_node (nodes_of e.0) ++ l) (all_extents more parent (next + length found))
    ∙ sym (map-append extent_of_node (nodes_of e.0) (tree_nodes (trees HasExtents more)))

layer_extents : (y : Tree-F (Proved HasExtents)) (parent next : ℕ)
    → map extent_of_info (in_layer (map-Tree Tree Found found_in (layer HasExtents y)) parent next)
    ≡ map extent_of_node (own_nodes (layer HasExtents y))
layer_extents (Tree-F.Function at end form kind parameters rest body) parent next =
    let own : Extent = record { start = at; end = end; kind = kind; length = min (length parameters) 255 } in
    ap (λ l. own ∷ l) (body.1 next (suc next))
layer_extents y parent next =
    ap (λ l. map extent_of_info (in_all l parent next)) (children_twice HasExtents found_in y)
    ∙ all_extents (node y).children parent next
    ∙ ap (λ l. map extent_of_node (tree_nodes l)) (sym (children_map (λ e. e.0) y))

extents_roll : (x : Tree-F Tree)
    → ((parent next : ℕ) → map extent_of_info (in_layer (map-Tree Tree Found found_in x) parent next)
    ≡ map extent_of_node (own_nodes x)) → HasExtents (roll-Tree x)
unfolding found_in
extents_roll x h parent next =
    ap (λ found. map extent_of_info (found parent next)) (fold-roll-Tree Found in_layer x)
    ∙ h parent next ∙ ap (map extent_of_node) (sym (nodes_roll x))

found_extents : (tree : Tree) → HasExtents tree
found_extents =
    ind-Tree HasExtents (λ x y is. subst (λ z. HasExtents (roll-Tree z)) is
    (extents_roll (layer HasExtents y) (layer_extents y)))

-- The functions of a script are those in its tree, behind the script.
pub extents_are : (source : Text) (script : Tree)
    → map extent_of_info (functions_of source script) ≡ script_extent source ∷ map extent_of_node (nodes_of script)
unfolding functions_of
extents_are source script = ap (λ l. script_extent source ∷ l) (found_extents script 0 1)
