-- The trees in a tree, and its events.
use Rattle.std.proofs.Common.{◌≡◌, List, [], ◌∷◌, ◌++◌, map, Some, None, refl, ap, sym, ◌∙◌, append_assoc}
use Rattle.std.proofs.lemmas.List.{map-append}
use Rattle.hz_tree.specs.declared.tree.Tree.{Tree, out-Tree}
use Rattle.hz_tree.specs.declared.tree.Tree.TheOpen.{Tree-F}
use Rattle.hz_tree.specs.declared.tree.Tree.TheFolds.{fold_out-Tree, map-Tree}
use Rattle.hz_tree.specs.grammar.Signals.{Event}
use Rattle.hz_tree.specs.trees.Places.{node}
use Rattle.hz_tree.specs.trees.Events.{told_all, told_layer, events_of}

-- A change of the trees in a layer is one of its children.
pub children_map : {A B : Type 0} (f : A → B) (x : Tree-F A)
    → (node (map-Tree A B f x)).children ≡ map f (node x).children
children_map f (Tree-F.Bind at word name None) = refl
children_map f (Tree-F.If at test body None) = refl
children_map f (Tree-F.Return at None) = refl
children_map f (Tree-F.Try at block None None) = refl
children_map f (Tree-F.Try at block (Some handler) None) = refl
children_map f (Tree-F.ForBinds at word binds None None body end) = simp map-append
children_map f (Tree-F.ForBinds at word binds (Some test) None body end) = simp map-append
children_map f (Tree-F.ForBinds at word binds _ _ body end) = simp map-append
children_map f (Tree-F.ForExpr at None None None body) = refl
children_map f (Tree-F.ForExpr at None (Some test) None body) = refl
children_map f (Tree-F.ForExpr at (Some first) None None body) = refl
children_map f (Tree-F.ForExpr at (Some first) (Some test) None body) = refl
children_map f (Tree-F.Yield at delegates None) = refl
children_map f (Tree-F.New at callee members None) = simp map-append
children_map f (Tree-F.New at callee members _) = simp map-append
children_map f _ = refl

abbrev pub told_trees : List Tree → List Event
told_trees trees = told_all (map events_of trees)

-- The events of a tree, from those of the trees in it.
abbrev pub own_events : Tree-F Tree → List Event
own_events x = told_layer (map-Tree Tree (List Event) events_of x)

pub told_out : (tree : Tree) → events_of tree ≡ own_events (out-Tree tree)
unfolding events_of
told_out tree = fold_out-Tree (List Event) told_layer tree

-- the same before other events
pub told_next : (tree : Tree) (more : List Event) → events_of tree ++ more ≡ own_events (out-Tree tree) ++ more
told_next tree more = ap (λ es. es ++ more) (told_out tree)

pub told_append : (xs ys : List Tree) → told_trees (xs ++ ys) ≡ told_trees xs ++ told_trees ys
told_append [] ys = refl
told_append (x ∷ xs) ys =
    ap (λ es. events_of x ++ es) (told_append xs ys) ∙ sym (append_assoc (events_of x) (told_trees xs) (told_trees ys))
