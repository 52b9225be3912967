-- Where `this` and `new.target` stand in no function but arrows (ECMA-262, 8.5.1, 16.1.1).
use Rattle.std.specs.Prelude.{ℕ, List, [], ◌∷◌, ◌++◌}
use Rattle.hz_tree.specs.declared.tree.FunctionKind.{FunctionKind}
use Rattle.hz_tree.specs.declared.tree.FunctionKind.TheVariants as kind
use Rattle.hz_tree.specs.declared.tree.Tree.{Tree, fold-Tree}
use Rattle.hz_tree.specs.declared.tree.Tree.TheOpen.{Tree-F}
use Rattle.hz_tree.specs.trees.Places.{node}

-- the places of `this` and of `new.target` that mean those round the tree
pub record Receiving : Type 0 where
  pub this_at : List ℕ
  pub target_at : List ℕ

abbrev pub received : Receiving
received = record { this_at = []; target_at = [] }

abbrev pub all_received : List Receiving → Receiving
all_received [] = received
all_received (first ∷ more) =
    let rest = all_received more in
    record { this_at = first.this_at ++ rest.this_at; target_at = first.target_at ++ rest.target_at }

abbrev pub in_kind : FunctionKind → Receiving → Receiving
in_kind kind.Arrow body = body
in_kind _ body = received

abbrev pub receiving_layer : Tree-F Receiving → Receiving
receiving_layer (Tree-F.This at) = record { this_at = at ∷ []; target_at = [] }
receiving_layer (Tree-F.NewTarget at) = record { this_at = []; target_at = at ∷ [] }
receiving_layer (Tree-F.Function at end form kind parameters rest body) = in_kind kind body
receiving_layer layer = all_received (node layer).children

unfoldable pub receiving_of : Tree → Receiving
receiving_of = fold-Tree Receiving receiving_layer
