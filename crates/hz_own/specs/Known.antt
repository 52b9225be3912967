-- What is known of the functions in a tree by their numbers.
use Rattle.std.specs.Prelude.{◌≡◌, ℕ, suc, ◌≤◌, List, [], ◌∷◌, map, Some}
use Rattle.std.specs.List.{slice_get}
use Rattle.hz_tree.specs.declared.index.FunctionInfo.{FunctionInfo}
use Rattle.hz_tree.specs.trees.FunctionTrees.{number_at}
use Rattle.hz_stands.specs.Nodes.{FunctionNode}

-- the numbers rise, the first one from this one on
abbrev pub Rises : (from : ℕ) → List ℕ → Type 0
Rises from [] = Unit {0}
Rises from (x ∷ xs) = (from ≤ x) × Rises (suc x) xs

abbrev pub node_starts : List FunctionNode → List ℕ
node_starts functions = map (λ f. f.at) functions

-- the entry at the function's number is its own
pub record Known (functions : List FunctionInfo) (f : FunctionNode) : Type 0 where
  pub info : FunctionInfo
  pub found : slice_get functions (number_at functions f.at) ≡ Some info
  pub start : info.start ≡ f.at
  pub end : info.end ≡ f.end
  pub kind : info.kind ≡ f.kind
