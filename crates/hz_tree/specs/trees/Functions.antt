-- The functions of a tree, in the order of the places at which they start.
use Rattle.std.specs.Prelude.{ℕ, suc, ◌+◌, List, [], ◌∷◌, ◌++◌, length, Some, None, min}
use Rattle.hz_tree.specs.declared.index.FunctionInfo.{FunctionInfo}
use Rattle.hz_tree.specs.declared.tree.FunctionKind.{FunctionKind}
use Rattle.hz_tree.specs.declared.tree.FunctionKind.TheVariants as kind
use Rattle.hz_tree.specs.declared.tree.Tree.{Tree, fold-Tree}
use Rattle.hz_tree.specs.declared.tree.Tree.TheOpen.{Tree-F}
use Rattle.hz_tree.specs.trees.Places.{node}
use Rattle.hz_tree.specs.tokens.Text.{Text}

-- The functions in a tree, where the function round it has the number `parent` and the next number is `next`.
abbrev pub Found : Type 0
Found = (parent next : ℕ) → List FunctionInfo

abbrev pub found_none : Found
found_none parent next = []

-- the functions of one tree and then those of another
abbrev pub found_both : Found → Found → Found
found_both first second parent next =
    let found = first parent next in found ++ second parent (next + length found)

abbrev pub in_all : List Found → Found
in_all [] = found_none
in_all (first ∷ more) = found_both first (in_all more)

abbrev pub in_function : (start end : ℕ) → FunctionKind → (parameters : ℕ) → (body : Found) → Found
in_function start end kind parameters body parent next =
    record { start = start; end = end; kind = kind; length = min parameters 255; parent = Some parent } ∷ body next
    (suc next)

abbrev pub in_layer : Tree-F Found → Found
in_layer (Tree-F.Function at end form kind parameters rest body) = in_function at end kind (length parameters) body
in_layer layer = in_all (node layer).children

unfoldable pub found_in : Tree → Found
found_in = fold-Tree Found in_layer

-- The functions of a script with this tree. The script is function 0, and its extent is the whole source.
unfoldable pub functions_of : Text → Tree → List FunctionInfo
functions_of source tree =
    record { start = 0; end = length source; kind = kind.Script; length = 0; parent = None } ∷ found_in tree 0 1
