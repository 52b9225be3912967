-- The tree of each function, in which the functions within are their numbers, and the tokens that are its own.
use Rattle.std.specs.Prelude.{ℕ, suc, ◌-◌, Bool, false, ◌&&◌, ◌==◌, nat_lt, nat_le, if◌then◌else◌, List, [], ◌∷◌, ◌++◌}
use Rattle.std.specs.Prelude.{length, map, Option, Some, None, option_map}
use Rattle.std.specs.List.{filter, count_by, sum_by}
use Rattle.hz_tree.specs.declared.function_tree.FunctionTree.{FunctionTree}
use Rattle.hz_tree.specs.declared.index.FunctionInfo.{FunctionInfo}
use Rattle.hz_tree.specs.declared.tree.Bound.{Bound}
use Rattle.hz_tree.specs.declared.tree.FunctionKind.{FunctionKind}
use Rattle.hz_tree.specs.declared.tree.FunctionKind.TheVariants as kind
use Rattle.hz_tree.specs.declared.tree.Rest.{Rest}
use Rattle.hz_tree.specs.declared.tree.Tree.{Tree, fold-Tree, roll-Tree}
use Rattle.hz_tree.specs.declared.tree.Tree.TheFolds.{map-Tree}
use Rattle.hz_tree.specs.declared.tree.Tree.TheOpen.{Tree-F}
use Rattle.hz_tree.specs.tokens.Text.{Text}
use Rattle.hz_tree.specs.tokens.Tokens.{tokens}
use Rattle.hz_tree.specs.trees.Places.{node}

-- The number of the function that starts at this place. Function 0 is the script; the others are numbered by where they
-- start.
abbrev pub number_at : List FunctionInfo → (place : ℕ) → ℕ
number_at [] place = 0
number_at (script ∷ others) place = suc (length (filter (λ f. nat_lt f.start place) others))

-- a tree with numbers in the place of functions, and the trees of these functions, in the order of their starts
pub record Cut : Type 0 where
  pub tree : Tree
  pub functions : List FunctionTree

abbrev pub all_functions : List Cut → List FunctionTree
all_functions [] = []
all_functions (first ∷ more) = first.functions ++ all_functions more

abbrev pub names_of : List Bound → List Text
names_of bounds = map (λ bound. bound.name) bounds

abbrev pub rest_name : Option Rest → Option Text
rest_name rest = option_map (λ r. r.bound.name) rest

abbrev pub cut_layer : List FunctionInfo → Tree-F Cut → Cut
cut_layer functions (Tree-F.Function at end form kind parameters rest body) =
    let number = number_at functions at in
    record {
      tree = roll-Tree (Tree-F.Inner at number form);
      functions = record {
        number = number;
        kind = kind;
        parameters = names_of parameters;
        rest = rest_name rest;
        body = body.tree;
      } ∷ body.functions;
    }
cut_layer functions layer = record {
  tree = roll-Tree (map-Tree Cut Tree (λ c. c.tree) layer);
  functions = all_functions (node layer).children;
}

unfoldable pub cut : List FunctionInfo → Tree → Cut
cut functions = fold-Tree Cut (cut_layer functions)

-- the trees of the functions of a script with this tree, where these are its functions
unfoldable pub function_trees : List FunctionInfo → Tree → List FunctionTree
function_trees functions script =
    let whole = cut functions script in
    record { number = 0; kind = kind.Script; parameters = []; rest = None; body = whole.tree } ∷ whole.functions

-- ---- tokens

-- how many tokens of a source begin in this part of it
unfoldable pub tokens_within : Text → (start end : ℕ) → ℕ
tokens_within source start end = count_by (λ t. nat_le start t.at && nat_lt t.at end) (tokens source)

-- whether a function stands in the one of this number, and in none between
abbrev pub stands_in : (k : ℕ) → FunctionInfo → Bool
stands_in k f = elim f.parent [ None ↦ false | Some parent ↦ parent == k ]

abbrev pub inner_tokens : Text → (k : ℕ) → FunctionInfo → ℕ
inner_tokens source k f = if stands_in k f then tokens_within source f.start f.end else 0

-- How many tokens are function k's own, which is f: those in its extent, but for those in the extents of the functions
-- that stand in it, which are parts of its own that do not meet. The last token, at the source's end, stands in none.
abbrev pub own_tokens : List FunctionInfo → Text → (k : ℕ) → FunctionInfo → ℕ
own_tokens functions source k f = tokens_within source f.start f.end - sum_by (inner_tokens source k) functions
