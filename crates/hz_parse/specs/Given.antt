-- What the symbols of a function or an expression leave on the stacks.
use Rattle.std.specs.Prelude.{◌≡◌, ℕ, ◌+◌, Bool, true, false, List, [], ◌∷◌, Option, Some, None}
use Rattle.hz_tree.specs.declared.function_tree.FunctionTree.{FunctionTree}
use Rattle.hz_tree.specs.declared.index.FunctionInfo.{FunctionInfo}
use Rattle.hz_tree.specs.declared.symbol.Symbol.{Symbol}
use Rattle.hz_tree.specs.declared.tree.Bound.{Bound}
use Rattle.hz_tree.specs.declared.tree.FunctionKind.{FunctionKind}
use Rattle.hz_tree.specs.declared.tree.Rest.{Rest}
use Rattle.hz_tree.specs.declared.tree.Tree.{Tree}
use Rattle.hz_tree.specs.grammar.Look.{Terminal}
use Rattle.hz_tree.specs.trees.FunctionTrees.{names_of, rest_name}
use Rattle.hz_cuts.specs.Cuts.{cut_parts}
use Rattle.hz_own.specs.Owned.{counted}
use Rattle.hz_parts.specs.declared.parts.Parts.{Parts as Stacks}
use Rattle.hz_parts.specs.Values.{nothing, push_parts}
use Rattle.hz_stands.specs.Stands.{Shape, arrowed}
use Rattle.hz_parse.specs.Whole.{Whole}

abbrev pub made_of : (functions : List FunctionInfo) → (right : List Symbol) → (ts : List Terminal)
    → Whole functions right ts → Stacks
made_of functions right ts w = push_parts false right (cut_parts functions right w.parts) nothing

-- the symbols are read up to what is left, and this is made, with one step for each token that stands in no function
abbrev pub ReadsParts : (functions : List FunctionInfo) → (right : List Symbol) → (ts rest : List Terminal)
    → (made : Stacks) → (before after : ℕ) → Type 0
ReadsParts functions right ts rest made before after =
    (w : Whole functions right ts)
    → (rest ≡ w.rest) × ((made ≡ made_of functions right ts w) × (after ≡ before + counted right w.counts))

-- ---- a function

abbrev pub function_tree : (number : ℕ) → FunctionKind → List Bound → Option Rest → Tree → FunctionTree
function_tree number kind bounds rest body = record {
  number = number;
  kind = kind;
  parameters = names_of bounds;
  rest = rest_name rest;
  body = body;
}

-- whether it has one parameter, which stands without parentheses
abbrev pub has_one_name : Shape → Bool
has_one_name (arrowed c false) = true
has_one_name _ = false

-- parameters, what may collect the rest, and a body lie on top
pub record ListGiven (p : Stacks) (bounds : List Bound) (rest : Option Rest) (body : Tree) : Type 0 where
  pub more : List (List Bound)
  pub rests : List (Option Rest)
  pub trees : List Tree
  pub bounds_are : p.bounds ≡ bounds ∷ more
  pub rests_are : p.rests ≡ rest ∷ rests
  pub trees_are : p.trees ≡ body ∷ trees

-- the only parameter and a body do
pub record NameGiven (p : Stacks) (bounds : List Bound) (rest : Option Rest) (body : Tree) : Type 0 where
  pub bound : Bound
  pub names : List (Option Bound)
  pub trees : List Tree
  pub names_are : p.names ≡ Some bound ∷ names
  pub trees_are : p.trees ≡ body ∷ trees
  pub one : bounds ≡ bound ∷ []
  pub none : rest ≡ None

abbrev pub Gives : (one_name : Bool) → (p : Stacks) → List Bound → Option Rest → Tree → Type 0
Gives true p bounds rest body = NameGiven p bounds rest body
Gives false p bounds rest body = ListGiven p bounds rest body
