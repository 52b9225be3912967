-- The trees of the functions of a source, and how many tokens are their own.
use Rattle.std.specs.Prelude.{◌≡◌, ℕ, ◌+◌, Bool, true, false, List, [], ◌∷◌, Some, None}
use Rattle.std.specs.List.{slice_get}
use Rattle.std.specs.Option.{option_map}
use Rattle.hz_tree.specs.declared.function_tree.FunctionTree.{FunctionTree}
use Rattle.hz_tree.specs.declared.index.FunctionInfo.{FunctionInfo}
use Rattle.hz_tree.specs.declared.nonterminal.Context.{Context}
use Rattle.hz_tree.specs.declared.nonterminal.Nonterminal.TheVariants as n
use Rattle.hz_tree.specs.declared.signal.NodeKind.TheVariants as node
use Rattle.hz_tree.specs.declared.signal.Signal.TheVariants as tell
use Rattle.hz_tree.specs.declared.symbol.Symbol.{Symbol}
use Rattle.hz_tree.specs.declared.symbol.Symbol.TheVariants as s
use Rattle.hz_tree.specs.declared.tree.FunctionKind.{FunctionKind}
use Rattle.hz_tree.specs.declared.tree.FunctionKind.TheVariants as kind
use Rattle.hz_tree.specs.declared.tree.Tree.{Tree}
use Rattle.hz_tree.specs.declared.tree.Tree.TheVariants as t
use Rattle.hz_tree.specs.grammar.Look.{Terminal, look, terminals}
use Rattle.hz_tree.specs.grammar.Symbols.{Parts, Value, assignment, of_script}
use Rattle.hz_tree.specs.reading.Reading.{Got, Reading, reads}
use Rattle.hz_tree.specs.sources.Refusals.{functions as functions_in}
use Rattle.hz_tree.specs.tokens.Text.{Text}
use Rattle.hz_tree.specs.trees.Functions.{functions_of}
use Rattle.hz_tree.specs.trees.FunctionTrees.{function_trees, own_tokens}
use Rattle.hz_cuts.specs.Cuts.{cut_tree, cut_trees}
use Rattle.hz_own.specs.Owned.{counted}
use Rattle.hz_stands.specs.Plain.{shape_by}
use Rattle.hz_stands.specs.Stands.{Given, Shape, written}
use Rattle.hz_parse.specs.Given.{function_tree}
use Rattle.hz_parse.specs.Whole.{Whole}

abbrev pub trees_by : Text → Reading Tree → List FunctionTree
trees_by source (Got tree rest) = function_trees (functions_of source tree) tree
trees_by source _ = []

-- the trees of the functions of a source that is not refused, by their numbers
unfoldable pub trees_in : Text → List FunctionTree
trees_in source = trees_by source (reads n.Script (terminals source))

-- It is the tree of the function with this number, and one step was taken for each token that is the function's own.
pub record Parsed (source : Text) (k : ℕ) (tree : FunctionTree) (before after : ℕ) : Type 0 where
  pub found : slice_get (trees_in source) k ≡ Some tree
  pub steps : option_map (λ info. before + own_tokens (functions_in source) source k info)
      (slice_get (functions_in source) k) ≡ Some after

-- ---- one function that is read from where it starts

abbrev pub symbols_by : FunctionKind → List Terminal → Shape
symbols_by kind ts = shape_by kind (look ts).one

abbrev pub of_given : List FunctionInfo → (number : ℕ) → FunctionKind → Given → FunctionTree
of_given functions number kind given =
    function_tree number kind given.parameters given.rest (cut_tree functions given.body)

-- what is read in this way gives this tree, and so many steps are taken
abbrev pub Reads : (functions : List FunctionInfo) → (number : ℕ) → FunctionKind → (ts : List Terminal)
    → (tree : FunctionTree) → (before after : ℕ) → Shape → Type 0
Reads functions number kind ts tree before after shape =
    (w : Whole functions (written shape).symbols ts)
    → (tree ≡ of_given functions number kind ((written shape).given w.parts))
    × (after ≡ before + counted (written shape).symbols w.counts)

-- ---- the script

-- its items; the end of the source is left
abbrev pub script_symbols : List Symbol
script_symbols = s.Tell (tell.Begin node.Body) ∷ s.Read (n.Items of_script) ∷ []

abbrev pub script_of : List FunctionInfo → Parts Value script_symbols → FunctionTree
script_of functions parts = record {
  number = 0;
  kind = kind.Script;
  parameters = [];
  rest = None;
  body = t.Script parts.0.at (cut_trees functions parts.1.0);
}

abbrev pub ReadsScript : (functions : List FunctionInfo) → (ts : List Terminal) → (tree : FunctionTree)
    → (before after : ℕ) → Type 0
ReadsScript functions ts tree before after =
    (w : Whole functions script_symbols ts)
    → (tree ≡ script_of functions w.parts) × (after ≡ before + counted script_symbols w.counts)

-- ---- an expression of a function

abbrev pub is_generator : FunctionKind → Bool
is_generator kind.Generator = true
is_generator _ = false

abbrev pub in_function : FunctionKind → Bool
in_function kind.Script = false
in_function _ = true

-- the parameters of the rules for an expression that stands in a function of the kind
abbrev pub context_in : FunctionKind → (no_in : Bool) → Context
context_in kind no_in = record { returns = in_function kind; yields = is_generator kind; no_in = no_in }

pub record Expression : Type 0 where
  pub symbols : List Symbol
  pub given : Parts Value symbols → Tree

-- an expression, or one that has no comma outside of brackets
abbrev pub expression : (whole : Bool) → Context → Expression
expression true c = record { symbols = s.Read (n.Expr c) ∷ []; given = λ (tree, _). tree }
expression false c = record { symbols = s.Read (assignment c) ∷ []; given = λ (tree, _). tree }

-- it is read up to what is left, with one step for each token that stands in no function within
abbrev pub ReadsTree : (functions : List FunctionInfo) → Expression → (ts rest : List Terminal) → (tree : Tree)
    → (before after : ℕ) → Type 0
ReadsTree functions e ts rest tree before after =
    (w : Whole functions e.symbols ts)
    → (tree ≡ cut_tree functions (e.given w.parts))
    × ((rest ≡ w.rest) × (after ≡ before + counted e.symbols w.counts))
