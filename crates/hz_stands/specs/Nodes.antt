-- The functions in what nonterminals give, in the order of the places at which they start.
use Rattle.std.specs.Prelude.{ℕ, List, [], ◌∷◌, ◌++◌, map, length, min, Option, None}
use Rattle.hz_tree.specs.declared.function_tree.FunctionTree.{FunctionTree}
use Rattle.hz_tree.specs.declared.index.FunctionInfo.{FunctionInfo}
use Rattle.hz_tree.specs.declared.nonterminal.Nonterminal.{Nonterminal}
use Rattle.hz_tree.specs.declared.nonterminal.Nonterminal.TheVariants as n
use Rattle.hz_tree.specs.declared.symbol.Symbol.{Symbol}
use Rattle.hz_tree.specs.declared.symbol.Symbol.TheVariants as s
use Rattle.hz_tree.specs.declared.tree.Bound.{Bound}
use Rattle.hz_tree.specs.declared.tree.FunctionForm.{FunctionForm}
use Rattle.hz_tree.specs.declared.tree.FunctionKind.{FunctionKind}
use Rattle.hz_tree.specs.declared.tree.FunctionKind.TheVariants as kind
use Rattle.hz_tree.specs.declared.tree.Rest.{Rest}
use Rattle.hz_tree.specs.declared.tree.Tree.{Tree}
use Rattle.hz_tree.specs.declared.tree.Tree.TheFolds.{para-Tree}
use Rattle.hz_tree.specs.declared.tree.Tree.TheOpen.{Tree-F}
use Rattle.hz_tree.specs.grammar.Symbols.{Parts, Value, AfterKey, has_value, called, AfterName, goes_over}
use Rattle.hz_tree.specs.grammar.Symbols.{initialised, AfterLeft, target_of, expression_of, AfterFor, declares}
use Rattle.hz_tree.specs.grammar.Symbols.{begins_left, begins_expr, AfterHead, Behind, updates, joins, chooses, assigns}
use Rattle.hz_tree.specs.tokens.Text.{Text}
use Rattle.hz_tree.specs.trees.FunctionTrees.{number_at, names_of, rest_name}
use Rattle.hz_tree.specs.trees.Places.{node, optional}
use Rattle.hz_cuts.specs.Cuts.{cut_tree}

-- ---- trees

-- the tree of a function, by its parts
pub record FunctionNode : Type 0 where
  pub at : ℕ
  pub end : ℕ
  pub form : FunctionForm
  pub kind : FunctionKind
  pub parameters : List Bound
  pub rest : Option Rest
  pub body : Tree

abbrev pub all_nodes : List (List FunctionNode) → List FunctionNode
all_nodes [] = []
all_nodes (first ∷ more) = first ++ all_nodes more

abbrev pub nodes_layer : Tree-F (Tree × List FunctionNode) → List FunctionNode
nodes_layer (Tree-F.Function at end form kind parameters rest body) = record {
  at = at;
  end = end;
  form = form;
  kind = kind;
  parameters = parameters;
  rest = rest;
  body = body.0;
} ∷ body.1
nodes_layer layer = all_nodes (map (λ e. e.1) (node layer).children)

unfoldable pub nodes_of : Tree → List FunctionNode
nodes_of = para-Tree (List FunctionNode) nodes_layer

-- ---- what is kept of them

-- the tree of the function, in which those within are numbers
abbrev pub function_tree_of : List FunctionInfo → FunctionNode → FunctionTree
function_tree_of functions f = record {
  number = number_at functions f.at;
  kind = f.kind;
  parameters = names_of f.parameters;
  rest = rest_name f.rest;
  body = cut_tree functions f.body;
}

abbrev pub script_tree : List FunctionInfo → (script : Tree) → FunctionTree
script_tree functions script =
    record { number = 0; kind = kind.Script; parameters = []; rest = None; body = cut_tree functions script }

-- what the index has of a function, but for the one round it
pub record Extent : Type 0 where
  pub start : ℕ
  pub end : ℕ
  pub kind : FunctionKind
  pub length : ℕ

abbrev pub extent_of_info : FunctionInfo → Extent
extent_of_info info = record { start = info.start; end = info.end; kind = info.kind; length = info.length }

abbrev pub extent_of_node : FunctionNode → Extent
extent_of_node f = record { start = f.at; end = f.end; kind = f.kind; length = min (length f.parameters) 255 }

abbrev pub script_extent : Text → Extent
script_extent source = record { start = 0; end = length source; kind = kind.Script; length = 0 }

-- ---- what nonterminals give

abbrev pub tree_nodes : List Tree → List FunctionNode
tree_nodes trees = all_nodes (map nodes_of trees)

abbrev pub option_nodes : Option Tree → List FunctionNode
option_nodes tree = tree_nodes (optional tree)

abbrev pub after_key_nodes : AfterKey → List FunctionNode
after_key_nodes (has_value tree) = nodes_of tree
after_key_nodes (called tree) = nodes_of tree

abbrev pub after_name_nodes : AfterName → List FunctionNode
after_name_nodes (goes_over iteration over) = nodes_of over
after_name_nodes (initialised value more test update) =
    option_nodes value ++ (tree_nodes more ++ (option_nodes test ++ option_nodes update))

abbrev pub behind_nodes : Behind → List FunctionNode
behind_nodes (updates operator) = []
behind_nodes (joins operator right) = nodes_of right
behind_nodes (chooses first second) = nodes_of first ++ nodes_of second
behind_nodes (assigns operator value) = nodes_of value

abbrev pub operator_nodes : List Behind → List FunctionNode
operator_nodes [] = []
operator_nodes (first ∷ more) = behind_nodes first ++ operator_nodes more

abbrev pub after_head_nodes : AfterHead → List FunctionNode
after_head_nodes after = tree_nodes after.tails ++ operator_nodes after.operators

abbrev pub after_left_nodes : AfterLeft → List FunctionNode
after_left_nodes (target_of iteration over) = nodes_of over
after_left_nodes (expression_of operators more test update) =
    operator_nodes operators ++ (tree_nodes more ++ (option_nodes test ++ option_nodes update))

abbrev pub after_for_nodes : AfterFor → List FunctionNode
after_for_nodes (declares word bound after body end) = after_name_nodes after ++ nodes_of body
after_for_nodes (begins_left left after body) = nodes_of left ++ (after_left_nodes after ++ nodes_of body)
after_for_nodes (begins_expr first test update body) =
    option_nodes first ++ (option_nodes test ++ (option_nodes update ++ nodes_of body))

abbrev pub value_nodes : (m : Nonterminal) → Value m → List FunctionNode
value_nodes n.Script v = nodes_of v
value_nodes (n.Items c) v = tree_nodes v
value_nodes (n.Item c) v = nodes_of v
value_nodes (n.Statement c) v = nodes_of v
value_nodes (n.Block c) v = nodes_of v
value_nodes (n.Binds word c) v = tree_nodes v
value_nodes (n.Bind word c) v = nodes_of v
value_nodes (n.MoreBinds word c) v = tree_nodes v
value_nodes (n.Initial word c) v = option_nodes v
value_nodes (n.Else c) v = option_nodes v
value_nodes (n.ReturnValue c) v = option_nodes v
value_nodes (n.ThrowValue c) v = nodes_of v
value_nodes (n.Clauses c has_default) v = tree_nodes v
value_nodes (n.Handlers c) v = option_nodes v.0 ++ option_nodes v.1
value_nodes (n.CatchClause c) v = nodes_of v
value_nodes (n.Finally c) v = option_nodes v
value_nodes (n.Head c) v = after_for_nodes v
value_nodes (n.DeclaredHead word c) v = after_name_nodes v
value_nodes (n.LeftHead c) v = after_left_nodes v
value_nodes (n.OptionalExpr c) v = option_nodes v
value_nodes (n.Expr c) v = nodes_of v
value_nodes (n.ExprRest listed c) v = tree_nodes v
value_nodes (n.Operation loosest c) v = nodes_of v
value_nodes (n.Tails tailed loosest c) v = after_head_nodes v
value_nodes (n.Rests loosest tightest c) v = operator_nodes v
value_nodes (n.ArrowBody c) v = nodes_of v
value_nodes (n.YieldValue c) v = option_nodes v.1
value_nodes (n.OptionalTail c) v = nodes_of v
value_nodes (n.Members c) v = tree_nodes v
value_nodes (n.NewArgs c) v = option_nodes v
value_nodes (n.Args c) v = nodes_of v
value_nodes (n.Arguments c) v = tree_nodes v
value_nodes (n.MoreArguments c) v = tree_nodes v
value_nodes (n.Argument c) v = nodes_of v
value_nodes (n.Primary c) v = nodes_of v
value_nodes (n.TemplateRest c) v = tree_nodes v.1
value_nodes (n.Elements c) v = tree_nodes v
value_nodes (n.MoreElements c) v = tree_nodes v
value_nodes (n.Props c) v = tree_nodes v
value_nodes (n.MoreProps c) v = tree_nodes v
value_nodes (n.Prop c) v = nodes_of v
value_nodes (n.KeyRest c) v = after_key_nodes v
value_nodes (n.Key c) v = nodes_of v
value_nodes (n.Body generator) v = nodes_of v
value_nodes _ v = []

abbrev pub part_nodes : (right : List Symbol) → Parts Value right → List FunctionNode
part_nodes [] parts = []
part_nodes (s.Take wanted ∷ more) parts = part_nodes more parts.1
part_nodes (s.Read m ∷ more) parts = value_nodes m parts.0 ++ part_nodes more parts.1
part_nodes (s.Tell signal ∷ more) parts = part_nodes more parts.1
