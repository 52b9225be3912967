-- What the nonterminals give, with the numbers of functions in the place of the functions in it.
use Rattle.std.specs.Prelude.{List, [], ◌∷◌, map, Option, option_map}
use Rattle.hz_tree.specs.declared.index.FunctionInfo.{FunctionInfo}
use Rattle.hz_tree.specs.declared.nonterminal.Nonterminal.{Nonterminal}
use Rattle.hz_tree.specs.declared.nonterminal.Nonterminal.TheVariants as n
use Rattle.hz_tree.specs.declared.symbol.Symbol.{Symbol}
use Rattle.hz_tree.specs.declared.symbol.Symbol.TheVariants as s
use Rattle.hz_tree.specs.declared.tree.Tree.{Tree}
use Rattle.hz_tree.specs.declared.tree.FunctionForm.{FunctionForm}
use Rattle.hz_tree.specs.declared.tree.Tree.TheVariants as t
use Rattle.hz_tree.specs.grammar.Signals.{Told}
use Rattle.hz_tree.specs.grammar.Symbols.{Part, Parts, Value, AfterKey, has_value, called, AfterName, goes_over}
use Rattle.hz_tree.specs.grammar.Symbols.{initialised, AfterLeft, target_of, expression_of, AfterFor, declares}
use Rattle.hz_tree.specs.grammar.Symbols.{begins_left, begins_expr, AfterHead, Behind, updates, joins, chooses, assigns}
use Rattle.hz_tree.specs.trees.FunctionTrees.{cut, number_at}

unfoldable pub cut_tree : List FunctionInfo → Tree → Tree
cut_tree functions tree = (cut functions tree).tree

-- what stands in the place of a function that begins here
abbrev pub inner_tree : List FunctionInfo → (opened : Told) → FunctionForm → Tree
inner_tree functions opened form = t.Inner opened.at (number_at functions opened.at) form

abbrev pub cut_trees : List FunctionInfo → List Tree → List Tree
cut_trees functions trees = map (cut_tree functions) trees

abbrev pub cut_option : List FunctionInfo → Option Tree → Option Tree
cut_option functions tree = option_map (cut_tree functions) tree

abbrev pub cut_after_key : List FunctionInfo → AfterKey → AfterKey
cut_after_key functions (has_value tree) = has_value (cut_tree functions tree)
cut_after_key functions (called tree) = called (cut_tree functions tree)

abbrev pub cut_after_name : List FunctionInfo → AfterName → AfterName
cut_after_name functions (goes_over iteration over) = goes_over iteration (cut_tree functions over)
cut_after_name functions (initialised value more test update) =
    initialised (cut_option functions value) (cut_trees functions more) (cut_option functions test)
    (cut_option functions update)

abbrev pub cut_behind : List FunctionInfo → Behind → Behind
cut_behind functions (updates operator) = updates operator
cut_behind functions (joins operator right) = joins operator (cut_tree functions right)
cut_behind functions (chooses first second) = chooses (cut_tree functions first) (cut_tree functions second)
cut_behind functions (assigns operator value) = assigns operator (cut_tree functions value)

abbrev pub cut_operators : List FunctionInfo → List Behind → List Behind
cut_operators functions operators = map (cut_behind functions) operators

abbrev pub cut_after_head : List FunctionInfo → AfterHead → AfterHead
cut_after_head functions after = record {
  tails = cut_trees functions after.tails;
  operators = cut_operators functions after.operators;
}

abbrev pub cut_after_left : List FunctionInfo → AfterLeft → AfterLeft
cut_after_left functions (target_of iteration over) = target_of iteration (cut_tree functions over)
cut_after_left functions (expression_of operators more test update) =
    expression_of (cut_operators functions operators) (cut_trees functions more) (cut_option functions test)
    (cut_option functions update)

abbrev pub cut_after_for : List FunctionInfo → AfterFor → AfterFor
cut_after_for functions (declares word bound after body end) =
    declares word bound (cut_after_name functions after) (cut_tree functions body) end
cut_after_for functions (begins_left left after body) =
    begins_left (cut_tree functions left) (cut_after_left functions after) (cut_tree functions body)
cut_after_for functions (begins_expr first test update body) =
    begins_expr (cut_option functions first) (cut_option functions test) (cut_option functions update)
    (cut_tree functions body)

abbrev pub cut_value : List FunctionInfo → (m : Nonterminal) → Value m → Value m
cut_value functions n.Script v = cut_tree functions v
cut_value functions (n.Items c) v = cut_trees functions v
cut_value functions (n.Item c) v = cut_tree functions v
cut_value functions (n.Statement c) v = cut_tree functions v
cut_value functions (n.Block c) v = cut_tree functions v
cut_value functions (n.Binds word c) v = cut_trees functions v
cut_value functions (n.Bind word c) v = cut_tree functions v
cut_value functions (n.MoreBinds word c) v = cut_trees functions v
cut_value functions (n.Initial word c) v = cut_option functions v
cut_value functions (n.Else c) v = cut_option functions v
cut_value functions (n.ReturnValue c) v = cut_option functions v
cut_value functions (n.ThrowValue c) v = cut_tree functions v
cut_value functions (n.Clauses c has_default) v = cut_trees functions v
cut_value functions (n.Handlers c) v = (cut_option functions v.0, cut_option functions v.1)
cut_value functions (n.CatchClause c) v = cut_tree functions v
cut_value functions (n.Finally c) v = cut_option functions v
cut_value functions (n.Head c) v = cut_after_for functions v
cut_value functions (n.DeclaredHead word c) v = cut_after_name functions v
cut_value functions (n.LeftHead c) v = cut_after_left functions v
cut_value functions (n.OptionalExpr c) v = cut_option functions v
cut_value functions (n.Expr c) v = cut_tree functions v
cut_value functions (n.ExprRest listed c) v = cut_trees functions v
cut_value functions (n.Operation loosest c) v = cut_tree functions v
cut_value functions (n.Tails tailed loosest c) v = cut_after_head functions v
cut_value functions (n.Rests loosest tightest c) v = cut_operators functions v
cut_value functions (n.ArrowBody c) v = cut_tree functions v
cut_value functions (n.YieldValue c) v = (v.0, cut_option functions v.1)
cut_value functions (n.OptionalTail c) v = cut_tree functions v
cut_value functions (n.Members c) v = cut_trees functions v
cut_value functions (n.NewArgs c) v = cut_option functions v
cut_value functions (n.Args c) v = cut_tree functions v
cut_value functions (n.Arguments c) v = cut_trees functions v
cut_value functions (n.MoreArguments c) v = cut_trees functions v
cut_value functions (n.Argument c) v = cut_tree functions v
cut_value functions (n.Primary c) v = cut_tree functions v
cut_value functions (n.TemplateRest c) v = (v.0, cut_trees functions v.1)
cut_value functions (n.Elements c) v = cut_trees functions v
cut_value functions (n.MoreElements c) v = cut_trees functions v
cut_value functions (n.Props c) v = cut_trees functions v
cut_value functions (n.MoreProps c) v = cut_trees functions v
cut_value functions (n.Prop c) v = cut_tree functions v
cut_value functions (n.KeyRest c) v = cut_after_key functions v
cut_value functions (n.Key c) v = cut_tree functions v
cut_value functions (n.Body generator) v = cut_tree functions v
cut_value functions _ v = v

-- tokens and what is told stay
abbrev pub cut_part : List FunctionInfo → (symbol : Symbol) → Part Value symbol → Part Value symbol
cut_part functions (s.Take wanted) part = part
cut_part functions (s.Read m) part = cut_value functions m part
cut_part functions (s.Tell signal) part = part

abbrev pub cut_parts : List FunctionInfo → (right : List Symbol) → Parts Value right → Parts Value right
cut_parts functions [] parts = tt
cut_parts functions (symbol ∷ more) parts = (cut_part functions symbol parts.0, cut_parts functions more parts.1)
