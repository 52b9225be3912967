-- The functions in the trees that rows of the grammar make of several parts.
use Rattle.std.proofs.Common.{◌≡◌, ℕ, Bool, List, [], ◌∷◌, ◌++◌, map, Option, Some, None, refl, ap, sym, ◌∙◌}
use Rattle.std.proofs.Common.{append_assoc, append-nil}
use Rattle.hz_tree.specs.declared.operator.DeclarationWord.{DeclarationWord}
use Rattle.hz_tree.specs.declared.tree.Bound.{Bound}
use Rattle.hz_tree.specs.declared.tree.FunctionForm.{FunctionForm}
use Rattle.hz_tree.specs.declared.tree.FunctionKind.{FunctionKind}
use Rattle.hz_tree.specs.declared.tree.Rest.{Rest}
use Rattle.hz_tree.specs.declared.tree.Tree.{Tree, the_lemmas}
use Rattle.hz_tree.specs.declared.tree.Tree.TheVariants as t
use Rattle.hz_tree.specs.grammar.ExpressionRows.{listed}
use Rattle.hz_tree.specs.grammar.HeadRows.{for_tree}
use Rattle.hz_tree.specs.grammar.OperatorRows.{tailed, applied, operated}
use Rattle.hz_tree.specs.grammar.PropertyRows.{property}
use Rattle.hz_tree.specs.grammar.Signals.{Told}
use Rattle.hz_tree.specs.grammar.Symbols.{AfterKey, has_value, called, goes_over, initialised}
use Rattle.hz_tree.specs.grammar.Symbols.{target_of, expression_of, AfterFor, declares, begins_left, begins_expr}
use Rattle.hz_tree.specs.grammar.Symbols.{AfterHead, Behind, updates, joins, chooses, assigns}
use Rattle.hz_tree.specs.tokens.Text.{Text}
use Rattle.hz_stands.specs.Nodes.{nodes_of, tree_nodes, option_nodes, after_key_nodes, operator_nodes}
use Rattle.hz_stands.specs.Nodes.{after_head_nodes, after_for_nodes}
use Rattle.hz_stands.proofs.TreeNodes.{nodes_out, nodes_next, nodes_append}

ruleset tree_laws = (the_lemmas, append_assoc, append-nil, nodes_append)

pub nodes_tailed : (head : Tree) (tails : List Tree)
    → nodes_of (tailed head tails) ≡ nodes_of head ++ tree_nodes tails
nodes_tailed head [] = sym (append-nil (nodes_of head))
nodes_tailed head (first ∷ more) = nodes_out _ ∙ simp tree_laws

pub nodes_applied : (operators : List Behind) (head : Tree)
    → nodes_of (applied head operators) ≡ nodes_of head ++ operator_nodes operators
nodes_applied [] head = sym (append-nil (nodes_of head))
nodes_applied (updates operator ∷ more) head = nodes_applied more _ ∙ nodes_next _ _ ∙ simp tree_laws
nodes_applied (joins operator right ∷ more) head = nodes_applied more _ ∙ nodes_next _ _ ∙ simp tree_laws
nodes_applied (chooses first second ∷ more) head = nodes_applied more _ ∙ nodes_next _ _ ∙ simp tree_laws
nodes_applied (assigns operator value ∷ more) head = nodes_applied more _ ∙ nodes_next _ _ ∙ simp tree_laws

pub nodes_operated : (head : Tree) (after : AfterHead)
    → nodes_of (operated head after) ≡ nodes_of head ++ after_head_nodes after
nodes_operated head after =
    nodes_applied after.operators (tailed head after.tails) ∙ simp (nodes_tailed, append_assoc)

pub nodes_listed : (first : Tree) (more : List Tree)
    → nodes_of (listed first more) ≡ nodes_of first ++ tree_nodes more
nodes_listed first [] = sym (append-nil (nodes_of first))
nodes_listed first (second ∷ more) = nodes_out _ ∙ simp tree_laws

pub nodes_property : (begun : Told) (key : Tree) (after : AfterKey)
    → nodes_of (property begun key after) ≡ nodes_of key ++ after_key_nodes after
nodes_property begun key (has_value value) = nodes_out _ ∙ simp tree_laws
nodes_property begun key (called function) = nodes_out _ ∙ simp tree_laws

nodes_ForExpr : (at : ℕ) (first test update : Option Tree) (body : Tree)
    → nodes_of (t.ForExpr at first test update body)
    ≡ option_nodes first ++ (option_nodes test ++ (option_nodes update ++ nodes_of body))
nodes_ForExpr at None None None body = nodes_out _ ∙ simp tree_laws
nodes_ForExpr at None None (Some update) body = nodes_out _ ∙ simp tree_laws
nodes_ForExpr at None (Some test) None body = nodes_out _ ∙ simp tree_laws
nodes_ForExpr at None (Some test) (Some update) body = nodes_out _ ∙ simp tree_laws
nodes_ForExpr at (Some first) None None body = nodes_out _ ∙ simp tree_laws
nodes_ForExpr at (Some first) None (Some update) body = nodes_out _ ∙ simp tree_laws
nodes_ForExpr at (Some first) (Some test) None body = nodes_out _ ∙ simp tree_laws
nodes_ForExpr at (Some first) (Some test) (Some update) body = nodes_out _ ∙ simp tree_laws

nodes_ForBinds : (at : ℕ) (word : DeclarationWord) (binds : List Tree) (test update : Option Tree) (body : Tree)
    (end : Option ℕ)
    → nodes_of (t.ForBinds at word binds test update body end)
    ≡ tree_nodes binds ++ (option_nodes test ++ (option_nodes update ++ nodes_of body))
nodes_ForBinds at word binds None None body end = nodes_out _ ∙ simp tree_laws
nodes_ForBinds at word binds None (Some update) body end = nodes_out _ ∙ simp tree_laws
nodes_ForBinds at word binds (Some test) None body end = nodes_out _ ∙ simp tree_laws
nodes_ForBinds at word binds (Some test) (Some update) body end = nodes_out _ ∙ simp tree_laws

pub nodes_Bind : (at : ℕ) (word : DeclarationWord) (name : Text) (value : Option Tree)
    → nodes_of (t.Bind at word name value) ≡ option_nodes value
nodes_Bind at word name None = nodes_out _ ∙ simp the_lemmas
nodes_Bind at word name (Some value) = nodes_out _ ∙ simp the_lemmas

pub nodes_for : (at : ℕ) (after : AfterFor) → nodes_of (for_tree at after) ≡ after_for_nodes after
nodes_for at (declares word bound (goes_over iteration over) body end) = nodes_out _ ∙ simp tree_laws
nodes_for at (declares word bound (initialised value more test update) body end) =
    nodes_ForBinds at word (t.Bind bound.at word bound.name value ∷ more) test update body end
    ∙ simp (nodes_Bind, append_assoc)
nodes_for at (begins_left left (target_of iteration over) body) = nodes_out _ ∙ simp tree_laws
nodes_for at (begins_left left (expression_of operators more test update) body) =
    nodes_ForExpr at (Some (listed (applied left operators) more)) test update body
    ∙ simp (nodes_listed, nodes_applied, append_assoc)
nodes_for at (begins_expr first test update body) = nodes_ForExpr at first test update body

pub nodes_Return : (at : ℕ) (value : Option Tree) → nodes_of (t.Return at value) ≡ option_nodes value
nodes_Return at None = nodes_out _ ∙ simp the_lemmas
nodes_Return at (Some value) = nodes_out _ ∙ simp the_lemmas

pub nodes_Yield : (at : ℕ) (delegates : Bool) (value : Option Tree)
    → nodes_of (t.Yield at delegates value) ≡ option_nodes value
nodes_Yield at delegates None = nodes_out _ ∙ simp the_lemmas
nodes_Yield at delegates (Some value) = nodes_out _ ∙ simp the_lemmas

pub nodes_If : (at : ℕ) (test body : Tree) (other : Option Tree)
    → nodes_of (t.If at test body other) ≡ nodes_of test ++ (nodes_of body ++ option_nodes other)
nodes_If at test body None = nodes_out _ ∙ simp the_lemmas
nodes_If at test body (Some other) = nodes_out _ ∙ simp the_lemmas

pub nodes_Try : (at : ℕ) (block : Tree) (handler finally : Option Tree)
    → nodes_of (t.Try at block handler finally) ≡ nodes_of block ++ (option_nodes handler ++ option_nodes finally)
nodes_Try at block None None = nodes_out _ ∙ simp the_lemmas
nodes_Try at block None (Some finally) = nodes_out _ ∙ simp the_lemmas
nodes_Try at block (Some handler) None = nodes_out _ ∙ simp tree_laws
nodes_Try at block (Some handler) (Some finally) = nodes_out _ ∙ simp tree_laws

pub nodes_New : (at : ℕ) (callee : Tree) (members : List Tree) (args : Option Tree)
    → nodes_of (t.New at callee members args) ≡ nodes_of callee ++ (tree_nodes members ++ option_nodes args)
nodes_New at callee members None = nodes_out _ ∙ simp tree_laws
nodes_New at callee members (Some args) = nodes_out _ ∙ simp tree_laws

pub nodes_Case : (at : ℕ) (value : Tree) (items : List Tree)
    → nodes_of (t.Case at value items) ≡ nodes_of value ++ tree_nodes items
nodes_Case at value items = nodes_out _ ∙ simp the_lemmas

pub nodes_Default : (at : ℕ) (items : List Tree) → nodes_of (t.Default at items) ≡ tree_nodes items
nodes_Default at items = nodes_out _ ∙ simp the_lemmas

pub nodes_Hole : (at : ℕ) → nodes_of (t.Hole at) ≡ []
nodes_Hole at = nodes_out _ ∙ simp the_lemmas

pub nodes_Dot : (at : ℕ) (name : Text) → nodes_of (t.Dot at name) ≡ []
nodes_Dot at name = nodes_out _ ∙ simp the_lemmas

pub nodes_Index : (at : ℕ) (key : Tree) → nodes_of (t.Index at key) ≡ nodes_of key
nodes_Index at key = nodes_out _ ∙ simp tree_laws

pub nodes_Optional : (at : ℕ) (tail : Tree) → nodes_of (t.Optional at tail) ≡ nodes_of tail
nodes_Optional at tail = nodes_out _ ∙ simp tree_laws

pub nodes_Function : (at end : ℕ) (form : FunctionForm) (kind : FunctionKind) (parameters : List Bound)
    (rest : Option Rest) (body : Tree)
    → nodes_of (t.Function at end form kind parameters rest body) ≡ record {
      at = at;
      end = end;
      form = form;
      kind = kind;
      parameters = parameters;
      rest = rest;
      body = body;
    } ∷ nodes_of body
nodes_Function at end form kind parameters rest body = nodes_out _ ∙ simp the_lemmas

pub ruleset row_laws = (
  append_assoc,
  append-nil,
  nodes_append,
  nodes_operated,
  nodes_applied,
  nodes_listed,
  nodes_property,
  nodes_for,
  nodes_Bind,
  nodes_Return,
  nodes_If,
  nodes_Try,
  nodes_Yield,
  nodes_New,
  nodes_Function,
  nodes_Case,
  nodes_Default,
  nodes_Hole,
  nodes_Dot,
  nodes_Index,
  nodes_Optional,
)

-- for a tree that is made here
pub ruleset made_laws = (the_lemmas, row_laws)
