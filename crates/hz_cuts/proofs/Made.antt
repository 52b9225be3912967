-- The cuts of the trees that rows of the grammar make of several parts.
use Rattle.std.proofs.Common.{◌≡◌, ℕ, Bool, List, [], ◌∷◌, Option, Some, None, refl, ap, ◌∙◌}
use Rattle.hz_tree.specs.declared.index.FunctionInfo.{FunctionInfo}
use Rattle.hz_tree.specs.declared.operator.DeclarationWord.{DeclarationWord}
use Rattle.hz_tree.specs.declared.tree.Bound.{Bound}
use Rattle.hz_tree.specs.declared.tree.FunctionForm.{FunctionForm}
use Rattle.hz_tree.specs.declared.tree.FunctionKind.{FunctionKind}
use Rattle.hz_tree.specs.declared.tree.Rest.{Rest}
use Rattle.hz_tree.specs.declared.tree.Tree.{Tree, the_lemmas}
use Rattle.hz_tree.specs.declared.tree.Tree.TheVariants as t
use Rattle.hz_tree.specs.tokens.Text.{Text}
use Rattle.hz_tree.specs.trees.FunctionTrees.{number_at}
use Rattle.hz_tree.specs.grammar.ExpressionRows.{listed}
use Rattle.hz_tree.specs.grammar.HeadRows.{for_tree}
use Rattle.hz_tree.specs.grammar.OperatorRows.{tailed, applied, operated}
use Rattle.hz_tree.specs.grammar.PropertyRows.{property}
use Rattle.hz_tree.specs.grammar.Signals.{Told}
use Rattle.hz_tree.specs.grammar.Symbols.{AfterKey, has_value, called, goes_over, initialised}
use Rattle.hz_tree.specs.grammar.Symbols.{target_of, expression_of, AfterFor, declares, begins_left, begins_expr}
use Rattle.hz_tree.specs.grammar.Symbols.{AfterHead, Behind, updates, joins, chooses, assigns}
use Rattle.hz_cuts.specs.Cuts.{cut_tree, cut_trees, cut_option, cut_operators, cut_after_head, cut_after_key}
use Rattle.hz_cuts.specs.Cuts.{cut_after_for}
use Rattle.hz_cuts.proofs.TreeCuts.{cut_out, cut_place}

ruleset tree_cuts = (the_lemmas, cut_place)

pub cut_Bind : (functions : List FunctionInfo) (at : ℕ) (word : DeclarationWord) (name : Text) (value : Option Tree)
    → cut_tree functions (t.Bind at word name value) ≡ t.Bind at word name (cut_option functions value)
cut_Bind functions at word name None = cut_out functions _ ∙ simp the_lemmas
cut_Bind functions at word name (Some value) = cut_out functions _ ∙ simp the_lemmas

pub cut_Return : (functions : List FunctionInfo) (at : ℕ) (value : Option Tree)
    → cut_tree functions (t.Return at value) ≡ t.Return at (cut_option functions value)
cut_Return functions at None = cut_out functions _ ∙ simp the_lemmas
cut_Return functions at (Some value) = cut_out functions _ ∙ simp the_lemmas

pub cut_Yield : (functions : List FunctionInfo) (at : ℕ) (delegates : Bool) (value : Option Tree)
    → cut_tree functions (t.Yield at delegates value) ≡ t.Yield at delegates (cut_option functions value)
cut_Yield functions at delegates None = cut_out functions _ ∙ simp the_lemmas
cut_Yield functions at delegates (Some value) = cut_out functions _ ∙ simp the_lemmas

pub cut_If : (functions : List FunctionInfo) (at : ℕ) (test body : Tree) (other : Option Tree)
    → cut_tree functions (t.If at test body other)
    ≡ t.If at (cut_tree functions test) (cut_tree functions body) (cut_option functions other)
cut_If functions at test body None = cut_out functions _ ∙ simp the_lemmas
cut_If functions at test body (Some other) = cut_out functions _ ∙ simp the_lemmas

pub cut_Try : (functions : List FunctionInfo) (at : ℕ) (block : Tree) (handler finally : Option Tree)
    → cut_tree functions (t.Try at block handler finally)
    ≡ t.Try at (cut_tree functions block) (cut_option functions handler) (cut_option functions finally)
cut_Try functions at block None None = cut_out functions _ ∙ simp the_lemmas
cut_Try functions at block None (Some finally) = cut_out functions _ ∙ simp the_lemmas
cut_Try functions at block (Some handler) None = cut_out functions _ ∙ simp the_lemmas
cut_Try functions at block (Some handler) (Some finally) = cut_out functions _ ∙ simp the_lemmas

pub cut_New : (functions : List FunctionInfo) (at : ℕ) (callee : Tree) (members : List Tree) (args : Option Tree)
    → cut_tree functions (t.New at callee members args)
    ≡ t.New at (cut_tree functions callee) (cut_trees functions members) (cut_option functions args)
cut_New functions at callee members None = cut_out functions _ ∙ simp the_lemmas
cut_New functions at callee members (Some args) = cut_out functions _ ∙ simp the_lemmas

-- ---- trees at the place of their first part

pub cut_tailed : (functions : List FunctionInfo) (head : Tree) (tails : List Tree)
    → cut_tree functions (tailed head tails) ≡ tailed (cut_tree functions head) (cut_trees functions tails)
cut_tailed functions head [] = refl
cut_tailed functions head (first ∷ more) = cut_out functions _ ∙ simp tree_cuts

pub cut_listed : (functions : List FunctionInfo) (first : Tree) (more : List Tree)
    → cut_tree functions (listed first more) ≡ listed (cut_tree functions first) (cut_trees functions more)
cut_listed functions first [] = refl
cut_listed functions first (second ∷ more) = cut_out functions _ ∙ simp tree_cuts

pub cut_applied : (functions : List FunctionInfo) (operators : List Behind) (head : Tree)
    → cut_tree functions (applied head operators)
    ≡ applied (cut_tree functions head) (cut_operators functions operators)
cut_applied functions [] head = refl
cut_applied functions (updates operator ∷ more) head =
    cut_applied functions more _
    ∙ ap (λ h. applied h (cut_operators functions more)) (cut_out functions _ ∙ simp tree_cuts)
cut_applied functions (joins operator right ∷ more) head =
    cut_applied functions more _
    ∙ ap (λ h. applied h (cut_operators functions more)) (cut_out functions _ ∙ simp tree_cuts)
cut_applied functions (chooses first second ∷ more) head =
    cut_applied functions more _
    ∙ ap (λ h. applied h (cut_operators functions more)) (cut_out functions _ ∙ simp tree_cuts)
cut_applied functions (assigns operator value ∷ more) head =
    cut_applied functions more _
    ∙ ap (λ h. applied h (cut_operators functions more)) (cut_out functions _ ∙ simp tree_cuts)

pub cut_operated : (functions : List FunctionInfo) (head : Tree) (after : AfterHead)
    → cut_tree functions (operated head after) ≡ operated (cut_tree functions head) (cut_after_head functions after)
cut_operated functions head after =
    cut_applied functions after.operators (tailed head after.tails)
    ∙ ap (λ h. applied h (cut_operators functions after.operators)) (cut_tailed functions head after.tails)

pub cut_property : (functions : List FunctionInfo) (begun : Told) (key : Tree) (after : AfterKey)
    → cut_tree functions (property begun key after)
    ≡ property begun (cut_tree functions key) (cut_after_key functions after)
cut_property functions begun key (has_value value) = cut_out functions _ ∙ simp the_lemmas
cut_property functions begun key (called function) = cut_out functions _ ∙ simp the_lemmas

-- ---- loops

cut_ForExpr : (functions : List FunctionInfo) (at : ℕ) (first test update : Option Tree) (body : Tree)
    → cut_tree functions (t.ForExpr at first test update body)
    ≡ t.ForExpr at (cut_option functions first) (cut_option functions test) (cut_option functions update)
    (cut_tree functions body)
cut_ForExpr functions at None None None body = cut_out functions _ ∙ simp the_lemmas
cut_ForExpr functions at None None (Some update) body = cut_out functions _ ∙ simp the_lemmas
cut_ForExpr functions at None (Some test) None body = cut_out functions _ ∙ simp the_lemmas
cut_ForExpr functions at None (Some test) (Some update) body = cut_out functions _ ∙ simp the_lemmas
cut_ForExpr functions at (Some first) None None body = cut_out functions _ ∙ simp the_lemmas
cut_ForExpr functions at (Some first) None (Some update) body = cut_out functions _ ∙ simp the_lemmas
cut_ForExpr functions at (Some first) (Some test) None body = cut_out functions _ ∙ simp the_lemmas
cut_ForExpr functions at (Some first) (Some test) (Some update) body = cut_out functions _ ∙ simp the_lemmas

cut_ForBinds : (functions : List FunctionInfo) (at : ℕ) (word : DeclarationWord) (binds : List Tree)
    (test update : Option Tree) (body : Tree) (end : Option ℕ)
    → cut_tree functions (t.ForBinds at word binds test update body end)
    ≡ t.ForBinds at word (cut_trees functions binds) (cut_option functions test) (cut_option functions update)
    (cut_tree functions body) end
cut_ForBinds functions at word binds None None body end = cut_out functions _ ∙ simp the_lemmas
cut_ForBinds functions at word binds None (Some update) body end = cut_out functions _ ∙ simp the_lemmas
cut_ForBinds functions at word binds (Some test) None body end = cut_out functions _ ∙ simp the_lemmas
cut_ForBinds functions at word binds (Some test) (Some update) body end = cut_out functions _ ∙ simp the_lemmas

pub cut_for : (functions : List FunctionInfo) (at : ℕ) (after : AfterFor)
    → cut_tree functions (for_tree at after) ≡ for_tree at (cut_after_for functions after)
cut_for functions at (declares word bound (goes_over iteration over) body end) = cut_out functions _ ∙ simp the_lemmas
cut_for functions at (declares word bound (initialised value more test update) body end) =
    cut_ForBinds functions at word (t.Bind bound.at word bound.name value ∷ more) test update body end ∙ simp cut_Bind
cut_for functions at (begins_left left (target_of iteration over) body) = cut_out functions _ ∙ simp the_lemmas
cut_for functions at (begins_left left (expression_of operators more test update) body) =
    cut_ForExpr functions at (Some (listed (applied left operators) more)) test update body
    ∙ simp (cut_listed, cut_applied)
cut_for functions at (begins_expr first test update body) = cut_ForExpr functions at first test update body

-- ---- functions

-- Where a function stands, its number is left, with its place and its form.
pub cut_Function : (functions : List FunctionInfo) (at end : ℕ) (form : FunctionForm) (kind : FunctionKind)
    (parameters : List Bound) (rest : Option Rest) (body : Tree)
    → cut_tree functions (t.Function at end form kind parameters rest body)
    ≡ t.Inner at (number_at functions at) form
cut_Function functions at end form kind parameters rest body = cut_out functions _ ∙ simp the_lemmas

pub cut_Dot : (functions : List FunctionInfo) (at : ℕ) (name : Text)
    → cut_tree functions (t.Dot at name) ≡ t.Dot at name
cut_Dot functions at name = cut_out functions _ ∙ simp the_lemmas

pub cut_Index : (functions : List FunctionInfo) (at : ℕ) (key : Tree)
    → cut_tree functions (t.Index at key) ≡ t.Index at (cut_tree functions key)
cut_Index functions at key = cut_out functions _ ∙ simp the_lemmas

pub cut_Optional : (functions : List FunctionInfo) (at : ℕ) (tail : Tree)
    → cut_tree functions (t.Optional at tail) ≡ t.Optional at (cut_tree functions tail)
cut_Optional functions at tail = cut_out functions _ ∙ simp the_lemmas

pub cut_Hole : (functions : List FunctionInfo) (at : ℕ) → cut_tree functions (t.Hole at) ≡ t.Hole at
cut_Hole functions at = cut_out functions _ ∙ simp the_lemmas

pub cut_Case : (functions : List FunctionInfo) (at : ℕ) (value : Tree) (items : List Tree)
    → cut_tree functions (t.Case at value items) ≡ t.Case at (cut_tree functions value) (cut_trees functions items)
cut_Case functions at value items = cut_out functions _ ∙ simp the_lemmas

pub cut_Default : (functions : List FunctionInfo) (at : ℕ) (items : List Tree)
    → cut_tree functions (t.Default at items) ≡ t.Default at (cut_trees functions items)
cut_Default functions at items = cut_out functions _ ∙ simp the_lemmas

pub ruleset made_cuts = (
  cut_Hole,
  cut_Case,
  cut_Default,
  cut_Dot,
  cut_Index,
  cut_Optional,
  cut_Bind,
  cut_Return,
  cut_Yield,
  cut_If,
  cut_Try,
  cut_New,
  cut_tailed,
  cut_listed,
  cut_applied,
  cut_operated,
  cut_property,
  cut_for,
  cut_Function,
)
