-- The events of the trees that rows of the grammar make of several parts.
use Rattle.std.proofs.Common.{◌≡◌, ℕ, Bool, true, false, List, [], ◌∷◌, ◌++◌, Option, Some, None, refl, ap, sym, ◌∙◌}
use Rattle.std.proofs.Common.{append_assoc}
use Rattle.std.proofs.Common.{append-nil}
use Rattle.hz_tree.specs.declared.operator.DeclarationWord.{DeclarationWord}
use Rattle.hz_tree.specs.declared.signal.NodeKind.TheVariants as kind
use Rattle.hz_tree.specs.declared.signal.NodeShape.TheVariants as shape
use Rattle.hz_tree.specs.declared.signal.Role.TheVariants as role
use Rattle.hz_tree.specs.declared.signal.Signal.TheVariants as tell
use Rattle.hz_tree.specs.declared.tree.Bound.{Bound}
use Rattle.hz_tree.specs.declared.tree.FunctionForm.{FunctionForm}
use Rattle.hz_tree.specs.declared.tree.FunctionKind.{FunctionKind}
use Rattle.hz_tree.specs.declared.tree.Rest.{Rest}
use Rattle.hz_tree.specs.declared.tree.Tree.{Tree, the_lemmas}
use Rattle.hz_tree.specs.declared.tree.Tree.TheVariants as t
use Rattle.hz_tree.specs.tokens.Text.{Text}
use Rattle.hz_tree.specs.grammar.Signals.{Told, Event, Plain, Named}
use Rattle.hz_tree.specs.grammar.Symbols.{AfterKey, has_value, called, goes_over, initialised}
use Rattle.hz_tree.specs.grammar.Symbols.{target_of, expression_of, AfterFor, declares, begins_left, begins_expr}
use Rattle.hz_tree.specs.grammar.Symbols.{AfterHead, Behind, updates, joins, chooses, assigns}
use Rattle.hz_tree.specs.grammar.OperatorRows.{tailed, applied, operated}
use Rattle.hz_tree.specs.grammar.ExpressionRows.{listed}
use Rattle.hz_tree.specs.grammar.HeadRows.{for_tree}
use Rattle.hz_tree.specs.grammar.PropertyRows.{property}
use Rattle.hz_tree.specs.trees.Events.{told_scope, told_statement, told_operand, told_part, told_function, one_more}
use Rattle.hz_tree.specs.trees.Events.{events_of}
use Rattle.hz_laws.proofs.TreeLaws.{told_trees, told_out, told_next, told_append}
use Rattle.hz_laws.proofs.Told.{told_value_of, told_operators, same_after, told_after_head, told_listed, told_after_key}
use Rattle.hz_laws.proofs.Told.{told_option, into_option, end_listed, told_after_for}

pub told_Bind : (at : ℕ) (word : DeclarationWord) (name : Text) (value : Option Tree)
    → events_of (t.Bind at word name value) ≡ Named (tell.Declare (role.Variable word)) at name
    ∷ told_value_of word value
told_Bind at word name None = told_out _ ∙ simp the_lemmas
told_Bind at word name (Some value) = told_out _ ∙ simp the_lemmas

ruleset tree_laws = (the_lemmas, append_assoc, append-nil, told_append)

pub made_tailed : (head : Tree) (tails : List Tree)
    → events_of (tailed head tails) ≡ events_of head ++ (told_trees tails ++ same_after false tails)
made_tailed head [] = sym (append-nil (events_of head))
made_tailed head (first ∷ more) = told_out _ ∙ simp tree_laws

pub made_applied : (operators : List Behind) (head : Tree)
    → events_of (applied head operators) ≡ events_of head ++ told_operators operators
made_applied [] head = sym (append-nil (events_of head))
made_applied (updates operator ∷ more) head = made_applied more _ ∙ told_next _ _ ∙ simp tree_laws
made_applied (joins operator right ∷ more) head = made_applied more _ ∙ told_next _ _ ∙ simp tree_laws
made_applied (chooses first second ∷ more) head = made_applied more _ ∙ told_next _ _ ∙ simp tree_laws
made_applied (assigns operator value ∷ more) head = made_applied more _ ∙ told_next _ _ ∙ simp tree_laws

pub made_operated : (head : Tree) (after : AfterHead)
    → events_of (operated head after) ≡ events_of head ++ told_after_head false after
made_operated head after =
    made_applied after.operators (tailed head after.tails) ∙ simp (made_tailed, append_assoc)

pub made_listed : (first : Tree) (more : List Tree)
    → events_of (listed first more) ≡ events_of first ++ told_listed false more
made_listed first [] = sym (append-nil (events_of first))
made_listed first (second ∷ more) = told_out _ ∙ simp tree_laws

pub made_property : (begun : Told) (key : Tree) (after : AfterKey)
    → events_of (property begun key after) ≡ told_part begun.at (events_of key ++ told_after_key after)
made_property begun key (has_value value) = told_out _ ∙ simp tree_laws
made_property begun key (called function) = told_out _ ∙ simp tree_laws

told_ForExpr : (at : ℕ) (first test update : Option Tree) (body : Tree)
    → events_of (t.ForExpr at first test update body)
    ≡ told_statement kind.Loop at
    (into_option first ++ (into_option test ++ (into_option update ++ events_of body)))
told_ForExpr at None None None body = told_out _ ∙ simp tree_laws
told_ForExpr at None None (Some update) body = told_out _ ∙ simp tree_laws
told_ForExpr at None (Some test) None body = told_out _ ∙ simp tree_laws
told_ForExpr at None (Some test) (Some update) body = told_out _ ∙ simp tree_laws
told_ForExpr at (Some first) None None body = told_out _ ∙ simp tree_laws
told_ForExpr at (Some first) None (Some update) body = told_out _ ∙ simp tree_laws
told_ForExpr at (Some first) (Some test) None body = told_out _ ∙ simp tree_laws
told_ForExpr at (Some first) (Some test) (Some update) body = told_out _ ∙ simp tree_laws

told_ForBinds : (at : ℕ) (word : DeclarationWord) (binds : List Tree) (test update : Option Tree) (body : Tree)
    (end : Option ℕ)
    → events_of (t.ForBinds at word binds test update body end)
    ≡ told_statement kind.Loop at
    (told_scope end (told_trees binds ++ (into_option test ++ (into_option update ++ events_of body))))
told_ForBinds at word binds None None body end = told_out _ ∙ simp tree_laws
told_ForBinds at word binds None (Some update) body end = told_out _ ∙ simp tree_laws
told_ForBinds at word binds (Some test) None body end = told_out _ ∙ simp tree_laws
told_ForBinds at word binds (Some test) (Some update) body end = told_out _ ∙ simp tree_laws

pub made_for : (at : ℕ) (after : AfterFor) → events_of (for_tree at after)
    ≡ told_statement kind.Loop at (told_after_for after)
made_for at (declares word bound (goes_over iteration over) body end) = told_out _ ∙ simp tree_laws
made_for at (declares word bound (initialised value more test update) body end) =
    told_ForBinds at word (t.Bind bound.at word bound.name value ∷ more) test update body end
    ∙ simp (told_Bind, append_assoc)
made_for at (begins_left left (target_of iteration over) body) = told_out _ ∙ simp tree_laws
made_for at (begins_left left (expression_of operators more test update) body) =
    told_ForExpr at (Some (listed (applied left operators) more)) test update body
    ∙ simp (made_listed, made_applied, append_assoc)
made_for at (begins_expr first test update body) = told_ForExpr at first test update body

pub told_Return : (at : ℕ) (value : Option Tree)
    → events_of (t.Return at value) ≡ told_statement kind.Statement at (into_option value)
told_Return at None = told_out _ ∙ simp the_lemmas
told_Return at (Some value) = told_out _ ∙ simp the_lemmas

pub told_If : (at : ℕ) (test body : Tree) (other : Option Tree)
    → events_of (t.If at test body other)
    ≡ told_statement kind.Statement at (events_of test ++ Plain tell.Join ∷ (events_of body ++ told_option other))
told_If at test body None = told_out _ ∙ simp the_lemmas
told_If at test body (Some other) = told_out _ ∙ simp the_lemmas

pub told_Try : (at : ℕ) (block : Tree) (handler finally : Option Tree)
    → events_of (t.Try at block handler finally)
    ≡ told_statement kind.Statement at (events_of block ++ (told_option handler ++ told_option finally))
told_Try at block None None = told_out _ ∙ simp the_lemmas
told_Try at block None (Some finally) = told_out _ ∙ simp the_lemmas
told_Try at block (Some handler) None = told_out _ ∙ simp the_lemmas
told_Try at block (Some handler) (Some finally) = told_out _ ∙ simp the_lemmas

pub told_Yield : (at : ℕ) (delegates : Bool) (value : Option Tree)
    → events_of (t.Yield at delegates value) ≡ told_operand at (into_option value)
told_Yield at delegates None = told_out _ ∙ simp the_lemmas
told_Yield at delegates (Some value) = told_out _ ∙ simp the_lemmas

pub told_New : (at : ℕ) (callee : Tree) (members : List Tree) (args : Option Tree)
    → events_of (t.New at callee members args)
    ≡ told_operand at (events_of callee ++ Plain tell.Join ∷ (told_trees members ++ told_option args))
told_New at callee members None = told_out _ ∙ simp the_lemmas
told_New at callee members (Some args) = told_out _ ∙ simp the_lemmas

pub told_Function : (at end : ℕ) (form : FunctionForm) (kind : FunctionKind) (parameters : List Bound)
    (rest : Option Rest)
    (body : Tree)
    → events_of (t.Function at end form kind parameters rest body)
    ≡ told_function at end form kind parameters rest (events_of body)
told_Function at end form kind parameters rest body = told_out _ ∙ simp the_lemmas

pub told_Dot : (at : ℕ) (name : Text) → events_of (t.Dot at name) ≡ Plain tell.Member ∷ []
told_Dot at name = told_out _ ∙ simp the_lemmas

pub told_Index : (at : ℕ) (key : Tree)
    → events_of (t.Index at key) ≡ events_of key ++ Plain tell.Join ∷ Plain tell.Member ∷ []
told_Index at key = told_out _ ∙ simp the_lemmas

pub told_Optional : (at : ℕ) (tail : Tree) → events_of (t.Optional at tail) ≡ events_of tail ++ Plain tell.Chain ∷ []
told_Optional at tail = told_out _ ∙ simp the_lemmas

pub same_tailed : (tails : List Tree) → same_after true tails ≡ Plain (tell.Node shape.Same) ∷ []
same_tailed [] = refl
same_tailed (first ∷ more) = refl

pub one_listed : (more : List Tree) → end_listed true more ≡ one_more
one_listed [] = refl
one_listed (first ∷ more) = refl

-- values that are the parts themselves
pub told_one : (es : List Event) → es ≡ es ++ []
told_one es = sym (append-nil es)

pub told_two : (es fs : List Event) → es ++ fs ≡ es ++ (fs ++ [])
told_two es fs = ap (λ x. es ++ x) (sym (append-nil fs))

pub ruleset row_laws = (
  append_assoc,
  append-nil,
  told_append,
  made_operated,
  made_applied,
  made_listed,
  made_property,
  made_for,
  told_Return,
  told_If,
  told_Try,
  told_Yield,
  told_New,
  told_Function,
  told_Dot,
  told_Index,
  told_Optional,
  same_tailed,
  one_listed,
)

-- for a tree that is made here
pub ruleset made_laws = (the_lemmas, row_laws)
