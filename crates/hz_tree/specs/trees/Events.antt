-- The events of a tree: what its tokens tell, from the first to the last.
use Rattle.std.specs.Prelude.{ℕ, true, false, List, [], ◌∷◌, ◌++◌, Option, Some, None}
use Rattle.hz_tree.specs.declared.operator.DeclarationWord.{DeclarationWord}
use Rattle.hz_tree.specs.declared.operator.DeclarationWord.TheVariants as word
use Rattle.hz_tree.specs.declared.scope.ScopeKind.TheVariants as scope
use Rattle.hz_tree.specs.declared.signal.Jump.{Jump}
use Rattle.hz_tree.specs.declared.signal.Jump.TheVariants as jump
use Rattle.hz_tree.specs.declared.signal.NodeKind.{NodeKind}
use Rattle.hz_tree.specs.declared.signal.NodeKind.TheVariants as kind
use Rattle.hz_tree.specs.declared.signal.NodeShape.TheVariants as shape
use Rattle.hz_tree.specs.declared.signal.Role.{Role}
use Rattle.hz_tree.specs.declared.signal.Role.TheVariants as role
use Rattle.hz_tree.specs.declared.signal.Signal.TheVariants as tell
use Rattle.hz_tree.specs.declared.tree.Bound.{Bound}
use Rattle.hz_tree.specs.declared.tree.FunctionForm.{FunctionForm}
use Rattle.hz_tree.specs.declared.tree.FunctionForm.TheVariants as form
use Rattle.hz_tree.specs.declared.tree.FunctionKind.{FunctionKind}
use Rattle.hz_tree.specs.declared.tree.Rest.{Rest}
use Rattle.hz_tree.specs.declared.tree.Tree.{Tree, fold-Tree}
use Rattle.hz_tree.specs.declared.tree.Tree.TheOpen.{Tree-F}
use Rattle.hz_tree.specs.grammar.Operators.{takes_pattern}
use Rattle.hz_tree.specs.grammar.Signals.{Event, Plain, Placed, Texted, Named, Written}
use Rattle.hz_tree.specs.trees.Places.{node, optional}

-- ---- lists of trees

abbrev pub told_all : List (List Event) → List Event
told_all [] = []
told_all (first ∷ more) = first ++ told_all more

-- each goes into the node in hand
abbrev pub told_into : List (List Event) → List Event
told_into [] = []
told_into (first ∷ more) = first ++ Plain tell.Join ∷ told_into more

abbrev pub told_arguments : List (List Event) → List Event
told_arguments [] = []
told_arguments (first ∷ more) = first ++ Plain tell.Argument ∷ told_arguments more

-- ---- nodes, with what is told within them

abbrev pub told_statement : NodeKind → (at : ℕ) → List Event → List Event
told_statement kind at within = Placed (tell.Begin kind) at ∷ (within ++ Plain (tell.End kind) ∷ [])

abbrev pub one_more : List Event
one_more = Plain (tell.Node shape.Other) ∷ []

abbrev pub told_operand : (at : ℕ) → List Event → List Event
told_operand at within = Placed (tell.Begin kind.Operand) at ∷ (within ++ one_more)

abbrev pub told_literal : (at : ℕ) → List Event → List Event
told_literal at within =
    Placed (tell.Begin kind.Operand) at ∷ (within ++ Plain (tell.Node shape.Pattern) ∷ [])

abbrev pub told_part : (at : ℕ) → List Event → List Event
told_part at within = Placed (tell.Begin kind.Part) at ∷ within

-- one that goes into an operand, which is one node more by it
abbrev pub told_joined : List Event → List Event
told_joined operand = operand ++ Plain tell.Join ∷ one_more

-- ---- names

abbrev pub told_bound : Role → Bound → List Event
told_bound role bound = Named (tell.Declare role) bound.at bound.name ∷ []

abbrev pub told_name : Role → Option Bound → List Event
told_name role None = []
told_name role (Some bound) = told_bound role bound

abbrev pub told_rest : Option Rest → List Event
told_rest None = []
told_rest (Some rest) = Placed tell.Rest rest.at ∷ told_bound role.RestParameter rest.bound

abbrev pub told_parameters : List Bound → Option Rest → List Event
told_parameters [] rest = told_rest rest
told_parameters (first ∷ more) rest = told_bound role.Parameter first ++ told_parameters more rest

-- a name has a value, or none
abbrev pub told_initial : DeclarationWord → List (List Event) → List Event
told_initial word.Const [] = Plain tell.Bare ∷ []
told_initial word values = told_into values

-- ---- functions, scopes and jumps

abbrev pub node_of : FunctionForm → NodeKind
node_of (form.Declaration bound) = kind.Statement
node_of (form.Expression name) = kind.Operand
node_of form.Arrow = kind.Operand
node_of form.Method = kind.Part

abbrev pub told_form : FunctionForm → List Event
told_form (form.Declaration bound) = told_bound role.Function bound
told_form (form.Expression name) = told_name role.Own name
told_form form.Arrow = []
told_form form.Method = []

abbrev pub end_of : FunctionForm → List Event
end_of (form.Declaration bound) = Plain (tell.End kind.Statement) ∷ []
end_of (form.Expression name) = one_more
end_of form.Arrow = one_more
end_of form.Method = []

abbrev pub told_function : (at end : ℕ) → FunctionForm → FunctionKind → List Bound → Option Rest →
    (body : List Event) → List Event
told_function at end form kind parameters rest body =
    Placed (tell.Open (node_of form) kind) at
    ∷ (told_form form ++ Plain tell.Enter
    ∷ (told_parameters parameters rest ++ (body ++ Plain tell.Join ∷ Placed tell.Close end ∷ end_of form)))

-- a scope that begins with the node in hand, if it is one
abbrev pub told_scope : (end : Option ℕ) → List Event → List Event
told_scope None within = within
told_scope (Some end) within = Plain tell.Scope ∷ (within ++ Placed tell.EndScope end ∷ [])

abbrev pub told_catch : (at : ℕ) → Option Bound → (brace : ℕ) → (items : List Event) → (end : ℕ) → List Event
told_catch at bound brace items end =
    Placed (tell.ScopeHere scope.Catch) at
    ∷ (told_name role.Caught bound ++ (told_statement kind.Statement brace items ++ Placed tell.EndScope end ∷ []))

abbrev pub told_jump : Jump → Option Bound → List Event
told_jump jump None = Plain (tell.Jump jump) ∷ []
told_jump jump (Some label) = Texted (tell.JumpTo jump) label.name ∷ []

-- ---- operators

-- expressions with commas between them
abbrev pub told_comma : List (List Event) → List Event
told_comma [] = one_more
told_comma (first ∷ more) = first ++ (told_into more ++ one_more)

-- ---- trees

abbrev pub told_layer : Tree-F (List Event) → List Event
told_layer (Tree-F.Script at items) = Placed (tell.Begin kind.Body) at ∷ told_all items
told_layer (Tree-F.Function at end form kind parameters rest body) =
    told_function at end form kind parameters rest body
told_layer (Tree-F.Inner at number form) = []
told_layer (Tree-F.Body at items) = Placed (tell.Begin kind.Body) at ∷ told_all items
told_layer (Tree-F.Lexical at word binds) = told_statement kind.Statement at (told_all binds)
told_layer (Tree-F.Var at binds) = told_statement kind.Statement at (told_all binds)
told_layer (Tree-F.Bind at word name value) =
    Named (tell.Declare (role.Variable word)) at name ∷ told_initial word (optional value)
told_layer (Tree-F.Block at items end) =
    told_statement kind.Statement at (told_scope (Some end) (told_all items))
told_layer (Tree-F.Empty at) = told_statement kind.Statement at []
told_layer (Tree-F.Debugger at) = told_statement kind.Statement at []
told_layer (Tree-F.If at test body other) =
    told_statement kind.Statement at (test ++ Plain tell.Join ∷ (body ++ told_all (optional other)))
told_layer (Tree-F.DoWhile at body test) =
    told_statement kind.Loop at (body ++ (test ++ Plain tell.Join ∷ []))
told_layer (Tree-F.While at test body) = told_statement kind.Loop at (test ++ Plain tell.Join ∷ body)
told_layer (Tree-F.ForDeclared at word bound iteration over body end) =
    told_statement kind.Loop at
    (told_scope end (told_bound (role.Variable word) bound ++ (over ++ Plain tell.Join ∷ body)))
told_layer (Tree-F.ForBinds at word binds test update body end) =
    told_statement kind.Loop at
    (told_scope end (told_all binds ++ (told_into (optional test) ++ (told_into (optional update) ++ body))))
told_layer (Tree-F.ForLeft at target iteration over body) =
    told_statement kind.Loop at
    (target ++ Plain (tell.Target true) ∷ Plain tell.Join ∷ (over ++ Plain tell.Join ∷ body))
told_layer (Tree-F.ForExpr at first test update body) =
    told_statement kind.Loop at
    (told_into (optional first) ++ (told_into (optional test) ++ (told_into (optional update) ++ body)))
told_layer (Tree-F.Continue at label) = told_statement kind.Statement at (told_jump jump.Continue label)
told_layer (Tree-F.Break at label) = told_statement kind.Statement at (told_jump jump.Break label)
told_layer (Tree-F.Return at value) = told_statement kind.Statement at (told_into (optional value))
told_layer (Tree-F.Throw at value) = told_statement kind.Statement at (value ++ Plain tell.Join ∷ [])
told_layer (Tree-F.Switch at value brace clauses end) =
    told_statement kind.Switch at
    (value ++ Plain tell.Join ∷ Placed (tell.ScopeHere scope.Block) brace
    ∷ (told_all clauses ++ Placed tell.EndScope end ∷ []))
told_layer (Tree-F.Case at value items) = value ++ Plain tell.Join ∷ told_all items
told_layer (Tree-F.Try at block handler finally) =
    told_statement kind.Statement at (block ++ (told_all (optional handler) ++ told_all (optional finally)))
told_layer (Tree-F.Catch at bound brace items end) = told_catch at bound brace (told_all items) end
told_layer (Tree-F.Label at name body) = told_statement kind.Label at (Texted tell.Label name ∷ body)
told_layer (Tree-F.Expression at value) =
    Placed (tell.Begin kind.Expression) at
    ∷ (value ++ Plain tell.Directive ∷ Plain tell.Join ∷ Plain (tell.End kind.Statement) ∷ [])
told_layer (Tree-F.Comma at values) = told_comma values
told_layer (Tree-F.Assign at target operator value) =
    target ++ Plain (tell.Target (takes_pattern operator)) ∷ told_joined value
told_layer (Tree-F.Yield at delegates value) = told_operand at (told_into (optional value))
told_layer (Tree-F.Cond at test first second) = test ++ (first ++ Plain tell.Join ∷ told_joined second)
told_layer (Tree-F.Binary at left operator right) = left ++ told_joined right
told_layer (Tree-F.Unary at operator operand) =
    told_operand at (operand ++ Plain (tell.Unary operator) ∷ Plain tell.Join ∷ [])
told_layer (Tree-F.Postfix at operand operator) = operand ++ Plain (tell.Target false) ∷ one_more
told_layer (Tree-F.Left at head tails) = head ++ (told_all tails ++ Plain (tell.Node shape.Same) ∷ [])
told_layer (Tree-F.NewTarget at) = Placed tell.NewTarget at ∷ []
told_layer (Tree-F.New at callee members args) =
    told_operand at (callee ++ Plain tell.Join ∷ (told_all members ++ told_all (optional args)))
told_layer (Tree-F.Dot at word) = Plain tell.Member ∷ []
told_layer (Tree-F.Index at key) = key ++ Plain tell.Join ∷ Plain tell.Member ∷ []
told_layer (Tree-F.Args at values) = Plain tell.Arguments ∷ (told_arguments values ++ Plain tell.Call ∷ [])
told_layer (Tree-F.Optional at tail) = tail ++ Plain tell.Chain ∷ []
told_layer (Tree-F.Spread at value) = told_part at (value ++ Plain tell.Join ∷ [])
told_layer (Tree-F.This at) = Placed tell.This at ∷ []
told_layer (Tree-F.Identifier at name) = Named tell.Name at name ∷ []
told_layer (Tree-F.Null at) = Placed tell.Literal at ∷ []
told_layer (Tree-F.Truth at value) = Placed tell.Literal at ∷ []
told_layer (Tree-F.Number at value) = Placed tell.Literal at ∷ []
told_layer (Tree-F.OctalNumber at) = Placed tell.Octal at ∷ []
told_layer (Tree-F.Text at written octal) = Written tell.Text at written octal ∷ []
told_layer (Tree-F.Parentheses at value) =
    Placed (tell.Begin kind.Operand) at ∷ (value ++ Plain tell.Parentheses ∷ [])
told_layer (Tree-F.Template at parts holes) = told_operand at (told_into holes)
told_layer (Tree-F.Array at elements) = told_literal at (told_into elements)
told_layer (Tree-F.Hole at) = told_part at []
told_layer (Tree-F.Object at props) = told_literal at (told_into props)
told_layer (Tree-F.Shorthand at name) = told_part at (Texted tell.Use name ∷ [])
told_layer (Tree-F.Property at key value) =
    told_part at (key ++ Plain tell.Valued ∷ (value ++ Plain tell.Join ∷ []))
told_layer (Tree-F.Method at key function) = told_part at (key ++ (function ++ Plain tell.Join ∷ []))
told_layer (Tree-F.Getter at key function) = told_part at (key ++ (function ++ Plain tell.Join ∷ []))
told_layer (Tree-F.Setter at key function) = told_part at (key ++ (function ++ Plain tell.Join ∷ []))
told_layer (Tree-F.WordKey at word) = Texted tell.WordKey word ∷ []
told_layer (Tree-F.TextKey at written octal) = Written tell.TextKey at written octal ∷ []
told_layer (Tree-F.NumberKey at value) = []
told_layer (Tree-F.OctalKey at) = Placed tell.OctalKey at ∷ []
told_layer (Tree-F.ComputedKey at key) = key ++ Plain tell.Join ∷ []
told_layer layer = told_all (node layer).children

unfoldable pub events_of : Tree → List Event
events_of = fold-Tree (List Event) told_layer
