-- Rows of the grammar: the head of a `for` with its body (ECMA-262, 14.7.4 and 14.7.5).
use Rattle.std.specs.Prelude.{ℕ, Bool, true, false, ◌&&◌, ◌||◌, if◌then◌else◌, List, [], ◌∷◌, Option, Some, None}
use Rattle.hz_tree.specs.declared.class.Class.{Class}
use Rattle.hz_tree.specs.declared.class.Class.TheVariants as k
use Rattle.hz_tree.specs.declared.outside.BadKind.TheVariants as bad
use Rattle.hz_tree.specs.declared.outside.OutsideKind.TheVariants as outside
use Rattle.hz_tree.specs.declared.nonterminal.Context.{Context}
use Rattle.hz_tree.specs.declared.nonterminal.Nonterminal.TheVariants as n
use Rattle.hz_tree.specs.declared.operator.DeclarationWord.{DeclarationWord}
use Rattle.hz_tree.specs.declared.operator.DeclarationWord.TheVariants as word
use Rattle.hz_tree.specs.declared.operator.Iteration.TheVariants as iteration
use Rattle.hz_tree.specs.declared.operator.Level.TheVariants as level
use Rattle.hz_tree.specs.declared.operator.UnaryOperator.{UnaryOperator}
use Rattle.hz_tree.specs.declared.signal.Role.TheVariants as role
use Rattle.hz_tree.specs.declared.signal.Signal.TheVariants as tell
use Rattle.hz_tree.specs.declared.symbol.Symbol.{Symbol}
use Rattle.hz_tree.specs.declared.symbol.Symbol.TheVariants.{Take, Read, Tell}
use Rattle.hz_tree.specs.declared.tree.Tree.{Tree}
use Rattle.hz_tree.specs.declared.tree.Tree.TheVariants as t
use Rattle.hz_tree.specs.declared.look.Look.{Look}
use Rattle.hz_tree.specs.grammar.Look.{begins_arrow}
use Rattle.hz_tree.specs.grammar.Classes.{is_async_word, is_of, is_yield}
use Rattle.hz_tree.specs.grammar.Symbols.{goes_over, initialised, target_of, expression_of}
use Rattle.hz_tree.specs.grammar.Symbols.{AfterFor, declares, begins_left, begins_expr}
use Rattle.hz_tree.specs.grammar.Symbols.{assignment, goes, refuses, Row, without_in}
use Rattle.hz_tree.specs.grammar.ExpressionRows.{listed}
use Rattle.hz_tree.specs.grammar.OperatorRows.{applied}
use Rattle.hz_tree.specs.grammar.Operators.{unary_operator}

abbrev pub for_open_row : Class → Row n.ForOpen
for_open_row k.Await = refuses (bad.Outside outside.Async)
for_open_row _ = goes (Take k.LeftParen ∷ []) (λ _. tt)

abbrev pub for_tree : (at : ℕ) → AfterFor → Tree
for_tree at (declares declared bound (goes_over iteration over) body end) =
    t.ForDeclared at declared bound iteration over body end
for_tree at (declares declared bound (initialised value more test update) body end) =
    t.ForBinds at declared (t.Bind bound.at declared bound.name value ∷ more) test update body end
for_tree at (begins_left left (target_of iteration over) body) = t.ForLeft at left iteration over body
for_tree at (begins_left left (expression_of operators more test update) body) =
    t.ForExpr at (Some (listed (applied left operators) more)) test update body
for_tree at (begins_expr first test update body) = t.ForExpr at first test update body

-- ---- heads that declare

abbrev pub declared_head_row : (declared : DeclarationWord) → (c : Context) → Class → Row (n.DeclaredHead declared c)
declared_head_row declared c k.In =
    goes (Take k.In ∷ Read (n.Expr c) ∷ Tell tell.Join ∷ []) (λ (_, (values, _)). goes_over iteration.In values)
declared_head_row declared c k.Of =
    goes (Take k.Of ∷ Read (assignment c) ∷ Tell tell.Join ∷ []) (λ (_, (values, _)). goes_over iteration.Of values)
declared_head_row declared c _ =
    goes
    (Read (n.Initial declared (without_in c)) ∷ Read (n.MoreBinds declared (without_in c)) ∷ Take k.Semicolon
    ∷ Read (n.OptionalExpr c) ∷ Take k.Semicolon ∷ Read (n.OptionalExpr c) ∷ [])
    (λ (value, (more, (_, (test, (_, (update, _)))))). initialised value more test update)

-- a head with `let` or `const`, which has a scope
abbrev pub lexical_head_row : DeclarationWord → Class → (c : Context) → Row (n.Head c)
lexical_head_row declared one c =
    goes
    (Tell tell.Scope ∷ Take one ∷ Read (n.Bound (role.Variable declared)) ∷ Read (n.DeclaredHead declared c)
    ∷ Take k.RightParen ∷ Read (n.Statement c) ∷ Tell tell.EndScope ∷ [])
    (λ (_, (_, (bound, (after, (_, (body, (ended, _))))))). declares declared bound after body (Some ended.behind))

-- ---- heads that begin with an expression

-- The expression goes on behind its left-hand side, where neither `in` nor `of` stands there.
abbrev pub left_head_row : (c : Context) → Class → Row (n.LeftHead c)
left_head_row c k.In =
    goes (Tell (tell.Target true) ∷ Tell tell.Join ∷ Take k.In ∷ Read (n.Expr c) ∷ Tell tell.Join ∷ [])
    (λ (_, (_, (_, (values, _)))). target_of iteration.In values)
left_head_row c k.Of =
    goes (Tell (tell.Target true) ∷ Tell tell.Join ∷ Take k.Of ∷ Read (assignment c) ∷ Tell tell.Join ∷ [])
    (λ (_, (_, (_, (values, _)))). target_of iteration.Of values)
left_head_row c _ =
    goes
    (Read (n.Rests level.Assignment level.Update (without_in c)) ∷ Read (n.ExprRest false (without_in c))
    ∷ Tell tell.Join ∷ Take k.Semicolon ∷ Read (n.OptionalExpr c) ∷ Take k.Semicolon ∷ Read (n.OptionalExpr c) ∷ [])
    (λ (operators, (more, (_, (_, (test, (_, (update, _))))))). expression_of operators more test update)

abbrev pub is_unary : Option UnaryOperator → Bool
is_unary (Some operator) = true
is_unary None = false

-- The head begins with an expression that is no left-hand side.
abbrev pub is_no_left : (c : Context) → Look → Bool
is_no_left c l = is_unary (unary_operator l.one) || (begins_arrow l || (is_yield l.one && c.yields))

-- the `)` and the statement behind it
abbrev pub body_of : Context → List Symbol
body_of c = Take k.RightParen ∷ Read (n.Statement c) ∷ []

abbrev pub expr_head_row : (c : Context) → Look → Row (n.Head c)
expr_head_row c l =
    if is_async_word l.one && is_of l.two then refuses (bad.Outside outside.Async)
    else (if is_no_left c l then
    goes
    (Read (n.Expr (without_in c)) ∷ Tell tell.Join ∷ Take k.Semicolon ∷ Read (n.OptionalExpr c) ∷ Take k.Semicolon
    ∷ Read (n.OptionalExpr c) ∷ body_of c)
    (λ (first, (_, (_, (test, (_, (update, (_, (body, _)))))))). begins_expr (Some first) test update body)
    else goes (Read (n.Operation level.Member c) ∷ Read (n.LeftHead c) ∷ body_of c)
    (λ (left, (after, (_, (body, _)))). begins_left left after body))

abbrev pub head_by : (c : Context) → Look → Class → Row (n.Head c)
head_by c l k.Var =
    goes
    (Take k.Var ∷ Read (n.Bound (role.Variable word.Var)) ∷ Read (n.DeclaredHead word.Var c) ∷ body_of c)
    (λ (_, (bound, (after, (_, (body, _))))). declares word.Var bound after body None)
head_by c l k.Let = lexical_head_row word.Let k.Let c
head_by c l k.Const = lexical_head_row word.Const k.Const c
head_by c l k.Semicolon =
    goes
    (Take k.Semicolon ∷ Read (n.OptionalExpr c) ∷ Take k.Semicolon ∷ Read (n.OptionalExpr c) ∷ body_of c)
    (λ (_, (test, (_, (update, (_, (body, _)))))). begins_expr None test update body)
head_by c l _ = expr_head_row c l

abbrev pub head_row : (c : Context) → Look → Row (n.Head c)
head_row c l = head_by c l l.one

-- before a `;` or the `)` of the head
abbrev pub optional_expr_row : (c : Context) → Class → Row (n.OptionalExpr c)
optional_expr_row c k.Semicolon = goes [] (λ _. None)
optional_expr_row c k.RightParen = goes [] (λ _. None)
optional_expr_row c _ = goes (Read (n.Expr c) ∷ Tell tell.Join ∷ []) (λ (value, _). Some value)
