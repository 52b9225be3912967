-- Rows of the grammar: items and statements (ECMA-262, 14 and 16).
use Rattle.std.specs.Prelude.{Bool, true, false, ◌&&◌, if◌then◌else◌, [], ◌∷◌, Some, None}
use Rattle.hz_tree.specs.declared.class.Class.{Class}
use Rattle.hz_tree.specs.declared.class.Class.TheVariants as k
use Rattle.hz_tree.specs.declared.outside.BadKind.TheVariants as bad
use Rattle.hz_tree.specs.declared.outside.OutsideKind.TheVariants as outside
use Rattle.hz_tree.specs.declared.nonterminal.Context.{Context}
use Rattle.hz_tree.specs.declared.nonterminal.Nonterminal.TheVariants as n
use Rattle.hz_tree.specs.declared.operator.DeclarationWord.{DeclarationWord}
use Rattle.hz_tree.specs.declared.operator.DeclarationWord.TheVariants as word
use Rattle.hz_tree.specs.declared.scope.ScopeKind.TheVariants as scope
use Rattle.hz_tree.specs.declared.signal.Jump.{Jump}
use Rattle.hz_tree.specs.declared.signal.Jump.TheVariants as jump
use Rattle.hz_tree.specs.declared.signal.NodeKind.TheVariants as node
use Rattle.hz_tree.specs.declared.signal.Role.{Role}
use Rattle.hz_tree.specs.declared.signal.Role.TheVariants as role
use Rattle.hz_tree.specs.declared.signal.Signal.TheVariants as tell
use Rattle.hz_tree.specs.declared.symbol.Symbol.TheVariants.{Take, Read, Tell}
use Rattle.hz_tree.specs.declared.tree.FunctionForm.TheVariants as form
use Rattle.hz_tree.specs.declared.tree.FunctionKind.TheVariants as kind
use Rattle.hz_tree.specs.declared.tree.Tree.TheVariants as t
use Rattle.hz_tree.specs.declared.look.Look.{Look}
use Rattle.hz_tree.specs.grammar.Look.{is_async, stuck}
use Rattle.hz_tree.specs.grammar.Classes.{is_name, is_colon}
use Rattle.hz_tree.specs.grammar.Symbols.{assignment, goes, refuses, Row, of_script}
use Rattle.hz_tree.specs.grammar.FunctionRows.{function_tree}
use Rattle.hz_tree.specs.grammar.HeadRows.{for_tree}

-- ---- items

abbrev pub script_row : Row n.Script
script_row =
    goes (Tell (tell.Begin node.Body) ∷ Read (n.Items of_script) ∷ Take k.End ∷ [])
    (λ (begun, (items, _)). t.Script begun.at items)

abbrev pub items_row : (c : Context) → Class → Row (n.Items c)
items_row c k.RightBrace = goes [] (λ _. [])
items_row c k.Case = goes [] (λ _. [])
items_row c k.Default = goes [] (λ _. [])
items_row c k.End = goes [] (λ _. [])
items_row c _ = goes (Read (n.Item c) ∷ Read (n.Items c) ∷ []) (λ (first, (more, _)). first ∷ more)

abbrev pub declaration_row : (c : Context) → (two : Class) → Row (n.Item c)
declaration_row c k.Star =
    goes
    (Tell (tell.Open node.Statement kind.Generator) ∷ Take k.Function ∷ Take k.Star ∷ Read (n.Bound role.Function)
    ∷ Tell tell.Enter ∷ Read n.Params ∷ Read (n.Body true) ∷ Tell tell.Join ∷ Tell tell.Close
    ∷ Tell (tell.End node.Statement) ∷ [])
    (λ (opened, (_, (_, (name, (_, (params, (body, (_, (closed, _))))))))).
    function_tree opened closed (form.Declaration name) kind.Generator params body)
declaration_row c _ =
    goes
    (Tell (tell.Open node.Statement kind.Function) ∷ Take k.Function ∷ Read (n.Bound role.Function) ∷ Tell tell.Enter
    ∷ Read n.Params ∷ Read (n.Body false) ∷ Tell tell.Join ∷ Tell tell.Close ∷ Tell (tell.End node.Statement) ∷ [])
    (λ (opened, (_, (name, (_, (params, (body, (_, (closed, _)))))))).
    function_tree opened closed (form.Declaration name) kind.Function params body)

abbrev pub item_row : (c : Context) → (one two : Class) → Row (n.Item c)
item_row c k.Function two = declaration_row c two
item_row c k.Let _ =
    goes
    (Tell (tell.Begin node.Statement) ∷ Take k.Let ∷ Read (n.Binds word.Let c) ∷ Read n.Semi
    ∷ Tell (tell.End node.Statement) ∷ [])
    (λ (begun, (_, (binds, _))). t.Lexical begun.at word.Let binds)
item_row c k.Const _ =
    goes
    (Tell (tell.Begin node.Statement) ∷ Take k.Const ∷ Read (n.Binds word.Const c) ∷ Read n.Semi
    ∷ Tell (tell.End node.Statement) ∷ [])
    (λ (begun, (_, (binds, _))). t.Lexical begun.at word.Const binds)
item_row c _ _ = goes (Read (n.Statement c) ∷ []) (λ (statement, _). statement)

-- ---- declarations of variables

abbrev pub binds_row : (declared : DeclarationWord) → (c : Context) → Row (n.Binds declared c)
binds_row declared c =
    goes (Read (n.Bind declared c) ∷ Read (n.MoreBinds declared c) ∷ []) (λ (first, (more, _)). first ∷ more)

abbrev pub bind_row : (declared : DeclarationWord) → (c : Context) → Row (n.Bind declared c)
bind_row declared c =
    goes (Read (n.Bound (role.Variable declared)) ∷ Read (n.Initial declared c) ∷ [])
    (λ (bound, (value, _)). t.Bind bound.at declared bound.name value)

abbrev pub no_value : (declared : DeclarationWord) → (c : Context) → Row (n.Initial declared c)
no_value word.Const c = goes (Tell tell.Bare ∷ []) (λ _. None)
no_value declared c = goes [] (λ _. None)

abbrev pub initial_row : (declared : DeclarationWord) → (c : Context) → Class → Row (n.Initial declared c)
initial_row declared c k.Assign =
    goes (Take k.Assign ∷ Read (assignment c) ∷ Tell tell.Join ∷ []) (λ (_, (value, _)). Some value)
initial_row declared c _ = no_value declared c

abbrev pub more_binds_row : (declared : DeclarationWord) → (c : Context) → Class → Row (n.MoreBinds declared c)
more_binds_row declared c k.Comma = goes (Take k.Comma ∷ Read (n.Binds declared c) ∷ []) (λ (_, (binds, _)). binds)
more_binds_row declared c _ = goes [] (λ _. [])

-- a name in the place of a binding; a pattern there is left out of the language
abbrev pub bound_by : (bound : Role) → Look → Class → Row (n.Bound bound)
bound_by bound l k.LeftBracket = refuses (bad.Outside outside.Pattern)
bound_by bound l k.LeftBrace = refuses (bad.Outside outside.Pattern)
bound_by bound l _ =
    if is_name l.one then
    goes (Tell (tell.Declare bound) ∷ Take k.Name ∷ []) (λ (told, _). record { at = told.at; name = told.text })
    else refuses (stuck l)

abbrev pub bound_row : (bound : Role) → Look → Row (n.Bound bound)
bound_row bound l = bound_by bound l l.one

-- ---- semicolons (12.10)

abbrev pub semi_by : Look → (newline : Bool) → Class → Row n.Semi
semi_by l newline k.Semicolon = goes (Take k.Semicolon ∷ []) (λ _. tt)
semi_by l newline k.RightBrace = goes [] (λ _. tt)
semi_by l newline k.End = goes [] (λ _. tt)
semi_by l true _ = goes [] (λ _. tt)
semi_by l false _ = refuses (stuck l)

abbrev pub semi_row : Look → Row n.Semi
semi_row l = semi_by l l.one_newline l.one

abbrev pub loose_semi_row : Class → Row n.LooseSemi
loose_semi_row k.Semicolon = goes (Take k.Semicolon ∷ []) (λ _. tt)
loose_semi_row _ = goes [] (λ _. tt)

-- ---- statements

abbrev pub block_row : (c : Context) → Row (n.Block c)
block_row c =
    goes
    (Tell (tell.Begin node.Statement) ∷ Tell tell.Scope ∷ Take k.LeftBrace ∷ Read (n.Items c) ∷ Take k.RightBrace
    ∷ Tell tell.EndScope ∷ Tell (tell.End node.Statement) ∷ [])
    (λ (begun, (_, (_, (items, (_, (ended, _)))))). t.Block begun.at items ended.behind)

abbrev pub return_row : (c : Context) → (returns : Bool) → Row (n.Statement c)
return_row c true =
    goes
    (Tell (tell.Begin node.Statement) ∷ Take k.Return ∷ Read (n.ReturnValue c) ∷ Read n.Semi
    ∷ Tell (tell.End node.Statement) ∷ [])
    (λ (begun, (_, (value, _))). t.Return begun.at value)
return_row c false = refuses bad.Syntax

abbrev pub switch_row : (c : Context) → Row (n.Statement c)
switch_row c =
    goes
    (Tell (tell.Begin node.Switch) ∷ Take k.Switch ∷ Take k.LeftParen ∷ Read (n.Expr c) ∷ Tell tell.Join
    ∷ Take k.RightParen ∷ Tell (tell.ScopeHere scope.Block) ∷ Take k.LeftBrace ∷ Read (n.Clauses c false)
    ∷ Take k.RightBrace ∷ Tell tell.EndScope ∷ Tell (tell.End node.Switch) ∷ [])
    (λ (begun, (_, (_, (value, (_, (_, (brace, (_, (clauses, (_, (ended, _))))))))))).
    t.Switch begun.at value brace.at clauses ended.behind)

abbrev pub statement_by : (c : Context) → Look → Class → Row (n.Statement c)
statement_by c l k.LeftBrace = goes (Read (n.Block c) ∷ []) (λ (block, _). block)
statement_by c l k.Var =
    goes
    (Tell (tell.Begin node.Statement) ∷ Take k.Var ∷ Read (n.Binds word.Var c) ∷ Read n.Semi
    ∷ Tell (tell.End node.Statement) ∷ [])
    (λ (begun, (_, (binds, _))). t.Var begun.at binds)
statement_by c l k.Semicolon =
    goes (Tell (tell.Begin node.Statement) ∷ Take k.Semicolon ∷ Tell (tell.End node.Statement) ∷ [])
    (λ (begun, _). t.Empty begun.at)
statement_by c l k.Debugger =
    goes (Tell (tell.Begin node.Statement) ∷ Take k.Debugger ∷ Read n.Semi ∷ Tell (tell.End node.Statement) ∷ [])
    (λ (begun, _). t.Debugger begun.at)
statement_by c l k.If =
    goes
    (Tell (tell.Begin node.Statement) ∷ Take k.If ∷ Take k.LeftParen ∷ Read (n.Expr c) ∷ Tell tell.Join
    ∷ Take k.RightParen ∷ Read (n.Statement c) ∷ Read (n.Else c) ∷ Tell (tell.End node.Statement) ∷ [])
    (λ (begun, (_, (_, (test, (_, (_, (body, (other, _)))))))). t.If begun.at test body other)
statement_by c l k.Do =
    goes
    (Tell (tell.Begin node.Loop) ∷ Take k.Do ∷ Read (n.Statement c) ∷ Take k.While ∷ Take k.LeftParen
    ∷ Read (n.Expr c) ∷ Tell tell.Join ∷ Take k.RightParen ∷ Read n.LooseSemi ∷ Tell (tell.End node.Loop) ∷ [])
    (λ (begun, (_, (body, (_, (_, (test, _)))))). t.DoWhile begun.at body test)
statement_by c l k.While =
    goes
    (Tell (tell.Begin node.Loop) ∷ Take k.While ∷ Take k.LeftParen ∷ Read (n.Expr c) ∷ Tell tell.Join
    ∷ Take k.RightParen ∷ Read (n.Statement c) ∷ Tell (tell.End node.Loop) ∷ [])
    (λ (begun, (_, (_, (test, (_, (_, (body, _))))))). t.While begun.at test body)
statement_by c l k.For =
    goes
    (Tell (tell.Begin node.Loop) ∷ Take k.For ∷ Read n.ForOpen ∷ Read (n.Head c) ∷ Tell (tell.End node.Loop) ∷ [])
    (λ (begun, (_, (_, (after, _)))). for_tree begun.at after)
statement_by c l k.Continue =
    goes
    (Tell (tell.Begin node.Statement) ∷ Take k.Continue ∷ Read (n.Label jump.Continue) ∷ Read n.Semi
    ∷ Tell (tell.End node.Statement) ∷ [])
    (λ (begun, (_, (label, _))). t.Continue begun.at label)
statement_by c l k.Break =
    goes
    (Tell (tell.Begin node.Statement) ∷ Take k.Break ∷ Read (n.Label jump.Break) ∷ Read n.Semi
    ∷ Tell (tell.End node.Statement) ∷ [])
    (λ (begun, (_, (label, _))). t.Break begun.at label)
statement_by c l k.Return = return_row c c.returns
statement_by c l k.Throw =
    goes
    (Tell (tell.Begin node.Statement) ∷ Take k.Throw ∷ Read (n.ThrowValue c) ∷ Read n.Semi
    ∷ Tell (tell.End node.Statement) ∷ [])
    (λ (begun, (_, (value, _))). t.Throw begun.at value)
statement_by c l k.Switch = switch_row c
statement_by c l k.Try =
    goes
    (Tell (tell.Begin node.Statement) ∷ Take k.Try ∷ Read (n.Block c) ∷ Read (n.Handlers c)
    ∷ Tell (tell.End node.Statement) ∷ [])
    (λ (begun, (_, (block, (handlers, _)))). t.Try begun.at block handlers.0 handlers.1)
statement_by c l k.Function = refuses bad.Syntax
statement_by c l _ =
    goes
    (Tell (tell.Begin node.Expression) ∷ Read (n.Expr c) ∷ Tell tell.Directive ∷ Tell tell.Join ∷ Read n.Semi
    ∷ Tell (tell.End node.Statement) ∷ [])
    (λ (begun, (value, _)). t.Expression begun.at value)

abbrev pub labelled_row : (c : Context) → Row (n.Statement c)
labelled_row c =
    goes
    (Tell (tell.Begin node.Label) ∷ Tell tell.Label ∷ Take k.Name ∷ Take k.Colon ∷ Read (n.Statement c)
    ∷ Tell (tell.End node.Label) ∷ [])
    (λ (begun, (label, (_, (_, (body, _))))). t.Label begun.at label.text body)

abbrev pub statement_row : (c : Context) → Look → Row (n.Statement c)
statement_row c l =
    if is_async l then refuses (bad.Outside outside.Async)
    else (if is_name l.one && is_colon l.two then labelled_row c else statement_by c l l.one)

abbrev pub else_row : (c : Context) → Class → Row (n.Else c)
else_row c k.Else = goes (Take k.Else ∷ Read (n.Statement c) ∷ []) (λ (_, (body, _)). Some body)
else_row c _ = goes [] (λ _. None)

abbrev pub no_label : (jump : Jump) → Row (n.Label jump)
no_label jump = goes (Tell (tell.Jump jump) ∷ []) (λ _. None)

abbrev pub label_by : (jump : Jump) → (newline : Bool) → Class → Row (n.Label jump)
label_by jump true one = no_label jump
label_by jump false one =
    if is_name one then goes (Tell (tell.JumpTo jump) ∷ Take k.Name ∷ [])
    (λ (told, _). Some (record { at = told.at; name = told.text }))
    else no_label jump

abbrev pub label_row : (jump : Jump) → Look → Row (n.Label jump)
label_row jump l = label_by jump l.one_newline l.one

-- no expression stands behind a `return` at the end of its line or statement
abbrev pub return_value_by : (c : Context) → (newline : Bool) → Class → Row (n.ReturnValue c)
return_value_by c true one = goes [] (λ _. None)
return_value_by c false k.Semicolon = goes [] (λ _. None)
return_value_by c false k.RightBrace = goes [] (λ _. None)
return_value_by c false k.End = goes [] (λ _. None)
return_value_by c false _ = goes (Read (n.Expr c) ∷ Tell tell.Join ∷ []) (λ (value, _). Some value)

abbrev pub return_value_row : (c : Context) → Look → Row (n.ReturnValue c)
return_value_row c l = return_value_by c l.one_newline l.one

abbrev pub throw_value_by : (c : Context) → Look → (newline : Bool) → Row (n.ThrowValue c)
throw_value_by c l true = refuses (stuck l)
throw_value_by c l false = goes (Read (n.Expr c) ∷ Tell tell.Join ∷ []) (λ (value, _). value)

abbrev pub throw_value_row : (c : Context) → Look → Row (n.ThrowValue c)
throw_value_row c l = throw_value_by c l l.one_newline

-- ---- switch and try

-- at most one `default`
abbrev pub clauses_row : (c : Context) → (has_default : Bool) → Class → Row (n.Clauses c has_default)
clauses_row c has_default k.Case =
    goes
    (Take k.Case ∷ Read (n.Expr c) ∷ Tell tell.Join ∷ Take k.Colon ∷ Read (n.Items c)
    ∷ Read (n.Clauses c has_default) ∷ [])
    (λ (first, (value, (_, (_, (items, (more, _)))))). t.Case first.token.at value items ∷ more)
clauses_row c false k.Default =
    goes (Take k.Default ∷ Take k.Colon ∷ Read (n.Items c) ∷ Read (n.Clauses c true) ∷ [])
    (λ (first, (_, (items, (more, _)))). t.Default first.token.at items ∷ more)
clauses_row c has_default _ = goes [] (λ _. [])

abbrev pub handlers_by : (c : Context) → Look → Class → Row (n.Handlers c)
handlers_by c l k.Catch =
    goes (Read (n.CatchClause c) ∷ Read (n.Finally c) ∷ []) (λ (handler, (finally, _)). (Some handler, finally))
handlers_by c l k.Finally = goes (Read (n.Finally c) ∷ []) (λ (finally, _). (None, finally))
handlers_by c l _ = refuses (stuck l)

abbrev pub handlers_row : (c : Context) → Look → Row (n.Handlers c)
handlers_row c l = handlers_by c l l.one

abbrev pub catch_clause_row : (c : Context) → Row (n.CatchClause c)
catch_clause_row c =
    goes
    (Tell (tell.ScopeHere scope.Catch) ∷ Take k.Catch ∷ Read n.CatchName ∷ Tell (tell.Begin node.Statement)
    ∷ Take k.LeftBrace ∷ Read (n.Items c) ∷ Take k.RightBrace ∷ Tell (tell.End node.Statement) ∷ Tell tell.EndScope
    ∷ [])
    (λ (here, (_, (bound, (begun, (_, (items, (_, (_, (ended, _))))))))).
    t.Catch here.at bound begun.at items ended.behind)

abbrev pub catch_name_row : Class → Row n.CatchName
catch_name_row k.LeftParen =
    goes (Take k.LeftParen ∷ Read (n.Bound role.Caught) ∷ Take k.RightParen ∷ []) (λ (_, (bound, _)). Some bound)
catch_name_row _ = goes [] (λ _. None)

abbrev pub finally_row : (c : Context) → Class → Row (n.Finally c)
finally_row c k.Finally = goes (Take k.Finally ∷ Read (n.Block c) ∷ []) (λ (_, (block, _)). Some block)
finally_row c _ = goes [] (λ _. None)
