-- Rows of the grammar: members, arguments, primary expressions and templates (ECMA-262, 13.2 and 13.3).
use Rattle.std.specs.Prelude.{ℕ, true, false, if◌then◌else◌, [], ◌∷◌, Some, None}
use Rattle.hz_tree.specs.declared.class.Class.{Class}
use Rattle.hz_tree.specs.declared.class.Class.TheVariants as k
use Rattle.hz_tree.specs.declared.outside.BadKind.TheVariants as bad
use Rattle.hz_tree.specs.declared.outside.OutsideKind.TheVariants as outside
use Rattle.hz_tree.specs.declared.nonterminal.Context.{Context}
use Rattle.hz_tree.specs.declared.nonterminal.Nonterminal.TheVariants as n
use Rattle.hz_tree.specs.declared.signal.NodeKind.TheVariants as node
use Rattle.hz_tree.specs.declared.signal.NodeShape.TheVariants as shape
use Rattle.hz_tree.specs.declared.signal.Signal.TheVariants as tell
use Rattle.hz_tree.specs.declared.symbol.Symbol.TheVariants.{Take, Read, Tell}
use Rattle.hz_tree.specs.declared.token.TokenKind.{TokenKind}
use Rattle.hz_tree.specs.declared.token.TokenKind.TheVariants as token
use Rattle.hz_tree.specs.declared.tree.FunctionForm.TheVariants as form
use Rattle.hz_tree.specs.declared.tree.FunctionKind.TheVariants as kind
use Rattle.hz_tree.specs.declared.tree.Tree.TheVariants as t
use Rattle.hz_tree.specs.grammar.Classes.{is_name, is_word}
use Rattle.hz_tree.specs.declared.look.Look.{Look}
use Rattle.hz_tree.specs.grammar.Look.{is_async, stuck}
use Rattle.hz_tree.specs.grammar.Symbols.{assignment, goes, refuses, Row, with_in}
use Rattle.hz_tree.specs.grammar.FunctionRows.{function_tree}

-- ---- members

-- behind `?.`
abbrev pub optional_tail_row : (c : Context) → Class → Row (n.OptionalTail c)
optional_tail_row c k.LeftBracket =
    goes
    (Take k.LeftBracket ∷ Read (n.Expr (with_in c)) ∷ Tell tell.Join ∷ Take k.RightBracket ∷ Tell tell.Member ∷ [])
    (λ (first, (key, _)). t.Index first.token.at key)
optional_tail_row c k.LeftParen = goes (Read (n.Args c) ∷ []) (λ (args, _). args)
optional_tail_row c k.TemplateWhole = refuses (bad.Outside outside.TaggedTemplate)
optional_tail_row c k.TemplateHead = refuses (bad.Outside outside.TaggedTemplate)
optional_tail_row c _ =
    goes (Read n.Word ∷ Tell tell.Member ∷ []) (λ (word, _). t.Dot word.token.at word.token.text)

abbrev pub word_row : Look → Row n.Word
word_row l = if is_word l.one then goes (Take l.one ∷ []) (λ (word, _). word) else refuses (stuck l)

-- ---- new

-- `new.target`, or `new` and what it constructs
abbrev pub new_row : (c : Context) → (two : Class) → Row (n.Primary c)
new_row c k.Dot =
    goes (Tell tell.NewTarget ∷ Take k.New ∷ Take k.Dot ∷ Take k.Target ∷ []) (λ (told, _). t.NewTarget told.at)
new_row c _ =
    goes
    (Tell (tell.Begin node.Operand) ∷ Take k.New ∷ Read (n.Primary c) ∷ Tell tell.Join ∷ Read (n.Members c)
    ∷ Read (n.NewArgs c) ∷ Tell (tell.Node shape.Other) ∷ [])
    (λ (begun, (_, (callee, (_, (members, (args, _)))))). t.New begun.at callee members args)

abbrev pub members_row : (c : Context) → Class → Row (n.Members c)
members_row c k.Dot =
    goes (Take k.Dot ∷ Read n.Word ∷ Tell tell.Member ∷ Read (n.Members c) ∷ [])
    (λ (first, (word, (_, (more, _)))). t.Dot first.token.at word.token.text ∷ more)
members_row c k.LeftBracket =
    goes
    (Take k.LeftBracket ∷ Read (n.Expr (with_in c)) ∷ Tell tell.Join ∷ Take k.RightBracket ∷ Tell tell.Member
    ∷ Read (n.Members c) ∷ [])
    (λ (first, (key, (_, (_, (_, (more, _)))))). t.Index first.token.at key ∷ more)
members_row c _ = goes [] (λ _. [])

-- an optional chain does not stand behind a `new` without arguments
abbrev pub new_args_row : (c : Context) → Class → Row (n.NewArgs c)
new_args_row c k.LeftParen = goes (Read (n.Args c) ∷ []) (λ (args, _). Some args)
new_args_row c k.OptionalDot = refuses bad.Syntax
new_args_row c _ = goes [] (λ _. None)

-- ---- arguments

abbrev pub args_row : (c : Context) → Row (n.Args c)
args_row c =
    goes
    (Tell tell.Arguments ∷ Take k.LeftParen ∷ Read (n.Arguments (with_in c)) ∷ Take k.RightParen ∷ Tell tell.Call ∷ [])
    (λ (_, (first, (values, _))). t.Args first.token.at values)

abbrev pub arguments_row : (c : Context) → Class → Row (n.Arguments c)
arguments_row c k.RightParen = goes [] (λ _. [])
arguments_row c _ =
    goes (Read (n.Argument c) ∷ Tell tell.Argument ∷ Read (n.MoreArguments c) ∷ [])
    (λ (first, (_, (more, _))). first ∷ more)

abbrev pub more_arguments_row : (c : Context) → Class → Row (n.MoreArguments c)
more_arguments_row c k.Comma = goes (Take k.Comma ∷ Read (n.Arguments c) ∷ []) (λ (_, (more, _)). more)
more_arguments_row c _ = goes [] (λ _. [])

-- an argument of a call, or an element of an array
abbrev pub argument_row : (c : Context) → Class → Row (n.Argument c)
argument_row c k.Ellipsis =
    goes (Tell (tell.Begin node.Part) ∷ Take k.Ellipsis ∷ Read (assignment c) ∷ Tell tell.Join ∷ [])
    (λ (begun, (_, (value, _))). t.Spread begun.at value)
argument_row c _ = goes (Read (assignment c) ∷ []) (λ (value, _). value)

-- ---- primary expressions

abbrev pub number_value : TokenKind → ℕ
number_value (token.Number value) = value
number_value _ = 0

abbrev pub function_expression_row : (c : Context) → (two : Class) → Row (n.Primary c)
function_expression_row c k.Star =
    goes
    (Tell (tell.Open node.Operand kind.Generator) ∷ Take k.Function ∷ Take k.Star ∷ Read n.OwnName ∷ Tell tell.Enter
    ∷ Read n.Params ∷ Read (n.Body true) ∷ Tell tell.Join ∷ Tell tell.Close ∷ Tell (tell.Node shape.Other) ∷ [])
    (λ (opened, (_, (_, (name, (_, (params, (body, (_, (closed, _))))))))).
    function_tree opened closed (form.Expression name) kind.Generator params body)
function_expression_row c _ =
    goes
    (Tell (tell.Open node.Operand kind.Function) ∷ Take k.Function ∷ Read n.OwnName ∷ Tell tell.Enter
    ∷ Read n.Params ∷ Read (n.Body false) ∷ Tell tell.Join ∷ Tell tell.Close ∷ Tell (tell.Node shape.Other) ∷ [])
    (λ (opened, (_, (name, (_, (params, (body, (_, (closed, _)))))))).
    function_tree opened closed (form.Expression name) kind.Function params body)

-- A regular expression is left out of the language. It would begin where any expression could.
abbrev pub primary_by : (c : Context) → Look → Class → Row (n.Primary c)
primary_by c l k.New = new_row c l.two
primary_by c l k.Slash = refuses (bad.Outside outside.RegExp)
primary_by c l k.SlashAssign = refuses (bad.Outside outside.RegExp)
primary_by c l k.This = goes (Tell tell.This ∷ Take k.This ∷ []) (λ (told, _). t.This told.at)
primary_by c l k.Null = goes (Tell tell.Literal ∷ Take k.Null ∷ []) (λ (told, _). t.Null told.at)
primary_by c l k.True = goes (Tell tell.Literal ∷ Take k.True ∷ []) (λ (told, _). t.Truth told.at true)
primary_by c l k.False = goes (Tell tell.Literal ∷ Take k.False ∷ []) (λ (told, _). t.Truth told.at false)
primary_by c l k.Number =
    goes (Tell tell.Literal ∷ Take k.Number ∷ []) (λ (told, (first, _)). t.Number told.at
    (number_value first.token.kind))
primary_by c l k.OctalNumber = goes (Tell tell.Octal ∷ Take k.OctalNumber ∷ []) (λ (told, _). t.OctalNumber told.at)
primary_by c l k.Text = goes (Tell tell.Text ∷ Take k.Text ∷ []) (λ (told, _). t.Text told.at told.text told.octal)
primary_by c l k.LeftParen =
    goes
    (Tell (tell.Begin node.Operand) ∷ Take k.LeftParen ∷ Read (n.Expr (with_in c)) ∷ Take k.RightParen
    ∷ Tell tell.Parentheses ∷ [])
    (λ (begun, (_, (value, _))). t.Parentheses begun.at value)
primary_by c l k.TemplateWhole =
    goes (Tell (tell.Begin node.Operand) ∷ Take k.TemplateWhole ∷ Tell (tell.Node shape.Other) ∷ [])
    (λ (begun, (first, _)). t.Template begun.at (first.token.text ∷ []) [])
primary_by c l k.TemplateHead =
    goes
    (Tell (tell.Begin node.Operand) ∷ Take k.TemplateHead ∷ Read (n.Expr (with_in c)) ∷ Tell tell.Join
    ∷ Read (n.TemplateRest (with_in c)) ∷ Tell (tell.Node shape.Other) ∷ [])
    (λ (begun, (first, (hole, (_, (more, _))))). t.Template begun.at (first.token.text ∷ more.0) (hole ∷ more.1))
primary_by c l k.Function = function_expression_row c l.two
primary_by c l k.LeftBracket =
    goes
    (Tell (tell.Begin node.Operand) ∷ Take k.LeftBracket ∷ Read (n.Elements (with_in c)) ∷ Take k.RightBracket
    ∷ Tell (tell.Node shape.Pattern) ∷ [])
    (λ (begun, (_, (elements, _))). t.Array begun.at elements)
primary_by c l k.LeftBrace =
    goes
    (Tell (tell.Begin node.Operand) ∷ Take k.LeftBrace ∷ Read (n.Props (with_in c)) ∷ Take k.RightBrace
    ∷ Tell (tell.Node shape.Pattern) ∷ [])
    (λ (begun, (_, (props, _))). t.Object begun.at props)
primary_by c l _ =
    if is_name l.one then goes (Tell tell.Name ∷ Take k.Name ∷ []) (λ (told, _). t.Identifier told.at told.text)
    else refuses (stuck l)

abbrev pub primary_row : (c : Context) → Look → Row (n.Primary c)
primary_row c l = if is_async l then refuses (bad.Outside outside.Async) else primary_by c l l.one

-- ---- templates

abbrev pub template_rest_by : (c : Context) → Look → Class → Row (n.TemplateRest c)
template_rest_by c l k.TemplateMiddle =
    goes (Take k.TemplateMiddle ∷ Read (n.Expr c) ∷ Tell tell.Join ∷ Read (n.TemplateRest c) ∷ [])
    (λ (first, (hole, (_, (more, _)))). (first.token.text ∷ more.0, hole ∷ more.1))
template_rest_by c l k.TemplateTail = goes (Take k.TemplateTail ∷ []) (λ (first, _). (first.token.text ∷ [], []))
template_rest_by c l _ = refuses (stuck l)

abbrev pub template_rest_row : (c : Context) → Look → Row (n.TemplateRest c)
template_rest_row c l = template_rest_by c l l.one

-- ---- arrays

-- a comma without an element before it is a hole
abbrev pub elements_row : (c : Context) → Class → Row (n.Elements c)
elements_row c k.RightBracket = goes [] (λ _. [])
elements_row c k.Comma =
    goes (Tell (tell.Begin node.Part) ∷ Tell tell.Join ∷ Take k.Comma ∷ Read (n.Elements c) ∷ [])
    (λ (begun, (_, (_, (more, _)))). t.Hole begun.at ∷ more)
elements_row c _ =
    goes (Read (n.Argument c) ∷ Tell tell.Join ∷ Read (n.MoreElements c) ∷ [])
    (λ (first, (_, (more, _))). first ∷ more)

abbrev pub more_elements_row : (c : Context) → Class → Row (n.MoreElements c)
more_elements_row c k.Comma = goes (Take k.Comma ∷ Read (n.Elements c) ∷ []) (λ (_, (more, _)). more)
more_elements_row c _ = goes [] (λ _. [])
