-- Each right-hand side closes the braces and the holes that it opens, and goes on with templates that it began alone.
use Rattle.std.proofs.Common.{◌≡◌, Bool, true, false, not, ◌&&◌, if◌then◌else◌, [], Option, Some, None}
use Rattle.std.proofs.Common.{refl, ap}
use Rattle.hz_tree.specs.declared.class.Class.{Class}
use Rattle.hz_tree.specs.declared.class.Class.TheVariants as k
use Rattle.hz_tree.specs.declared.look.Look.{Look}
use Rattle.hz_tree.specs.declared.nonterminal.Context.{Context}
use Rattle.hz_tree.specs.declared.nonterminal.Nonterminal.{Nonterminal}
use Rattle.hz_tree.specs.declared.nonterminal.Nonterminal.TheVariants as n
use Rattle.hz_tree.specs.declared.operator.AssignOperator.{AssignOperator}
use Rattle.hz_tree.specs.declared.operator.BinaryOperator.{BinaryOperator}
use Rattle.hz_tree.specs.declared.operator.DeclarationWord.{DeclarationWord}
use Rattle.hz_tree.specs.declared.operator.DeclarationWord.TheVariants as word
use Rattle.hz_tree.specs.declared.operator.Level.{Level}
use Rattle.hz_tree.specs.declared.operator.Level.TheVariants as level
use Rattle.hz_tree.specs.declared.operator.UnaryOperator.{UnaryOperator}
use Rattle.hz_tree.specs.declared.operator.UpdateOperator.{UpdateOperator}
use Rattle.hz_tree.specs.declared.signal.Role.{Role}
use Rattle.hz_tree.specs.grammar.Classes.{is_name, is_of, is_colon, begins_key, is_async_word, is_paren}
use Rattle.hz_tree.specs.grammar.Look.{is_async, begins_arrow}
use Rattle.hz_tree.specs.grammar.Operators.{assign_operator, binary_operator, unary_operator, update_operator}
use Rattle.hz_tree.specs.grammar.Symbols.{Row, goes, refuses}
use Rattle.hz_tree.specs.grammar.ExpressionRows.{expr_end}
use Rattle.hz_tree.specs.grammar.HeadRows.{is_no_left, head_by}
use Rattle.hz_tree.specs.grammar.OperatorRows.{reads_on, operator_row, rest_row, rests_row, arrow_row, operand_row}
use Rattle.hz_tree.specs.grammar.OperatorRows.{operation_by, is_loosest, without_tails, tails_end, tails_by}
use Rattle.hz_tree.specs.grammar.PrimaryRows.{new_row, function_expression_row, primary_by}
use Rattle.hz_tree.specs.grammar.PropertyRows.{plain_prop_row, getter_row, setter_row, prop_by}
use Rattle.hz_tree.specs.grammar.StatementRows.{bound_by, declaration_row, no_value, return_row, statement_by}
use Rattle.hz_tree.specs.grammar.Table.{Step, pushes, fails, row, step_of}
use Rattle.hz_laws.specs.Middle.{hole}
use Rattle.hz_alone.specs.Walks.{Walk, stays, walk, after_walk, walks_all}

-- ---- right-hand sides

abbrev pub is_walked : Nonterminal → Step → Bool
is_walked m (pushes right) = walks_all (hole m) right
is_walked m (fails cause) = true

abbrev pub Walks : (m : Nonterminal) → Row m → Type 0
Walks m r = is_walked m (step_of r) ≡ true

walks_if : (m : Nonterminal) (test : Bool) (a b : Row m) → Walks m a → Walks m b → Walks m (if test then a else b)
walks_if m true a b h i = h
walks_if m false a b h i = i

-- ---- rows of functions

plain_declaration : (c : Context) → Walks (n.Item c) (declaration_row c k.Name)
plain_declaration c = refl

declaration_walks : (c : Context) (two : Class) → Walks (n.Item c) (declaration_row c two)
declaration_walks c k.Star = refl
declaration_walks c _ = plain_declaration c

plain_expression : (c : Context) → Walks (n.Primary c) (function_expression_row c k.Name)
plain_expression c = refl

expression_walks : (c : Context) (two : Class) → Walks (n.Primary c) (function_expression_row c two)
expression_walks c k.Star = refl
expression_walks c _ = plain_expression c

arrow_walks : (loosest : Level) (c : Context) (parenthesised : Bool)
    → Walks (n.Operation loosest c) (arrow_row loosest c parenthesised)
arrow_walks loosest c true = refl
arrow_walks loosest c false = refl

-- ---- rows that test more than one class

return_walks : (c : Context) (returns : Bool) → Walks (n.Statement c) (return_row c returns)
return_walks c true = refl
return_walks c false = refl

expression_statement : (c : Context) (l : Look) → Walks (n.Statement c) (statement_by c l k.Name)
expression_statement c l = refl

statement_walks : (c : Context) (l : Look) (one : Class) → Walks (n.Statement c) (statement_by c l one)
statement_walks c l k.LeftBrace = refl
statement_walks c l k.For = refl
statement_walks c l k.If = refl
statement_walks c l k.Try = refl
statement_walks c l k.Return = return_walks c c.returns
statement_walks c l k.Function = refl
statement_walks c l k.Var = refl
statement_walks c l k.Semicolon = refl
statement_walks c l k.Debugger = refl
statement_walks c l k.Do = refl
statement_walks c l k.While = refl
statement_walks c l k.Continue = refl
statement_walks c l k.Break = refl
statement_walks c l k.Throw = refl
statement_walks c l k.Switch = refl
statement_walks c l _ = expression_statement c l

no_value_walks : (word : DeclarationWord) (c : Context) → Walks (n.Initial word c) (no_value word c)
no_value_walks word.Const c = refl
no_value_walks _ c = refl

expr_end_walks : (listed : Bool) (c : Context) → Walks (n.ExprRest listed c) (expr_end listed c)
expr_end_walks true c = refl
expr_end_walks false c = refl

expr_head_walks : (c : Context) (l : Look) → Walks (n.Head c) (head_by c l k.Name)
expr_head_walks c l = walks_if (n.Head c) (is_async_word l.one && is_of l.two) _ _ refl (walks_if (n.Head c)
    (is_no_left c l) _ _ refl refl)

head_walks : (c : Context) (l : Look) (one : Class) → Walks (n.Head c) (head_by c l one)
head_walks c l k.Var = refl
head_walks c l k.Let = refl
head_walks c l k.Const = refl
head_walks c l k.Semicolon = refl
head_walks c l _ = expr_head_walks c l

-- an operator opens and closes nothing
abbrev operating : Class → Option AssignOperator → Option UpdateOperator → Option BinaryOperator → Walk
operating one (Some operator) updated joined = walk one
operating one None (Some operator) joined = walk one
operating one None None (Some operator) = walk one
operating one None None None = stays

operators_stay : (one : Class) → operating one (assign_operator one) (update_operator one) (binary_operator one) ≡ stays
operators_stay k.Plus = refl
operators_stay _ = refl

walks_by : (made : Walk) → made ≡ stays → after_walk made [] (λ now. walks_all now []) ≡ true
walks_by made h = ap (λ x. after_walk x [] (λ now. walks_all now [])) h

operator_walks : (loosest tightest : Level) (c : Context) (one : Class) (assigned : Option AssignOperator)
    (updated : Option UpdateOperator) (joined : Option BinaryOperator) → operating one assigned updated joined ≡ stays
    → Walks (n.Rests loosest tightest c) (operator_row loosest tightest c one assigned updated joined)
operator_walks loosest tightest c one (Some operator) updated joined stay = walks_by (walk one) stay
operator_walks loosest tightest c one None (Some operator) joined stay = walks_by (walk one) stay
operator_walks loosest tightest c one None None (Some operator) stay = walks_by (walk one) stay
operator_walks loosest tightest c one None None None stay = refl

rest_walks : (loosest tightest : Level) (c : Context) (one : Class)
    → Walks (n.Rests loosest tightest c) (rest_row loosest tightest c one)
rest_walks loosest tightest c k.Question = refl
rest_walks loosest tightest c one =
    operator_walks loosest tightest c one (assign_operator one) (update_operator one) (binary_operator one)
    (operators_stay one)

rests_walks : (loosest tightest : Level) (c : Context) (l : Look)
    → Walks (n.Rests loosest tightest c) (rests_row loosest tightest c l)
rests_walks loosest tightest c l = walks_if (n.Rests loosest tightest c) (reads_on loosest tightest c l.one_newline
    l.one) _ _ (rest_walks loosest tightest c l.one) refl

without_walks : (loosest : Level) (c : Context) (r : Row (n.Rests loosest level.Update c))
    → Walks (n.Rests loosest level.Update c) r → Walks (n.Tails false loosest c) (without_tails loosest c r)
without_walks loosest c (goes right make) h = h
without_walks loosest c (refuses cause) h = refl

tails_end_walks : (tailed : Bool) (loosest : Level) (c : Context) (l : Look)
    → Walks (n.Tails tailed loosest c) (tails_end tailed loosest c l)
tails_end_walks true loosest c l = refl
tails_end_walks false loosest c l = without_walks loosest c (rests_row loosest level.Update c l) (rests_walks
    loosest level.Update c l)

tails_walks : (tailed : Bool) (loosest : Level) (c : Context) (l : Look) (one : Class)
    → Walks (n.Tails tailed loosest c) (tails_by tailed loosest c l one)
tails_walks tailed loosest c l k.Dot = refl
tails_walks tailed loosest c l k.LeftBracket = refl
tails_walks tailed loosest c l k.LeftParen = refl
tails_walks tailed loosest c l k.OptionalDot = refl
tails_walks tailed loosest c l k.TemplateWhole = refl
tails_walks tailed loosest c l k.TemplateHead = refl
tails_walks tailed loosest c l _ = tails_end_walks tailed loosest c l

abbrev prefixed : Class → Option UnaryOperator → Walk
prefixed one (Some operator) = walk one
prefixed one None = stays

prefixes_stay : (one : Class) → prefixed one (unary_operator one) ≡ stays
prefixes_stay k.Plus = refl
prefixes_stay _ = refl

operand_walks : (loosest : Level) (c : Context) (one : Class) (operator : Option UnaryOperator)
    → prefixed one operator ≡ stays → Walks (n.Operation loosest c) (operand_row loosest c one operator)
operand_walks loosest c one (Some operator) stay = walks_by (walk one) stay
operand_walks loosest c one None stay = refl

operation_walks : (loosest : Level) (c : Context) (yields : Bool) (one : Class)
    → Walks (n.Operation loosest c) (operation_by loosest c yields one)
operation_walks loosest c true k.Yield = refl
operation_walks loosest c yields one = operand_walks loosest c one (unary_operator one) (prefixes_stay one)

plain_new : (c : Context) → Walks (n.Primary c) (new_row c k.Name)
plain_new c = refl

new_walks : (c : Context) (two : Class) → Walks (n.Primary c) (new_row c two)
new_walks c k.Dot = refl
new_walks c _ = plain_new c

identifier_walks : (c : Context) (l : Look) → Walks (n.Primary c) (primary_by c l k.Name)
identifier_walks c l = walks_if (n.Primary c) (is_name l.one) _ _ refl refl

primary_walks : (c : Context) (l : Look) (one : Class) → Walks (n.Primary c) (primary_by c l one)
primary_walks c l k.Slash = refl
primary_walks c l k.SlashAssign = refl
primary_walks c l k.New = new_walks c l.two
primary_walks c l k.Function = expression_walks c l.two
primary_walks c l k.This = refl
primary_walks c l k.Null = refl
primary_walks c l k.True = refl
primary_walks c l k.False = refl
primary_walks c l k.Number = refl
primary_walks c l k.OctalNumber = refl
primary_walks c l k.Text = refl
primary_walks c l k.LeftParen = refl
primary_walks c l k.TemplateWhole = refl
primary_walks c l k.TemplateHead = refl
primary_walks c l k.LeftBracket = refl
primary_walks c l k.LeftBrace = refl
primary_walks c l _ = identifier_walks c l

plain_prop_walks : (c : Context) (l : Look) → Walks (n.Prop c) (plain_prop_row c l)
plain_prop_walks c l = walks_if (n.Prop c) (is_name l.one && (not (is_colon l.two) && not (is_paren l.two))) _ _
    refl refl

getter_walks : (c : Context) (l : Look) (keyed : Bool) → Walks (n.Prop c) (getter_row c l keyed)
getter_walks c l true = refl
getter_walks c l false = plain_prop_walks c l

setter_walks : (c : Context) (l : Look) (keyed : Bool) → Walks (n.Prop c) (setter_row c l keyed)
setter_walks c l true = refl
setter_walks c l false = plain_prop_walks c l

prop_walks : (c : Context) (l : Look) (one : Class) → Walks (n.Prop c) (prop_by c l one)
prop_walks c l k.Ellipsis = refl
prop_walks c l k.Star = refl
prop_walks c l k.Get = getter_walks c l (begins_key l.two)
prop_walks c l k.Set = setter_walks c l (begins_key l.two)
prop_walks c l _ = plain_prop_walks c l

bound_walks : (bound : Role) (l : Look) (one : Class) → Walks (n.Bound bound) (bound_by bound l one)
bound_walks bound l k.LeftBracket = refl
bound_walks bound l k.LeftBrace = refl
bound_walks bound l _ = walks_if (n.Bound bound) (is_name l.one) _ _ refl refl

-- ---- all rows

abbrev looked : (one : Class) → (one_newline : Bool) → (two : Class) → (two_newline arrow : Bool) → Look
looked one one_newline two two_newline arrow = record {
  one = one;
  one_newline = one_newline;
  two = two;
  two_newline
      = two_newline;
  arrow = arrow;
}

-- ---- rows for all classes that are not named

abbrev named : Look
named = looked k.Name false k.Name false false

abbrev WalksNamed : Nonterminal → Type 0
WalksNamed m = Walks m (row m named)

more_items : (c : Context) → WalksNamed (n.Items c)
more_items c = refl

item_statement : (c : Context) → WalksNamed (n.Item c)
item_statement c = refl

declared_loop : (word : DeclarationWord) (c : Context) → WalksNamed (n.DeclaredHead word c)
declared_loop word c = refl

left_loop : (c : Context) → WalksNamed (n.LeftHead c)
left_loop c = refl

optional_word : (c : Context) → WalksNamed (n.OptionalTail c)
optional_word c = refl

first_argument : (c : Context) → WalksNamed (n.Arguments c)
first_argument c = refl

plain_argument : (c : Context) → WalksNamed (n.Argument c)
plain_argument c = refl

arrow_value : (c : Context) → WalksNamed (n.ArrowBody c)
arrow_value c = refl

first_element : (c : Context) → WalksNamed (n.Elements c)
first_element c = refl

first_prop : (c : Context) → WalksNamed (n.Props c)
first_prop c = refl

word_key : (c : Context) → WalksNamed (n.Key c)
word_key c = refl

first_parameter : WalksNamed n.Parameters
first_parameter = refl

walks_at : (m : Nonterminal) (one : Class) (newline : Bool) (two : Class) (newline' arrow : Bool)
    → Walks m (row m (looked one newline two newline' arrow))
walks_at n.Script _ _ _ _ _ = refl
walks_at (n.Items c) k.RightBrace _ _ _ _ = refl
walks_at (n.Items c) k.Case _ _ _ _ = refl
walks_at (n.Items c) k.Default _ _ _ _ = refl
walks_at (n.Items c) k.End _ _ _ _ = refl
walks_at (n.Items c) _ _ _ _ _ = more_items c
walks_at (n.Item c) k.Function _ two _ _ = declaration_walks c two
walks_at (n.Item c) k.Let _ _ _ _ = refl
walks_at (n.Item c) k.Const _ _ _ _ = refl
walks_at (n.Item c) _ _ _ _ _ = item_statement c
walks_at (n.Block c) _ _ _ _ _ = refl
walks_at (n.Binds word c) _ _ _ _ _ = refl
walks_at (n.Bind word c) _ _ _ _ _ = refl
walks_at (n.MoreBinds word c) k.Comma _ _ _ _ = refl
walks_at (n.MoreBinds word c) _ _ _ _ _ = refl
walks_at (n.Initial word c) k.Assign _ _ _ _ = refl
walks_at (n.Initial word c) _ _ _ _ _ = no_value_walks word c
walks_at (n.Bound role) one newline two newline' arrow = bound_walks role (looked one newline two newline' arrow) one
walks_at n.Semi k.Semicolon _ _ _ _ = refl
walks_at n.Semi k.RightBrace _ _ _ _ = refl
walks_at n.Semi k.End _ _ _ _ = refl
walks_at n.Semi _ true _ _ _ = refl
walks_at n.Semi _ false _ _ _ = refl
walks_at n.LooseSemi k.Semicolon _ _ _ _ = refl
walks_at n.LooseSemi _ _ _ _ _ = refl
walks_at (n.Else c) k.Else _ _ _ _ = refl
walks_at (n.Else c) _ _ _ _ _ = refl
walks_at (n.Label jump) _ true _ _ _ = refl
walks_at (n.Label jump) one false _ _ _ = walks_if (n.Label jump) (is_name one) _ _ refl refl
walks_at (n.ReturnValue c) k.Semicolon true _ _ _ = refl
walks_at (n.ReturnValue c) _ true _ _ _ = refl
walks_at (n.ReturnValue c) _ _ _ _ _ = refl
walks_at (n.ThrowValue c) _ true _ _ _ = refl
walks_at (n.ThrowValue c) _ _ _ _ _ = refl
walks_at (n.Clauses c has_default) k.Case _ _ _ _ = refl
walks_at (n.Clauses c false) k.Default _ _ _ _ = refl
walks_at (n.Clauses c true) k.Default _ _ _ _ = refl
walks_at (n.Clauses c has_default) _ _ _ _ _ = refl
walks_at (n.Handlers c) k.Catch _ _ _ _ = refl
walks_at (n.Handlers c) k.Finally _ _ _ _ = refl
walks_at (n.Handlers c) _ _ _ _ _ = refl
walks_at (n.CatchClause c) _ _ _ _ _ = refl
walks_at n.CatchName k.LeftParen _ _ _ _ = refl
walks_at n.CatchName _ _ _ _ _ = refl
walks_at (n.Finally c) k.Finally _ _ _ _ = refl
walks_at (n.Finally c) _ _ _ _ _ = refl
walks_at n.ForOpen k.Await _ _ _ _ = refl
walks_at n.ForOpen _ _ _ _ _ = refl
walks_at (n.DeclaredHead word c) k.In _ _ _ _ = refl
walks_at (n.DeclaredHead word c) k.Of _ _ _ _ = refl
walks_at (n.DeclaredHead word c) _ _ _ _ _ = declared_loop word c
walks_at (n.LeftHead c) k.In _ _ _ _ = refl
walks_at (n.LeftHead c) k.Of _ _ _ _ = refl
walks_at (n.LeftHead c) _ _ _ _ _ = left_loop c
walks_at (n.OptionalExpr c) k.Semicolon _ _ _ _ = refl
walks_at (n.OptionalExpr c) _ _ _ _ _ = refl
walks_at (n.Expr c) _ _ _ _ _ = refl
walks_at (n.ExprRest listed c) k.Comma _ _ _ _ = refl
walks_at (n.ExprRest listed c) _ _ _ _ _ = expr_end_walks listed c
walks_at n.ArrowSign _ true _ _ _ = refl
walks_at n.ArrowSign _ _ _ _ _ = refl
walks_at (n.ArrowBody c) k.LeftBrace _ _ _ _ = refl
walks_at (n.ArrowBody c) _ _ _ _ _ = arrow_value c
walks_at (n.YieldValue c) k.Star true _ _ _ = refl
walks_at (n.YieldValue c) _ true _ _ _ = refl
walks_at (n.YieldValue c) _ _ _ _ _ = refl
walks_at (n.OptionalTail c) k.LeftBracket _ _ _ _ = refl
walks_at (n.OptionalTail c) k.LeftParen _ _ _ _ = refl
walks_at (n.OptionalTail c) k.TemplateWhole _ _ _ _ = refl
walks_at (n.OptionalTail c) k.TemplateHead _ _ _ _ = refl
walks_at (n.OptionalTail c) _ _ _ _ _ = optional_word c
walks_at n.Word k.Name _ _ _ _ = refl
walks_at n.Word _ _ _ _ _ = refl
walks_at (n.Members c) k.Dot _ _ _ _ = refl
walks_at (n.Members c) k.LeftBracket _ _ _ _ = refl
walks_at (n.Members c) _ _ _ _ _ = refl
walks_at (n.NewArgs c) k.LeftParen _ _ _ _ = refl
walks_at (n.NewArgs c) k.OptionalDot _ _ _ _ = refl
walks_at (n.NewArgs c) _ _ _ _ _ = refl
walks_at (n.Args c) _ _ _ _ _ = refl
walks_at (n.Arguments c) k.RightParen _ _ _ _ = refl
walks_at (n.Arguments c) _ _ _ _ _ = first_argument c
walks_at (n.MoreArguments c) k.Comma _ _ _ _ = refl
walks_at (n.MoreArguments c) _ _ _ _ _ = refl
walks_at (n.Argument c) k.Ellipsis _ _ _ _ = refl
walks_at (n.Argument c) _ _ _ _ _ = plain_argument c
walks_at (n.TemplateRest c) k.TemplateMiddle _ _ _ _ = refl
walks_at (n.TemplateRest c) k.TemplateTail _ _ _ _ = refl
walks_at (n.TemplateRest c) _ _ _ _ _ = refl
walks_at (n.Elements c) k.RightBracket _ _ _ _ = refl
walks_at (n.Elements c) k.Comma _ _ _ _ = refl
walks_at (n.Elements c) _ _ _ _ _ = first_element c
walks_at (n.MoreElements c) k.Comma _ _ _ _ = refl
walks_at (n.MoreElements c) _ _ _ _ _ = refl
walks_at (n.Props c) k.RightBrace _ _ _ _ = refl
walks_at (n.Props c) _ _ _ _ _ = first_prop c
walks_at (n.MoreProps c) k.Comma _ _ _ _ = refl
walks_at (n.MoreProps c) _ _ _ _ _ = refl
walks_at n.ShorthandEnd k.Assign _ _ _ _ = refl
walks_at n.ShorthandEnd _ _ _ _ _ = refl
walks_at (n.KeyRest c) k.Colon _ _ _ _ = refl
walks_at (n.KeyRest c) k.LeftParen _ _ _ _ = refl
walks_at (n.KeyRest c) _ _ _ _ _ = refl
walks_at (n.Key c) k.Text _ _ _ _ = refl
walks_at (n.Key c) k.Number _ _ _ _ = refl
walks_at (n.Key c) k.OctalNumber _ _ _ _ = refl
walks_at (n.Key c) k.LeftBracket _ _ _ _ = refl
walks_at (n.Key c) _ _ _ _ _ = word_key c
walks_at n.OwnName one _ _ _ _ = walks_if n.OwnName (is_name one) _ _ refl refl
walks_at n.Params _ _ _ _ _ = refl
walks_at n.Parameters k.RightParen _ _ _ _ = refl
walks_at n.Parameters k.Ellipsis _ _ _ _ = refl
walks_at n.Parameters _ _ _ _ _ = first_parameter
walks_at n.MoreParameters k.Comma _ _ _ _ = refl
walks_at n.MoreParameters k.Assign _ _ _ _ = refl
walks_at n.MoreParameters _ _ _ _ _ = refl
walks_at n.ParameterEnd k.Assign _ _ _ _ = refl
walks_at n.ParameterEnd _ _ _ _ _ = refl
walks_at (n.Body generator) _ _ _ _ _ = refl
walks_at (n.Statement c) one newline two newline' arrow = let l = looked one newline two newline' arrow in walks_if
    (n.Statement c) (is_async l) _ _ refl (walks_if (n.Statement c) (is_name one && is_colon two) _ _ refl
    (statement_walks c l one))
walks_at (n.Head c) one newline two newline' arrow = head_walks c (looked one newline two newline' arrow) one
walks_at (n.Operation loosest c) one newline two newline' arrow = walks_if (n.Operation loosest c) (is_loosest
    loosest && begins_arrow (looked one newline two newline' arrow)) _ _ (arrow_walks loosest c (is_paren one))
    (operation_walks loosest c (is_loosest loosest && c.yields) one)
walks_at (n.Tails tailed loosest c) one newline two newline' arrow = tails_walks tailed loosest c (looked one
    newline two newline' arrow) one
walks_at (n.Rests loosest tightest c) one newline two newline' arrow = rests_walks loosest tightest c (looked one
    newline two newline' arrow)
walks_at (n.Primary c) one newline two newline' arrow = let l = looked one newline two newline' arrow in walks_if
    (n.Primary c) (is_async l) _ _ refl (primary_walks c l one)
walks_at (n.Prop c) one newline two newline' arrow = let l = looked one newline two newline' arrow in walks_if
    (n.Prop c) (is_async l) _ _ refl (prop_walks c l one)

pub rows_walk : (m : Nonterminal) (l : Look) → Walks m (row m l)
rows_walk m l = walks_at m l.one l.one_newline l.two l.two_newline l.arrow
