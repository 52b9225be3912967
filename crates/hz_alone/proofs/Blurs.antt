-- What each row makes has no text in it of a token that stands behind all that the row takes.
use Rattle.std.proofs.Common.{◌≡◌, Bool, true, false, not, ◌&&◌, if◌then◌else◌, List, [], ◌∷◌, Option, Some, None}
use Rattle.std.proofs.Common.{refl, ap}
use Rattle.hz_tree.specs.declared.class.Class.{Class}
use Rattle.hz_tree.specs.declared.class.Class.TheVariants as k
use Rattle.hz_tree.specs.declared.look.Look.{Look}
use Rattle.hz_tree.specs.declared.nonterminal.Context.{Context}
use Rattle.hz_tree.specs.declared.nonterminal.Nonterminal.{Nonterminal}
use Rattle.hz_tree.specs.declared.nonterminal.Nonterminal.TheVariants as n
use Rattle.hz_tree.specs.declared.operator.AssignOperator.{AssignOperator}
use Rattle.hz_tree.specs.declared.operator.BinaryOperator.{BinaryOperator}
use Rattle.hz_tree.specs.declared.operator.DeclarationWord.{DeclarationWord}
use Rattle.hz_tree.specs.declared.operator.DeclarationWord.TheVariants as word
use Rattle.hz_tree.specs.declared.operator.Level.{Level}
use Rattle.hz_tree.specs.declared.operator.Level.TheVariants as level
use Rattle.hz_tree.specs.declared.operator.UnaryOperator.{UnaryOperator}
use Rattle.hz_tree.specs.declared.operator.UpdateOperator.{UpdateOperator}
use Rattle.hz_tree.specs.declared.signal.Role.{Role}
use Rattle.hz_tree.specs.declared.symbol.Symbol.{Symbol}
use Rattle.hz_tree.specs.declared.symbol.Symbol.TheVariants as s
use Rattle.hz_tree.specs.grammar.Classes.{is_name, is_of, is_colon, is_word, begins_key, is_async_word, is_paren}
use Rattle.hz_tree.specs.grammar.Look.{is_async, begins_arrow}
use Rattle.hz_tree.specs.grammar.Operators.{assign_operator, binary_operator, unary_operator, update_operator}
use Rattle.hz_tree.specs.grammar.Signals.{Told}
use Rattle.hz_tree.specs.grammar.Symbols.{Parts, Value, Row, RowOf, goes, refuses}
use Rattle.hz_tree.specs.grammar.ExpressionRows.{expr_end}
use Rattle.hz_tree.specs.grammar.HeadRows.{is_no_left, head_by}
use Rattle.hz_tree.specs.grammar.OperatorRows.{reads_on, operator_row, rest_row, rests_row, arrow_row, operand_row}
use Rattle.hz_tree.specs.grammar.OperatorRows.{operation_by, is_loosest, without_tails, tails_end, tails_by, no_tails}
use Rattle.hz_tree.specs.grammar.PrimaryRows.{new_row, function_expression_row, primary_by}
use Rattle.hz_tree.specs.grammar.PropertyRows.{plain_prop_row, getter_row, setter_row, prop_by}
use Rattle.hz_tree.specs.grammar.StatementRows.{bound_by, declaration_row, no_value, return_row, statement_by}
use Rattle.hz_tree.specs.grammar.Table.{row}
use Rattle.hz_laws.proofs.Ranks.{eats_all}

-- ---- parts without the text of what stands behind

abbrev pub blurred : (eats : Bool) → Told → Told
blurred true told = told
blurred false told = record told { text = [] }

-- the same parts, without the text of a token that stands behind all that is taken, whatever the nonterminals give
abbrev pub blur : (V : Nonterminal → Type 0) → (right : List Symbol) → Parts V right → Parts V right
blur V [] parts = parts
blur V (s.Take wanted ∷ more) parts = (parts.0, blur V more parts.1)
blur V (s.Read m ∷ more) parts = (parts.0, blur V more parts.1)
blur V (s.Tell signal ∷ more) parts = (blurred (eats_all more) parts.0, blur V more parts.1)

abbrev pub BlursIn : (V : Nonterminal → Type 0) → (m : Nonterminal) → RowOf V m → Type 0
BlursIn V m (goes right make) = (p : Parts V right) → make (blur V right p) ≡ make p
BlursIn V m (refuses cause) = Unit {0}

abbrev pub Blurs : (m : Nonterminal) → Row m → Type 0
Blurs m r = BlursIn Value m r

blurs_if : (m : Nonterminal) (test : Bool) (a b : Row m) → Blurs m a → Blurs m b → Blurs m (if test then a else b)
blurs_if m true a b h i = h
blurs_if m false a b h i = i

-- ---- rows of functions

plain_declaration : (c : Context) → Blurs (n.Item c) (declaration_row c k.Name)
plain_declaration c = λ p. refl

declaration_blurs : (c : Context) (two : Class) → Blurs (n.Item c) (declaration_row c two)
declaration_blurs c k.Star = λ p. refl
declaration_blurs c _ = plain_declaration c

plain_expression : (c : Context) → Blurs (n.Primary c) (function_expression_row c k.Name)
plain_expression c = λ p. refl

expression_blurs : (c : Context) (two : Class) → Blurs (n.Primary c) (function_expression_row c two)
expression_blurs c k.Star = λ p. refl
expression_blurs c _ = plain_expression c

arrow_blurs : (loosest : Level) (c : Context) (parenthesised : Bool)
    → Blurs (n.Operation loosest c) (arrow_row loosest c parenthesised)
arrow_blurs loosest c true = λ p. refl
arrow_blurs loosest c false = λ p. refl

-- ---- rows that test more than one class

return_blurs : (c : Context) (returns : Bool) → Blurs (n.Statement c) (return_row c returns)
return_blurs c true = λ p. refl
return_blurs c false = tt

expression_statement : (c : Context) (l : Look) → Blurs (n.Statement c) (statement_by c l k.Name)
expression_statement c l = λ p. refl

statement_blurs : (c : Context) (l : Look) (one : Class) → Blurs (n.Statement c) (statement_by c l one)
statement_blurs c l k.LeftBrace = λ p. refl
statement_blurs c l k.For = λ p. refl
statement_blurs c l k.If = λ p. refl
statement_blurs c l k.Try = λ p. refl
statement_blurs c l k.Return = return_blurs c c.returns
statement_blurs c l k.Function = tt
statement_blurs c l k.Var = λ p. refl
statement_blurs c l k.Semicolon = λ p. refl
statement_blurs c l k.Debugger = λ p. refl
statement_blurs c l k.Do = λ p. refl
statement_blurs c l k.While = λ p. refl
statement_blurs c l k.Continue = λ p. refl
statement_blurs c l k.Break = λ p. refl
statement_blurs c l k.Throw = λ p. refl
statement_blurs c l k.Switch = λ p. refl
statement_blurs c l _ = expression_statement c l

no_value_blurs : (word : DeclarationWord) (c : Context) → Blurs (n.Initial word c) (no_value word c)
no_value_blurs word.Const c = λ p. refl
no_value_blurs _ c = λ p. refl

expr_end_blurs : (listed : Bool) (c : Context) → Blurs (n.ExprRest listed c) (expr_end listed c)
expr_end_blurs true c = λ p. refl
expr_end_blurs false c = λ p. refl

expr_head_blurs : (c : Context) (l : Look) → Blurs (n.Head c) (head_by c l k.Name)
expr_head_blurs c l = blurs_if (n.Head c) (is_async_word l.one && is_of l.two) _ _ tt (blurs_if (n.Head c)
    (is_no_left c l) _ _ (λ p. refl) (λ p. refl))

head_blurs : (c : Context) (l : Look) (one : Class) → Blurs (n.Head c) (head_by c l one)
head_blurs c l k.Var = λ p. refl
head_blurs c l k.Let = λ p. refl
head_blurs c l k.Const = λ p. refl
head_blurs c l k.Semicolon = λ p. refl
head_blurs c l _ = expr_head_blurs c l

operator_blurs : (loosest tightest : Level) (c : Context) (one : Class) (assigned : Option AssignOperator) (updated
    : Option UpdateOperator) (joined : Option BinaryOperator)
    → Blurs (n.Rests loosest tightest c) (operator_row loosest tightest c one assigned updated joined)
operator_blurs loosest tightest c one (Some operator) updated joined = λ p. refl
operator_blurs loosest tightest c one None (Some operator) joined = λ p. refl
operator_blurs loosest tightest c one None None (Some operator) = λ p. refl
operator_blurs loosest tightest c one None None None = λ p. refl

rest_blurs : (loosest tightest : Level) (c : Context) (one : Class)
    → Blurs (n.Rests loosest tightest c) (rest_row loosest tightest c one)
rest_blurs loosest tightest c k.Question = λ p. refl
rest_blurs loosest tightest c one = operator_blurs loosest tightest c one (assign_operator one) (update_operator
    one) (binary_operator one)

rests_blurs : (loosest tightest : Level) (c : Context) (l : Look)
    → Blurs (n.Rests loosest tightest c) (rests_row loosest tightest c l)
rests_blurs loosest tightest c l = blurs_if (n.Rests loosest tightest c) (reads_on loosest tightest c l.one_newline
    l.one) _ _ (rest_blurs loosest tightest c l.one) (λ p. refl)

without_blurs : (loosest : Level) (c : Context) (r : Row (n.Rests loosest level.Update c))
    → Blurs (n.Rests loosest level.Update c) r → Blurs (n.Tails false loosest c) (without_tails loosest c r)
without_blurs loosest c (goes right make) h = λ p. ap no_tails (h p)
without_blurs loosest c (refuses cause) h = tt

tails_end_blurs : (tailed : Bool) (loosest : Level) (c : Context) (l : Look)
    → Blurs (n.Tails tailed loosest c) (tails_end tailed loosest c l)
tails_end_blurs true loosest c l = λ p. refl
tails_end_blurs false loosest c l = without_blurs loosest c (rests_row loosest level.Update c l) (rests_blurs
    loosest level.Update c l)

tails_blurs : (tailed : Bool) (loosest : Level) (c : Context) (l : Look) (one : Class)
    → Blurs (n.Tails tailed loosest c) (tails_by tailed loosest c l one)
tails_blurs tailed loosest c l k.Dot = λ p. refl
tails_blurs tailed loosest c l k.LeftBracket = λ p. refl
tails_blurs tailed loosest c l k.LeftParen = λ p. refl
tails_blurs tailed loosest c l k.OptionalDot = λ p. refl
tails_blurs tailed loosest c l k.TemplateWhole = tt
tails_blurs tailed loosest c l k.TemplateHead = tt
tails_blurs tailed loosest c l _ = tails_end_blurs tailed loosest c l

operand_blurs : (loosest : Level) (c : Context) (one : Class) (operator : Option UnaryOperator)
    → Blurs (n.Operation loosest c) (operand_row loosest c one operator)
operand_blurs loosest c one (Some operator) = λ p. refl
operand_blurs loosest c one None = λ p. refl

operation_blurs : (loosest : Level) (c : Context) (yields : Bool) (one : Class)
    → Blurs (n.Operation loosest c) (operation_by loosest c yields one)
operation_blurs loosest c true k.Yield = λ p. refl
operation_blurs loosest c yields one = operand_blurs loosest c one (unary_operator one)

plain_new : (c : Context) → Blurs (n.Primary c) (new_row c k.Name)
plain_new c = λ p. refl

new_blurs : (c : Context) (two : Class) → Blurs (n.Primary c) (new_row c two)
new_blurs c k.Dot = λ p. refl
new_blurs c _ = plain_new c

identifier_blurs : (c : Context) (l : Look) → Blurs (n.Primary c) (primary_by c l k.Name)
identifier_blurs c l = blurs_if (n.Primary c) (is_name l.one) _ _ (λ p. refl) tt

primary_blurs : (c : Context) (l : Look) (one : Class) → Blurs (n.Primary c) (primary_by c l one)
primary_blurs c l k.Slash = tt
primary_blurs c l k.SlashAssign = tt
primary_blurs c l k.New = new_blurs c l.two
primary_blurs c l k.Function = expression_blurs c l.two
primary_blurs c l k.This = λ p. refl
primary_blurs c l k.Null = λ p. refl
primary_blurs c l k.True = λ p. refl
primary_blurs c l k.False = λ p. refl
primary_blurs c l k.Number = λ p. refl
primary_blurs c l k.OctalNumber = λ p. refl
primary_blurs c l k.Text = λ p. refl
primary_blurs c l k.LeftParen = λ p. refl
primary_blurs c l k.TemplateWhole = λ p. refl
primary_blurs c l k.TemplateHead = λ p. refl
primary_blurs c l k.LeftBracket = λ p. refl
primary_blurs c l k.LeftBrace = λ p. refl
primary_blurs c l _ = identifier_blurs c l

plain_prop_blurs : (c : Context) (l : Look) → Blurs (n.Prop c) (plain_prop_row c l)
plain_prop_blurs c l = blurs_if (n.Prop c) (is_name l.one && (not (is_colon l.two) && not (is_paren l.two))) _ _ (λ
    p. refl) (λ p. refl)

getter_blurs : (c : Context) (l : Look) (keyed : Bool) → Blurs (n.Prop c) (getter_row c l keyed)
getter_blurs c l true = λ p. refl
getter_blurs c l false = plain_prop_blurs c l

setter_blurs : (c : Context) (l : Look) (keyed : Bool) → Blurs (n.Prop c) (setter_row c l keyed)
setter_blurs c l true = λ p. refl
setter_blurs c l false = plain_prop_blurs c l

prop_blurs : (c : Context) (l : Look) (one : Class) → Blurs (n.Prop c) (prop_by c l one)
prop_blurs c l k.Ellipsis = λ p. refl
prop_blurs c l k.Star = λ p. refl
prop_blurs c l k.Get = getter_blurs c l (begins_key l.two)
prop_blurs c l k.Set = setter_blurs c l (begins_key l.two)
prop_blurs c l _ = plain_prop_blurs c l

bound_blurs : (bound : Role) (l : Look) (one : Class) → Blurs (n.Bound bound) (bound_by bound l one)
bound_blurs bound l k.LeftBracket = tt
bound_blurs bound l k.LeftBrace = tt
bound_blurs bound l _ = blurs_if (n.Bound bound) (is_name l.one) _ _ (λ p. refl) tt

-- ---- all rows

abbrev looked : (one : Class) → (one_newline : Bool) → (two : Class) → (two_newline arrow : Bool) → Look
looked one one_newline two two_newline arrow = record {
  one = one;
  one_newline = one_newline;
  two = two;
  two_newline
      = two_newline;
  arrow = arrow;
}

-- ---- rows for all classes that are not named

abbrev named : Look
named = looked k.Name false k.Name false false

abbrev BlursNamed : Nonterminal → Type 0
BlursNamed m = Blurs m (row m named)

more_items : (c : Context) → BlursNamed (n.Items c)
more_items c = λ p. refl

item_statement : (c : Context) → BlursNamed (n.Item c)
item_statement c = λ p. refl

declared_loop : (word : DeclarationWord) (c : Context) → BlursNamed (n.DeclaredHead word c)
declared_loop word c = λ p. refl

left_loop : (c : Context) → BlursNamed (n.LeftHead c)
left_loop c = λ p. refl

optional_word : (c : Context) → BlursNamed (n.OptionalTail c)
optional_word c = λ p. refl

first_argument : (c : Context) → BlursNamed (n.Arguments c)
first_argument c = λ p. refl

plain_argument : (c : Context) → BlursNamed (n.Argument c)
plain_argument c = λ p. refl

arrow_value : (c : Context) → BlursNamed (n.ArrowBody c)
arrow_value c = λ p. refl

first_element : (c : Context) → BlursNamed (n.Elements c)
first_element c = λ p. refl

first_prop : (c : Context) → BlursNamed (n.Props c)
first_prop c = λ p. refl

word_key : (c : Context) → BlursNamed (n.Key c)
word_key c = λ p. refl

first_parameter : BlursNamed n.Parameters
first_parameter = λ p. refl

blurs_at : (m : Nonterminal) (one : Class) (newline : Bool) (two : Class) (newline' arrow : Bool)
    → Blurs m (row m (looked one newline two newline' arrow))
blurs_at n.Script _ _ _ _ _ = λ p. refl
blurs_at (n.Items c) k.RightBrace _ _ _ _ = λ p. refl
blurs_at (n.Items c) k.Case _ _ _ _ = λ p. refl
blurs_at (n.Items c) k.Default _ _ _ _ = λ p. refl
blurs_at (n.Items c) k.End _ _ _ _ = λ p. refl
blurs_at (n.Items c) _ _ _ _ _ = more_items c
blurs_at (n.Item c) k.Function _ two _ _ = declaration_blurs c two
blurs_at (n.Item c) k.Let _ _ _ _ = λ p. refl
blurs_at (n.Item c) k.Const _ _ _ _ = λ p. refl
blurs_at (n.Item c) _ _ _ _ _ = item_statement c
blurs_at (n.Block c) _ _ _ _ _ = λ p. refl
blurs_at (n.Binds word c) _ _ _ _ _ = λ p. refl
blurs_at (n.Bind word c) _ _ _ _ _ = λ p. refl
blurs_at (n.MoreBinds word c) k.Comma _ _ _ _ = λ p. refl
blurs_at (n.MoreBinds word c) _ _ _ _ _ = λ p. refl
blurs_at (n.Initial word c) k.Assign _ _ _ _ = λ p. refl
blurs_at (n.Initial word c) _ _ _ _ _ = no_value_blurs word c
blurs_at (n.Bound role) one newline two newline' arrow = bound_blurs role (looked one newline two newline' arrow) one
blurs_at n.Semi k.Semicolon _ _ _ _ = λ p. refl
blurs_at n.Semi k.RightBrace _ _ _ _ = λ p. refl
blurs_at n.Semi k.End _ _ _ _ = λ p. refl
blurs_at n.Semi _ true _ _ _ = λ p. refl
blurs_at n.Semi _ false _ _ _ = tt
blurs_at n.LooseSemi k.Semicolon _ _ _ _ = λ p. refl
blurs_at n.LooseSemi _ _ _ _ _ = λ p. refl
blurs_at (n.Else c) k.Else _ _ _ _ = λ p. refl
blurs_at (n.Else c) _ _ _ _ _ = λ p. refl
blurs_at (n.Label jump) _ true _ _ _ = λ p. refl
blurs_at (n.Label jump) one false _ _ _ = blurs_if (n.Label jump) (is_name one) _ _ (λ p. refl) (λ p. refl)
blurs_at (n.ReturnValue c) k.Semicolon true _ _ _ = λ p. refl
blurs_at (n.ReturnValue c) _ true _ _ _ = λ p. refl
blurs_at (n.ReturnValue c) _ _ _ _ _ = λ p. refl
blurs_at (n.ThrowValue c) _ true _ _ _ = tt
blurs_at (n.ThrowValue c) _ _ _ _ _ = λ p. refl
blurs_at (n.Clauses c has_default) k.Case _ _ _ _ = λ p. refl
blurs_at (n.Clauses c false) k.Default _ _ _ _ = λ p. refl
blurs_at (n.Clauses c true) k.Default _ _ _ _ = λ p. refl
blurs_at (n.Clauses c has_default) _ _ _ _ _ = λ p. refl
blurs_at (n.Handlers c) k.Catch _ _ _ _ = λ p. refl
blurs_at (n.Handlers c) k.Finally _ _ _ _ = λ p. refl
blurs_at (n.Handlers c) _ _ _ _ _ = tt
blurs_at (n.CatchClause c) _ _ _ _ _ = λ p. refl
blurs_at n.CatchName k.LeftParen _ _ _ _ = λ p. refl
blurs_at n.CatchName _ _ _ _ _ = λ p. refl
blurs_at (n.Finally c) k.Finally _ _ _ _ = λ p. refl
blurs_at (n.Finally c) _ _ _ _ _ = λ p. refl
blurs_at n.ForOpen k.Await _ _ _ _ = tt
blurs_at n.ForOpen _ _ _ _ _ = λ p. refl
blurs_at (n.DeclaredHead word c) k.In _ _ _ _ = λ p. refl
blurs_at (n.DeclaredHead word c) k.Of _ _ _ _ = λ p. refl
blurs_at (n.DeclaredHead word c) _ _ _ _ _ = declared_loop word c
blurs_at (n.LeftHead c) k.In _ _ _ _ = λ p. refl
blurs_at (n.LeftHead c) k.Of _ _ _ _ = λ p. refl
blurs_at (n.LeftHead c) _ _ _ _ _ = left_loop c
blurs_at (n.OptionalExpr c) k.Semicolon _ _ _ _ = λ p. refl
blurs_at (n.OptionalExpr c) _ _ _ _ _ = λ p. refl
blurs_at (n.Expr c) _ _ _ _ _ = λ p. refl
blurs_at (n.ExprRest listed c) k.Comma _ _ _ _ = λ p. refl
blurs_at (n.ExprRest listed c) _ _ _ _ _ = expr_end_blurs listed c
blurs_at n.ArrowSign _ true _ _ _ = tt
blurs_at n.ArrowSign _ _ _ _ _ = λ p. refl
blurs_at (n.ArrowBody c) k.LeftBrace _ _ _ _ = λ p. refl
blurs_at (n.ArrowBody c) _ _ _ _ _ = arrow_value c
blurs_at (n.YieldValue c) k.Star true _ _ _ = λ p. refl
blurs_at (n.YieldValue c) _ true _ _ _ = λ p. refl
blurs_at (n.YieldValue c) _ _ _ _ _ = λ p. refl
blurs_at (n.OptionalTail c) k.LeftBracket _ _ _ _ = λ p. refl
blurs_at (n.OptionalTail c) k.LeftParen _ _ _ _ = λ p. refl
blurs_at (n.OptionalTail c) k.TemplateWhole _ _ _ _ = tt
blurs_at (n.OptionalTail c) k.TemplateHead _ _ _ _ = tt
blurs_at (n.OptionalTail c) _ _ _ _ _ = optional_word c
blurs_at n.Word one _ _ _ _ = blurs_if n.Word (is_word one) _ _ (λ p. refl) tt
blurs_at (n.Members c) k.Dot _ _ _ _ = λ p. refl
blurs_at (n.Members c) k.LeftBracket _ _ _ _ = λ p. refl
blurs_at (n.Members c) _ _ _ _ _ = λ p. refl
blurs_at (n.NewArgs c) k.LeftParen _ _ _ _ = λ p. refl
blurs_at (n.NewArgs c) k.OptionalDot _ _ _ _ = tt
blurs_at (n.NewArgs c) _ _ _ _ _ = λ p. refl
blurs_at (n.Args c) _ _ _ _ _ = λ p. refl
blurs_at (n.Arguments c) k.RightParen _ _ _ _ = λ p. refl
blurs_at (n.Arguments c) _ _ _ _ _ = first_argument c
blurs_at (n.MoreArguments c) k.Comma _ _ _ _ = λ p. refl
blurs_at (n.MoreArguments c) _ _ _ _ _ = λ p. refl
blurs_at (n.Argument c) k.Ellipsis _ _ _ _ = λ p. refl
blurs_at (n.Argument c) _ _ _ _ _ = plain_argument c
blurs_at (n.TemplateRest c) k.TemplateMiddle _ _ _ _ = λ p. refl
blurs_at (n.TemplateRest c) k.TemplateTail _ _ _ _ = λ p. refl
blurs_at (n.TemplateRest c) _ _ _ _ _ = tt
blurs_at (n.Elements c) k.RightBracket _ _ _ _ = λ p. refl
blurs_at (n.Elements c) k.Comma _ _ _ _ = λ p. refl
blurs_at (n.Elements c) _ _ _ _ _ = first_element c
blurs_at (n.MoreElements c) k.Comma _ _ _ _ = λ p. refl
blurs_at (n.MoreElements c) _ _ _ _ _ = λ p. refl
blurs_at (n.Props c) k.RightBrace _ _ _ _ = λ p. refl
blurs_at (n.Props c) _ _ _ _ _ = first_prop c
blurs_at (n.MoreProps c) k.Comma _ _ _ _ = λ p. refl
blurs_at (n.MoreProps c) _ _ _ _ _ = λ p. refl
blurs_at n.ShorthandEnd k.Assign _ _ _ _ = tt
blurs_at n.ShorthandEnd _ _ _ _ _ = λ p. refl
blurs_at (n.KeyRest c) k.Colon _ _ _ _ = λ p. refl
blurs_at (n.KeyRest c) k.LeftParen _ _ _ _ = λ p. refl
blurs_at (n.KeyRest c) _ _ _ _ _ = tt
blurs_at (n.Key c) k.Text _ _ _ _ = λ p. refl
blurs_at (n.Key c) k.Number _ _ _ _ = λ p. refl
blurs_at (n.Key c) k.OctalNumber _ _ _ _ = λ p. refl
blurs_at (n.Key c) k.LeftBracket _ _ _ _ = λ p. refl
blurs_at (n.Key c) _ _ _ _ _ = word_key c
blurs_at n.OwnName one _ _ _ _ = blurs_if n.OwnName (is_name one) _ _ (λ p. refl) (λ p. refl)
blurs_at n.Params _ _ _ _ _ = λ p. refl
blurs_at n.Parameters k.RightParen _ _ _ _ = λ p. refl
blurs_at n.Parameters k.Ellipsis _ _ _ _ = λ p. refl
blurs_at n.Parameters _ _ _ _ _ = first_parameter
blurs_at n.MoreParameters k.Comma _ _ _ _ = λ p. refl
blurs_at n.MoreParameters k.Assign _ _ _ _ = tt
blurs_at n.MoreParameters _ _ _ _ _ = λ p. refl
blurs_at n.ParameterEnd k.Assign _ _ _ _ = tt
blurs_at n.ParameterEnd _ _ _ _ _ = λ p. refl
blurs_at (n.Body generator) _ _ _ _ _ = λ p. refl
blurs_at (n.Statement c) one newline two newline' arrow = let l = looked one newline two newline' arrow in blurs_if
    (n.Statement c) (is_async l) _ _ tt (blurs_if (n.Statement c) (is_name one && is_colon two) _ _ (λ p. refl)
    (statement_blurs c l one))
blurs_at (n.Head c) one newline two newline' arrow = head_blurs c (looked one newline two newline' arrow) one
blurs_at (n.Operation loosest c) one newline two newline' arrow = blurs_if (n.Operation loosest c) (is_loosest
    loosest && begins_arrow (looked one newline two newline' arrow)) _ _ (arrow_blurs loosest c (is_paren one))
    (operation_blurs loosest c (is_loosest loosest && c.yields) one)
blurs_at (n.Tails tailed loosest c) one newline two newline' arrow = tails_blurs tailed loosest c (looked one
    newline two newline' arrow) one
blurs_at (n.Rests loosest tightest c) one newline two newline' arrow = rests_blurs loosest tightest c (looked one
    newline two newline' arrow)
blurs_at (n.Primary c) one newline two newline' arrow = let l = looked one newline two newline' arrow in blurs_if
    (n.Primary c) (is_async l) _ _ tt (primary_blurs c l one)
blurs_at (n.Prop c) one newline two newline' arrow = let l = looked one newline two newline' arrow in blurs_if
    (n.Prop c) (is_async l) _ _ tt (prop_blurs c l one)

pub rows_blur : (m : Nonterminal) (l : Look) → Blurs m (row m l)
rows_blur m l = blurs_at m l.one l.one_newline l.two l.two_newline l.arrow
