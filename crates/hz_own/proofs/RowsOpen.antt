-- In a right-hand side in which no function is entered none opens.
use Rattle.std.proofs.Common.{◌≡◌, Bool, true, false, not, ◌&&◌, ◌||◌, if◌then◌else◌, List, [], ◌∷◌, Option, Some, None}
use Rattle.std.proofs.Common.{refl, sym, ap, ◌∙◌}
use Rattle.hz_tree.specs.declared.class.Class.{Class}
use Rattle.hz_tree.specs.declared.class.Class.TheVariants as k
use Rattle.hz_tree.specs.declared.look.Look.{Look}
use Rattle.hz_tree.specs.declared.nonterminal.Context.{Context}
use Rattle.hz_tree.specs.declared.nonterminal.Nonterminal.{Nonterminal}
use Rattle.hz_tree.specs.declared.nonterminal.Nonterminal.TheVariants as n
use Rattle.hz_tree.specs.declared.operator.AssignOperator.{AssignOperator}
use Rattle.hz_tree.specs.declared.operator.BinaryOperator.{BinaryOperator}
use Rattle.hz_tree.specs.declared.operator.DeclarationWord.{DeclarationWord}
use Rattle.hz_tree.specs.declared.operator.DeclarationWord.TheVariants as word
use Rattle.hz_tree.specs.declared.operator.Level.{Level}
use Rattle.hz_tree.specs.declared.operator.Level.TheVariants as level
use Rattle.hz_tree.specs.declared.operator.UnaryOperator.{UnaryOperator}
use Rattle.hz_tree.specs.declared.operator.UpdateOperator.{UpdateOperator}
use Rattle.hz_tree.specs.declared.signal.Role.{Role}
use Rattle.hz_tree.specs.declared.symbol.Symbol.{Symbol}
use Rattle.hz_tree.specs.grammar.Classes.{is_name, is_of, is_colon, begins_key, is_async_word, is_paren}
use Rattle.hz_tree.specs.grammar.Look.{is_async, begins_arrow}
use Rattle.hz_tree.specs.grammar.Operators.{assign_operator, binary_operator, unary_operator, update_operator}
use Rattle.hz_tree.specs.grammar.Symbols.{Row, goes, refuses}
use Rattle.hz_tree.specs.grammar.ExpressionRows.{expr_end}
use Rattle.hz_tree.specs.grammar.HeadRows.{is_no_left, head_by}
use Rattle.hz_tree.specs.grammar.OperatorRows.{reads_on, operator_row, rest_row, rests_row, arrow_row, operand_row}
use Rattle.hz_tree.specs.grammar.OperatorRows.{operation_by, is_loosest, without_tails, tails_end, tails_by}
use Rattle.hz_tree.specs.grammar.PrimaryRows.{new_row, function_expression_row, primary_by}
use Rattle.hz_tree.specs.grammar.PropertyRows.{plain_prop_row, getter_row, setter_row, prop_by}
use Rattle.hz_tree.specs.grammar.StatementRows.{bound_by, declaration_row, no_value, return_row, statement_by}
use Rattle.hz_tree.specs.grammar.Table.{Step, pushes, fails, row, step_of}
use Rattle.hz_laws.proofs.Ranks.{and_left, and_right}
use Rattle.hz_cuts.specs.Rows.{is_enter, some_symbol}
use Rattle.hz_stands.proofs.Opening.{is_open}

-- ---- right-hand sides

-- behind each function that opens one is entered
abbrev opens_enter : List Symbol → Bool
opens_enter [] = true
opens_enter (first ∷ more) = (not (is_open first) || some_symbol is_enter more) && opens_enter more

abbrev is_entered : Step → Bool
is_entered (pushes right) = opens_enter right
is_entered (fails cause) = true

abbrev Enters : (m : Nonterminal) → Row m → Type 0
Enters m r = is_entered (step_of r) ≡ true

enters_if : (m : Nonterminal) (test : Bool) (a b : Row m) → Enters m a → Enters m b → Enters m (if test then a else b)
enters_if m true a b h i = h
enters_if m false a b h i = i

-- ---- rows of functions

plain_declaration : (c : Context) → Enters (n.Item c) (declaration_row c k.Name)
plain_declaration c = refl

declaration_enters : (c : Context) (two : Class) → Enters (n.Item c) (declaration_row c two)
declaration_enters c k.Star = refl
declaration_enters c _ = plain_declaration c

plain_expression : (c : Context) → Enters (n.Primary c) (function_expression_row c k.Name)
plain_expression c = refl

expression_enters : (c : Context) (two : Class) → Enters (n.Primary c) (function_expression_row c two)
expression_enters c k.Star = refl
expression_enters c _ = plain_expression c

arrow_enters : (loosest : Level) (c : Context) (parenthesised : Bool)
    → Enters (n.Operation loosest c) (arrow_row loosest c parenthesised)
arrow_enters loosest c true = refl
arrow_enters loosest c false = refl

-- ---- rows that test more than one class

return_enters : (c : Context) (returns : Bool) → Enters (n.Statement c) (return_row c returns)
return_enters c true = refl
return_enters c false = refl

expression_statement : (c : Context) (l : Look) → Enters (n.Statement c) (statement_by c l k.Name)
expression_statement c l = refl

statement_enters : (c : Context) (l : Look) (one : Class) → Enters (n.Statement c) (statement_by c l one)
statement_enters c l k.LeftBrace = refl
statement_enters c l k.For = refl
statement_enters c l k.If = refl
statement_enters c l k.Try = refl
statement_enters c l k.Return = return_enters c c.returns
statement_enters c l k.Function = refl
statement_enters c l k.Var = refl
statement_enters c l k.Semicolon = refl
statement_enters c l k.Debugger = refl
statement_enters c l k.Do = refl
statement_enters c l k.While = refl
statement_enters c l k.Continue = refl
statement_enters c l k.Break = refl
statement_enters c l k.Throw = refl
statement_enters c l k.Switch = refl
statement_enters c l _ = expression_statement c l

no_value_enters : (word : DeclarationWord) (c : Context) → Enters (n.Initial word c) (no_value word c)
no_value_enters word.Const c = refl
no_value_enters _ c = refl

expr_end_enters : (listed : Bool) (c : Context) → Enters (n.ExprRest listed c) (expr_end listed c)
expr_end_enters true c = refl
expr_end_enters false c = refl

expr_head_enters : (c : Context) (l : Look) → Enters (n.Head c) (head_by c l k.Name)
expr_head_enters c l = enters_if (n.Head c) (is_async_word l.one && is_of l.two) _ _ refl (enters_if (n.Head c)
    (is_no_left c l) _ _ refl refl)

head_enters : (c : Context) (l : Look) (one : Class) → Enters (n.Head c) (head_by c l one)
head_enters c l k.Var = refl
head_enters c l k.Let = refl
head_enters c l k.Const = refl
head_enters c l k.Semicolon = refl
head_enters c l _ = expr_head_enters c l

operator_enters : (loosest tightest : Level) (c : Context) (one : Class) (assigned : Option AssignOperator)
    (updated : Option UpdateOperator) (joined : Option BinaryOperator)
    → Enters (n.Rests loosest tightest c) (operator_row loosest tightest c one assigned updated joined)
operator_enters loosest tightest c one (Some operator) updated joined = refl
operator_enters loosest tightest c one None (Some operator) joined = refl
operator_enters loosest tightest c one None None (Some operator) = refl
operator_enters loosest tightest c one None None None = refl

rest_enters : (loosest tightest : Level) (c : Context) (one : Class)
    → Enters (n.Rests loosest tightest c) (rest_row loosest tightest c one)
rest_enters loosest tightest c k.Question = refl
rest_enters loosest tightest c one =
    operator_enters loosest tightest c one (assign_operator one) (update_operator one) (binary_operator one)

rests_enters : (loosest tightest : Level) (c : Context) (l : Look)
    → Enters (n.Rests loosest tightest c) (rests_row loosest tightest c l)
rests_enters loosest tightest c l = enters_if (n.Rests loosest tightest c) (reads_on loosest tightest c l.one_newline
    l.one) _ _ (rest_enters loosest tightest c l.one) refl

without_enters : (loosest : Level) (c : Context) (r : Row (n.Rests loosest level.Update c))
    → Enters (n.Rests loosest level.Update c) r → Enters (n.Tails false loosest c) (without_tails loosest c r)
without_enters loosest c (goes right make) h = h
without_enters loosest c (refuses cause) h = refl

tails_end_enters : (tailed : Bool) (loosest : Level) (c : Context) (l : Look)
    → Enters (n.Tails tailed loosest c) (tails_end tailed loosest c l)
tails_end_enters true loosest c l = refl
tails_end_enters false loosest c l = without_enters loosest c (rests_row loosest level.Update c l) (rests_enters
    loosest level.Update c l)

tails_enters : (tailed : Bool) (loosest : Level) (c : Context) (l : Look) (one : Class)
    → Enters (n.Tails tailed loosest c) (tails_by tailed loosest c l one)
tails_enters tailed loosest c l k.Dot = refl
tails_enters tailed loosest c l k.LeftBracket = refl
tails_enters tailed loosest c l k.LeftParen = refl
tails_enters tailed loosest c l k.OptionalDot = refl
tails_enters tailed loosest c l k.TemplateWhole = refl
tails_enters tailed loosest c l k.TemplateHead = refl
tails_enters tailed loosest c l _ = tails_end_enters tailed loosest c l

operand_enters : (loosest : Level) (c : Context) (one : Class) (operator : Option UnaryOperator)
    → Enters (n.Operation loosest c) (operand_row loosest c one operator)
operand_enters loosest c one (Some operator) = refl
operand_enters loosest c one None = refl

operation_enters : (loosest : Level) (c : Context) (yields : Bool) (one : Class)
    → Enters (n.Operation loosest c) (operation_by loosest c yields one)
operation_enters loosest c true k.Yield = refl
operation_enters loosest c yields one = operand_enters loosest c one (unary_operator one)

plain_new : (c : Context) → Enters (n.Primary c) (new_row c k.Name)
plain_new c = refl

new_enters : (c : Context) (two : Class) → Enters (n.Primary c) (new_row c two)
new_enters c k.Dot = refl
new_enters c _ = plain_new c

identifier_enters : (c : Context) (l : Look) → Enters (n.Primary c) (primary_by c l k.Name)
identifier_enters c l = enters_if (n.Primary c) (is_name l.one) _ _ refl refl

primary_enters : (c : Context) (l : Look) (one : Class) → Enters (n.Primary c) (primary_by c l one)
primary_enters c l k.Slash = refl
primary_enters c l k.SlashAssign = refl
primary_enters c l k.New = new_enters c l.two
primary_enters c l k.Function = expression_enters c l.two
primary_enters c l k.This = refl
primary_enters c l k.Null = refl
primary_enters c l k.True = refl
primary_enters c l k.False = refl
primary_enters c l k.Number = refl
primary_enters c l k.OctalNumber = refl
primary_enters c l k.Text = refl
primary_enters c l k.LeftParen = refl
primary_enters c l k.TemplateWhole = refl
primary_enters c l k.TemplateHead = refl
primary_enters c l k.LeftBracket = refl
primary_enters c l k.LeftBrace = refl
primary_enters c l _ = identifier_enters c l

plain_prop_enters : (c : Context) (l : Look) → Enters (n.Prop c) (plain_prop_row c l)
plain_prop_enters c l = enters_if (n.Prop c) (is_name l.one && (not (is_colon l.two) && not (is_paren l.two))) _ _
    refl refl

getter_enters : (c : Context) (l : Look) (keyed : Bool) → Enters (n.Prop c) (getter_row c l keyed)
getter_enters c l true = refl
getter_enters c l false = plain_prop_enters c l

setter_enters : (c : Context) (l : Look) (keyed : Bool) → Enters (n.Prop c) (setter_row c l keyed)
setter_enters c l true = refl
setter_enters c l false = plain_prop_enters c l

prop_enters : (c : Context) (l : Look) (one : Class) → Enters (n.Prop c) (prop_by c l one)
prop_enters c l k.Ellipsis = refl
prop_enters c l k.Star = refl
prop_enters c l k.Get = getter_enters c l (begins_key l.two)
prop_enters c l k.Set = setter_enters c l (begins_key l.two)
prop_enters c l _ = plain_prop_enters c l

bound_enters : (bound : Role) (l : Look) (one : Class) → Enters (n.Bound bound) (bound_by bound l one)
bound_enters bound l k.LeftBracket = refl
bound_enters bound l k.LeftBrace = refl
bound_enters bound l _ = enters_if (n.Bound bound) (is_name l.one) _ _ refl refl

-- ---- all rows

abbrev looked : (one : Class) → (one_newline : Bool) → (two : Class) → (two_newline arrow : Bool) → Look
looked one one_newline two two_newline arrow = record {
  one = one;
  one_newline = one_newline;
  two = two;
  two_newline
      = two_newline;
  arrow = arrow;
}

-- ---- rows for all classes that are not named

abbrev named : Look
named = looked k.Name false k.Name false false

abbrev EntersNamed : Nonterminal → Type 0
EntersNamed m = Enters m (row m named)

more_items : (c : Context) → EntersNamed (n.Items c)
more_items c = refl

item_statement : (c : Context) → EntersNamed (n.Item c)
item_statement c = refl

declared_loop : (word : DeclarationWord) (c : Context) → EntersNamed (n.DeclaredHead word c)
declared_loop word c = refl

left_loop : (c : Context) → EntersNamed (n.LeftHead c)
left_loop c = refl

optional_word : (c : Context) → EntersNamed (n.OptionalTail c)
optional_word c = refl

first_argument : (c : Context) → EntersNamed (n.Arguments c)
first_argument c = refl

plain_argument : (c : Context) → EntersNamed (n.Argument c)
plain_argument c = refl

arrow_value : (c : Context) → EntersNamed (n.ArrowBody c)
arrow_value c = refl

first_element : (c : Context) → EntersNamed (n.Elements c)
first_element c = refl

first_prop : (c : Context) → EntersNamed (n.Props c)
first_prop c = refl

word_key : (c : Context) → EntersNamed (n.Key c)
word_key c = refl

first_parameter : EntersNamed n.Parameters
first_parameter = refl

enters_at : (m : Nonterminal) (one : Class) (newline : Bool) (two : Class) (newline' arrow : Bool)
    → Enters m (row m (looked one newline two newline' arrow))
enters_at n.Script _ _ _ _ _ = refl
enters_at (n.Items c) k.RightBrace _ _ _ _ = refl
enters_at (n.Items c) k.Case _ _ _ _ = refl
enters_at (n.Items c) k.Default _ _ _ _ = refl
enters_at (n.Items c) k.End _ _ _ _ = refl
enters_at (n.Items c) _ _ _ _ _ = more_items c
enters_at (n.Item c) k.Function _ two _ _ = declaration_enters c two
enters_at (n.Item c) k.Let _ _ _ _ = refl
enters_at (n.Item c) k.Const _ _ _ _ = refl
enters_at (n.Item c) _ _ _ _ _ = item_statement c
enters_at (n.Block c) _ _ _ _ _ = refl
enters_at (n.Binds word c) _ _ _ _ _ = refl
enters_at (n.Bind word c) _ _ _ _ _ = refl
enters_at (n.MoreBinds word c) k.Comma _ _ _ _ = refl
enters_at (n.MoreBinds word c) _ _ _ _ _ = refl
enters_at (n.Initial word c) k.Assign _ _ _ _ = refl
enters_at (n.Initial word c) _ _ _ _ _ = no_value_enters word c
enters_at (n.Bound role) one newline two newline' arrow = bound_enters role (looked one newline two newline' arrow) one
enters_at n.Semi k.Semicolon _ _ _ _ = refl
enters_at n.Semi k.RightBrace _ _ _ _ = refl
enters_at n.Semi k.End _ _ _ _ = refl
enters_at n.Semi _ true _ _ _ = refl
enters_at n.Semi _ false _ _ _ = refl
enters_at n.LooseSemi k.Semicolon _ _ _ _ = refl
enters_at n.LooseSemi _ _ _ _ _ = refl
enters_at (n.Else c) k.Else _ _ _ _ = refl
enters_at (n.Else c) _ _ _ _ _ = refl
enters_at (n.Label jump) _ true _ _ _ = refl
enters_at (n.Label jump) one false _ _ _ = enters_if (n.Label jump) (is_name one) _ _ refl refl
enters_at (n.ReturnValue c) k.Semicolon true _ _ _ = refl
enters_at (n.ReturnValue c) _ true _ _ _ = refl
enters_at (n.ReturnValue c) _ _ _ _ _ = refl
enters_at (n.ThrowValue c) _ true _ _ _ = refl
enters_at (n.ThrowValue c) _ _ _ _ _ = refl
enters_at (n.Clauses c has_default) k.Case _ _ _ _ = refl
enters_at (n.Clauses c false) k.Default _ _ _ _ = refl
enters_at (n.Clauses c true) k.Default _ _ _ _ = refl
enters_at (n.Clauses c has_default) _ _ _ _ _ = refl
enters_at (n.Handlers c) k.Catch _ _ _ _ = refl
enters_at (n.Handlers c) k.Finally _ _ _ _ = refl
enters_at (n.Handlers c) _ _ _ _ _ = refl
enters_at (n.CatchClause c) _ _ _ _ _ = refl
enters_at n.CatchName k.LeftParen _ _ _ _ = refl
enters_at n.CatchName _ _ _ _ _ = refl
enters_at (n.Finally c) k.Finally _ _ _ _ = refl
enters_at (n.Finally c) _ _ _ _ _ = refl
enters_at n.ForOpen k.Await _ _ _ _ = refl
enters_at n.ForOpen _ _ _ _ _ = refl
enters_at (n.DeclaredHead word c) k.In _ _ _ _ = refl
enters_at (n.DeclaredHead word c) k.Of _ _ _ _ = refl
enters_at (n.DeclaredHead word c) _ _ _ _ _ = declared_loop word c
enters_at (n.LeftHead c) k.In _ _ _ _ = refl
enters_at (n.LeftHead c) k.Of _ _ _ _ = refl
enters_at (n.LeftHead c) _ _ _ _ _ = left_loop c
enters_at (n.OptionalExpr c) k.Semicolon _ _ _ _ = refl
enters_at (n.OptionalExpr c) _ _ _ _ _ = refl
enters_at (n.Expr c) _ _ _ _ _ = refl
enters_at (n.ExprRest listed c) k.Comma _ _ _ _ = refl
enters_at (n.ExprRest listed c) _ _ _ _ _ = expr_end_enters listed c
enters_at n.ArrowSign _ true _ _ _ = refl
enters_at n.ArrowSign _ _ _ _ _ = refl
enters_at (n.ArrowBody c) k.LeftBrace _ _ _ _ = refl
enters_at (n.ArrowBody c) _ _ _ _ _ = arrow_value c
enters_at (n.YieldValue c) k.Star true _ _ _ = refl
enters_at (n.YieldValue c) _ true _ _ _ = refl
enters_at (n.YieldValue c) _ _ _ _ _ = refl
enters_at (n.OptionalTail c) k.LeftBracket _ _ _ _ = refl
enters_at (n.OptionalTail c) k.LeftParen _ _ _ _ = refl
enters_at (n.OptionalTail c) k.TemplateWhole _ _ _ _ = refl
enters_at (n.OptionalTail c) k.TemplateHead _ _ _ _ = refl
enters_at (n.OptionalTail c) _ _ _ _ _ = optional_word c
enters_at n.Word k.Name _ _ _ _ = refl
enters_at n.Word _ _ _ _ _ = refl
enters_at (n.Members c) k.Dot _ _ _ _ = refl
enters_at (n.Members c) k.LeftBracket _ _ _ _ = refl
enters_at (n.Members c) _ _ _ _ _ = refl
enters_at (n.NewArgs c) k.LeftParen _ _ _ _ = refl
enters_at (n.NewArgs c) k.OptionalDot _ _ _ _ = refl
enters_at (n.NewArgs c) _ _ _ _ _ = refl
enters_at (n.Args c) _ _ _ _ _ = refl
enters_at (n.Arguments c) k.RightParen _ _ _ _ = refl
enters_at (n.Arguments c) _ _ _ _ _ = first_argument c
enters_at (n.MoreArguments c) k.Comma _ _ _ _ = refl
enters_at (n.MoreArguments c) _ _ _ _ _ = refl
enters_at (n.Argument c) k.Ellipsis _ _ _ _ = refl
enters_at (n.Argument c) _ _ _ _ _ = plain_argument c
enters_at (n.TemplateRest c) k.TemplateMiddle _ _ _ _ = refl
enters_at (n.TemplateRest c) k.TemplateTail _ _ _ _ = refl
enters_at (n.TemplateRest c) _ _ _ _ _ = refl
enters_at (n.Elements c) k.RightBracket _ _ _ _ = refl
enters_at (n.Elements c) k.Comma _ _ _ _ = refl
enters_at (n.Elements c) _ _ _ _ _ = first_element c
enters_at (n.MoreElements c) k.Comma _ _ _ _ = refl
enters_at (n.MoreElements c) _ _ _ _ _ = refl
enters_at (n.Props c) k.RightBrace _ _ _ _ = refl
enters_at (n.Props c) _ _ _ _ _ = first_prop c
enters_at (n.MoreProps c) k.Comma _ _ _ _ = refl
enters_at (n.MoreProps c) _ _ _ _ _ = refl
enters_at n.ShorthandEnd k.Assign _ _ _ _ = refl
enters_at n.ShorthandEnd _ _ _ _ _ = refl
enters_at (n.KeyRest c) k.Colon _ _ _ _ = refl
enters_at (n.KeyRest c) k.LeftParen _ _ _ _ = refl
enters_at (n.KeyRest c) _ _ _ _ _ = refl
enters_at (n.Key c) k.Text _ _ _ _ = refl
enters_at (n.Key c) k.Number _ _ _ _ = refl
enters_at (n.Key c) k.OctalNumber _ _ _ _ = refl
enters_at (n.Key c) k.LeftBracket _ _ _ _ = refl
enters_at (n.Key c) _ _ _ _ _ = word_key c
enters_at n.OwnName one _ _ _ _ = enters_if n.OwnName (is_name one) _ _ refl refl
enters_at n.Params _ _ _ _ _ = refl
enters_at n.Parameters k.RightParen _ _ _ _ = refl
enters_at n.Parameters k.Ellipsis _ _ _ _ = refl
enters_at n.Parameters _ _ _ _ _ = first_parameter
enters_at n.MoreParameters k.Comma _ _ _ _ = refl
enters_at n.MoreParameters k.Assign _ _ _ _ = refl
enters_at n.MoreParameters _ _ _ _ _ = refl
enters_at n.ParameterEnd k.Assign _ _ _ _ = refl
enters_at n.ParameterEnd _ _ _ _ _ = refl
enters_at (n.Body generator) _ _ _ _ _ = refl
enters_at (n.Statement c) one newline two newline' arrow = let l = looked one newline two newline' arrow in enters_if
    (n.Statement c) (is_async l) _ _ refl (enters_if (n.Statement c) (is_name one && is_colon two) _ _ refl
    (statement_enters c l one))
enters_at (n.Head c) one newline two newline' arrow = head_enters c (looked one newline two newline' arrow) one
enters_at (n.Operation loosest c) one newline two newline' arrow = enters_if (n.Operation loosest c) (is_loosest
    loosest && begins_arrow (looked one newline two newline' arrow)) _ _ (arrow_enters loosest c (is_paren one))
    (operation_enters loosest c (is_loosest loosest && c.yields) one)
enters_at (n.Tails tailed loosest c) one newline two newline' arrow = tails_enters tailed loosest c (looked one
    newline two newline' arrow) one
enters_at (n.Rests loosest tightest c) one newline two newline' arrow = rests_enters loosest tightest c (looked one
    newline two newline' arrow)
enters_at (n.Primary c) one newline two newline' arrow = let l = looked one newline two newline' arrow in enters_if
    (n.Primary c) (is_async l) _ _ refl (primary_enters c l one)
enters_at (n.Prop c) one newline two newline' arrow = let l = looked one newline two newline' arrow in enters_if
    (n.Prop c) (is_async l) _ _ refl (prop_enters c l one)

rows_enter : (m : Nonterminal) (l : Look) → Enters m (row m l)
rows_enter m l = enters_at m l.one l.one_newline l.two l.two_newline l.arrow

-- ---- where no function is entered

none_opens : (right : List Symbol) → opens_enter right ≡ true → some_symbol is_enter right ≡ false
    → some_symbol is_open right ≡ false
none_opens [] h none = refl
none_opens (first ∷ more) h none =
    let later : some_symbol is_enter more ≡ false = or_right (is_enter first) (some_symbol is_enter more) none in
    let here : is_open first ≡ false =
    closed (is_open first) (some_symbol is_enter more)
    (and_left (not (is_open first) || some_symbol is_enter more) (opens_enter more) h) later in
    ap (λ b. b || some_symbol is_open more) here
    ∙ none_opens more (and_right (not (is_open first) || some_symbol is_enter more) (opens_enter more) h) later
  where
    or_right : (a b : Bool) → (a || b) ≡ false → b ≡ false
    or_right true b h = cc
    or_right false b h = h

    closed : (a b : Bool) → (not a || b) ≡ true → b ≡ false → a ≡ false
    closed true b h i = cc
    closed false b h i = refl

-- In a row in which no function is entered none opens.
pub opens_none : (m : Nonterminal) (l : Look) (right : List Symbol) → step_of (row m l) ≡ pushes right
    → some_symbol is_enter right ≡ false → some_symbol is_open right ≡ false
opens_none m l right h = none_opens right (sym (ap is_entered h) ∙ rows_enter m l)
