-- Each row of the grammar makes, of parts that are cut, what is cut; and in the row of a function its number is left.
use Rattle.std.proofs.Common.{◌≡◌, Bool, true, false, not, ◌&&◌, if◌then◌else◌, List, Option}
use Rattle.std.proofs.Common.{Some, None, refl, ap, ◌∙◌, subst}
use Rattle.hz_tree.specs.declared.class.Class.{Class}
use Rattle.hz_tree.specs.declared.class.Class.TheVariants as k
use Rattle.hz_tree.specs.declared.index.FunctionInfo.{FunctionInfo}
use Rattle.hz_tree.specs.declared.look.Look.{Look}
use Rattle.hz_tree.specs.declared.nonterminal.Context.{Context}
use Rattle.hz_tree.specs.declared.nonterminal.Nonterminal.{Nonterminal}
use Rattle.hz_tree.specs.declared.nonterminal.Nonterminal.TheVariants as n
use Rattle.hz_tree.specs.declared.operator.AssignOperator.{AssignOperator}
use Rattle.hz_tree.specs.declared.operator.BinaryOperator.{BinaryOperator}
use Rattle.hz_tree.specs.declared.operator.DeclarationWord.{DeclarationWord}
use Rattle.hz_tree.specs.declared.operator.DeclarationWord.TheVariants as word
use Rattle.hz_tree.specs.declared.operator.Level.{Level}
use Rattle.hz_tree.specs.declared.operator.Level.TheVariants as level
use Rattle.hz_tree.specs.declared.operator.UnaryOperator.{UnaryOperator}
use Rattle.hz_tree.specs.declared.operator.UpdateOperator.{UpdateOperator}
use Rattle.hz_tree.specs.declared.signal.Role.{Role}
use Rattle.hz_tree.specs.declared.tree.Tree.{the_lemmas}
use Rattle.hz_tree.specs.declared.tree.Tree.TheVariants as t
use Rattle.hz_tree.specs.grammar.Classes.{is_name, is_of, is_colon, is_word, begins_key, is_async_word, is_paren}
use Rattle.hz_tree.specs.grammar.Look.{is_async, begins_arrow}
use Rattle.hz_tree.specs.grammar.Operators.{assign_operator, binary_operator, unary_operator, update_operator}
use Rattle.hz_tree.specs.grammar.Symbols.{Parts, Value, Row, goes, refuses, called}
use Rattle.hz_tree.specs.grammar.ExpressionRows.{expr_end}
use Rattle.hz_tree.specs.grammar.HeadRows.{is_no_left, head_by}
use Rattle.hz_tree.specs.grammar.OperatorRows.{reads_on, operator_row, rest_row, rests_row, arrow_row, operand_row}
use Rattle.hz_tree.specs.grammar.OperatorRows.{operation_by, is_loosest, without_tails, tails_end, tails_by, no_tails}
use Rattle.hz_tree.specs.grammar.OperatorRows.{applied}
use Rattle.hz_tree.specs.grammar.PrimaryRows.{new_row, function_expression_row, primary_by}
use Rattle.hz_tree.specs.grammar.PropertyRows.{plain_prop_row, getter_row, setter_row, prop_by}
use Rattle.hz_tree.specs.grammar.StatementRows.{bound_by, declaration_row, no_value, return_row, statement_by}
use Rattle.hz_tree.specs.grammar.Table.{row}
use Rattle.hz_cuts.specs.Cuts.{cut_value, cut_parts, cut_operators}
use Rattle.hz_cuts.specs.Rows.{is_enter, is_close, some_symbol, all_plain, KeepsRow, SkipsRow, CutsRow}
use Rattle.hz_cuts.specs.Skips.{Skip, inside, whole, front_parts, declaration_skip, expression_skip}
use Rattle.hz_cuts.specs.Skips.{getter_of, setter_of, generator_of, method_of}
use Rattle.hz_cuts.specs.Skips.{primary_skip, arrow_skip, getter_skip, setter_skip, prop_skip, skip_of}
use Rattle.hz_cuts.proofs.TreeCuts.{cut_out}
use Rattle.hz_cuts.proofs.Made.{cut_applied, cut_Function, made_cuts}

-- for a tree that is made here
ruleset tree_cuts = (the_lemmas, made_cuts)

abbrev Made : List FunctionInfo → (m : Nonterminal) → (skip : Skip m) → (Parts Value (whole skip) → Value m) → Type 0
Made functions m skip make = (p : Parts Value (whole skip)) → cut_value functions m (make p)
    ≡ skip.make (cut_parts functions skip.front (front_parts skip.front (inside skip) p))

skips : (functions : List FunctionInfo) (m : Nonterminal) (skip : Skip m) {make : Parts Value (whole skip) → Value m}
    → some_symbol is_enter skip.front ≡ false → some_symbol is_close skip.middle ≡ false → all_plain skip.back ≡ true
    → Made functions m skip make → SkipsRow functions m (goes (whole skip) make) skip
skips functions m skip {make = make} before within behind made =
    record { make = make; same = refl; before = before; within = within; behind = behind; made = made }

keeps_if : (functions : List FunctionInfo) (m : Nonterminal) (test : Bool) (a b : Row m) → KeepsRow functions m a
    → KeepsRow functions m b → KeepsRow functions m (if test then a else b)
keeps_if functions m true a b h i = h
keeps_if functions m false a b h i = i

cuts_if : (functions : List FunctionInfo) (m : Nonterminal) (test : Bool) (a b : Row m) (x y : Option (Skip m))
    → CutsRow functions m a x → CutsRow functions m b y
    → CutsRow functions m (if test then a else b) (if test then x else y)
cuts_if functions m true a b x y h i = h
cuts_if functions m false a b x y h i = i

-- ---- rows of functions

plain_declaration : (functions : List FunctionInfo) (c : Context)
    → SkipsRow functions (n.Item c) (declaration_row c k.Name) (declaration_skip functions c k.Name)
plain_declaration functions c =
    skips functions (n.Item c) (declaration_skip functions c k.Name) refl refl refl
    (λ p. cut_Function functions _ _ _ _ _ _ _)

declaration_cuts : (functions : List FunctionInfo) (c : Context) (two : Class)
    → SkipsRow functions (n.Item c) (declaration_row c two) (declaration_skip functions c two)
declaration_cuts functions c k.Star =
    skips functions (n.Item c) (declaration_skip functions c k.Star) refl refl refl
    (λ p. cut_Function functions _ _ _ _ _ _ _)
declaration_cuts functions c _ = plain_declaration functions c

plain_expression : (functions : List FunctionInfo) (c : Context)
    → SkipsRow functions (n.Primary c) (function_expression_row c k.Name) (expression_skip functions c k.Name)
plain_expression functions c =
    skips functions (n.Primary c) (expression_skip functions c k.Name) refl refl refl
    (λ p. cut_Function functions _ _ _ _ _ _ _)

expression_cuts : (functions : List FunctionInfo) (c : Context) (two : Class)
    → SkipsRow functions (n.Primary c) (function_expression_row c two) (expression_skip functions c two)
expression_cuts functions c k.Star =
    skips functions (n.Primary c) (expression_skip functions c k.Star) refl refl refl
    (λ p. cut_Function functions _ _ _ _ _ _ _)
expression_cuts functions c _ = plain_expression functions c

arrow_cuts : (functions : List FunctionInfo) (loosest : Level) (c : Context) (parenthesised : Bool)
    → SkipsRow functions (n.Operation loosest c) (arrow_row loosest c parenthesised)
    (arrow_skip functions loosest c parenthesised)
arrow_cuts functions loosest c true =
    skips functions (n.Operation loosest c) (arrow_skip functions loosest c true) refl refl refl
    (λ p. cut_Function functions _ _ _ _ _ _ _)
arrow_cuts functions loosest c false =
    skips functions (n.Operation loosest c) (arrow_skip functions loosest c false) refl refl refl
    (λ p. cut_Function functions _ _ _ _ _ _ _)

-- ---- rows that test more than one class

return_cuts : (functions : List FunctionInfo) (c : Context) (returns : Bool)
    → KeepsRow functions (n.Statement c) (return_row c returns)
return_cuts functions c true = (refl, λ p. simp made_cuts)
return_cuts functions c false = tt

expression_statement : (functions : List FunctionInfo) (c : Context) (l : Look)
    → KeepsRow functions (n.Statement c) (statement_by c l k.Name)
expression_statement functions c l = (refl, λ p. cut_out functions _ ∙ simp the_lemmas)

statement_cuts : (functions : List FunctionInfo) (c : Context) (l : Look) (one : Class)
    → KeepsRow functions (n.Statement c) (statement_by c l one)
statement_cuts functions c l k.LeftBrace = (refl, λ p. refl)
statement_cuts functions c l k.For = (refl, λ p. simp made_cuts)
statement_cuts functions c l k.If = (refl, λ p. simp made_cuts)
statement_cuts functions c l k.Try = (refl, λ p. simp made_cuts)
statement_cuts functions c l k.Return = return_cuts functions c c.returns
statement_cuts functions c l k.Function = tt
statement_cuts functions c l k.Var = (refl, λ p. cut_out functions _ ∙ simp the_lemmas)
statement_cuts functions c l k.Semicolon = (refl, λ p. cut_out functions _ ∙ simp the_lemmas)
statement_cuts functions c l k.Debugger = (refl, λ p. cut_out functions _ ∙ simp the_lemmas)
statement_cuts functions c l k.Do = (refl, λ p. cut_out functions _ ∙ simp the_lemmas)
statement_cuts functions c l k.While = (refl, λ p. cut_out functions _ ∙ simp the_lemmas)
statement_cuts functions c l k.Continue = (refl, λ p. cut_out functions _ ∙ simp the_lemmas)
statement_cuts functions c l k.Break = (refl, λ p. cut_out functions _ ∙ simp the_lemmas)
statement_cuts functions c l k.Throw = (refl, λ p. cut_out functions _ ∙ simp the_lemmas)
statement_cuts functions c l k.Switch = (refl, λ p. cut_out functions _ ∙ simp the_lemmas)
statement_cuts functions c l _ = expression_statement functions c l

no_value_cuts : (functions : List FunctionInfo) (word : DeclarationWord) (c : Context)
    → KeepsRow functions (n.Initial word c) (no_value word c)
no_value_cuts functions word.Const c = (refl, λ p. refl)
no_value_cuts functions _ c = (refl, λ p. refl)

expr_end_cuts : (functions : List FunctionInfo) (listed : Bool) (c : Context)
    → KeepsRow functions (n.ExprRest listed c) (expr_end listed c)
expr_end_cuts functions true c = (refl, λ p. refl)
expr_end_cuts functions false c = (refl, λ p. refl)

expr_head_cuts : (functions : List FunctionInfo) (c : Context) (l : Look)
    → KeepsRow functions (n.Head c) (head_by c l k.Name)
expr_head_cuts functions c l =
    keeps_if functions (n.Head c) (is_async_word l.one && is_of l.two) _ _ tt
    (keeps_if functions (n.Head c) (is_no_left c l) _ _ (refl, λ p. refl) (refl, λ p. refl))

head_cuts : (functions : List FunctionInfo) (c : Context) (l : Look) (one : Class)
    → KeepsRow functions (n.Head c) (head_by c l one)
head_cuts functions c l k.Var = (refl, λ p. refl)
head_cuts functions c l k.Let = (refl, λ p. refl)
head_cuts functions c l k.Const = (refl, λ p. refl)
head_cuts functions c l k.Semicolon = (refl, λ p. refl)
head_cuts functions c l _ = expr_head_cuts functions c l

operator_cuts : (functions : List FunctionInfo) (loosest tightest : Level) (c : Context) (one : Class)
    (assigned : Option AssignOperator) (updated : Option UpdateOperator) (joined : Option BinaryOperator)
    → KeepsRow functions (n.Rests loosest tightest c) (operator_row loosest tightest c one assigned updated joined)
operator_cuts functions loosest tightest c one (Some operator) updated joined = (refl, λ p. refl)
operator_cuts functions loosest tightest c one None (Some operator) joined = (refl, λ p. refl)
operator_cuts functions loosest tightest c one None None (Some operator) = (refl, λ p. refl)
operator_cuts functions loosest tightest c one None None None = (refl, λ p. refl)

rest_cuts : (functions : List FunctionInfo) (loosest tightest : Level) (c : Context) (one : Class)
    → KeepsRow functions (n.Rests loosest tightest c) (rest_row loosest tightest c one)
rest_cuts functions loosest tightest c k.Question = (refl, λ p. refl)
rest_cuts functions loosest tightest c one =
    operator_cuts functions loosest tightest c one (assign_operator one) (update_operator one) (binary_operator one)

rests_cuts : (functions : List FunctionInfo) (loosest tightest : Level) (c : Context) (l : Look)
    → KeepsRow functions (n.Rests loosest tightest c) (rests_row loosest tightest c l)
rests_cuts functions loosest tightest c l =
    keeps_if functions (n.Rests loosest tightest c) (reads_on loosest tightest c l.one_newline l.one) _ _
    (rest_cuts functions loosest tightest c l.one) (refl, λ p. refl)

without_cuts : (functions : List FunctionInfo) (loosest : Level) (c : Context)
    (r : Row (n.Rests loosest level.Update c))
    → KeepsRow functions (n.Rests loosest level.Update c) r
    → KeepsRow functions (n.Tails false loosest c) (without_tails loosest c r)
without_cuts functions loosest c (goes right make) h = (h.0, λ p. ap no_tails (h.1 p))
without_cuts functions loosest c (refuses cause) h = tt

tails_end_cuts : (functions : List FunctionInfo) (tailed : Bool) (loosest : Level) (c : Context) (l : Look)
    → KeepsRow functions (n.Tails tailed loosest c) (tails_end tailed loosest c l)
tails_end_cuts functions true loosest c l = (refl, λ p. refl)
tails_end_cuts functions false loosest c l =
    without_cuts functions loosest c (rests_row loosest level.Update c l)
    (rests_cuts functions loosest level.Update c l)

tails_cuts : (functions : List FunctionInfo) (tailed : Bool) (loosest : Level) (c : Context) (l : Look) (one : Class)
    → KeepsRow functions (n.Tails tailed loosest c) (tails_by tailed loosest c l one)
tails_cuts functions tailed loosest c l k.Dot = (refl, λ p. simp made_cuts)
tails_cuts functions tailed loosest c l k.LeftBracket = (refl, λ p. simp made_cuts)
tails_cuts functions tailed loosest c l k.LeftParen = (refl, λ p. refl)
tails_cuts functions tailed loosest c l k.OptionalDot = (refl, λ p. simp made_cuts)
tails_cuts functions tailed loosest c l k.TemplateWhole = tt
tails_cuts functions tailed loosest c l k.TemplateHead = tt
tails_cuts functions tailed loosest c l _ = tails_end_cuts functions tailed loosest c l

operand_cuts : (functions : List FunctionInfo) (loosest : Level) (c : Context) (one : Class)
    (operator : Option UnaryOperator)
    → KeepsRow functions (n.Operation loosest c) (operand_row loosest c one operator)
operand_cuts functions loosest c one (Some operator) = (
  refl,
  λ p.
      cut_applied functions p.1.1.1.1.1.1.0 (t.Unary p.0.at operator p.1.1.0)
      ∙ ap (λ h. applied h (cut_operators functions p.1.1.1.1.1.1.0)) (cut_out functions _ ∙ simp the_lemmas),
)
operand_cuts functions loosest c one None = (refl, λ p. simp made_cuts)

operation_cuts : (functions : List FunctionInfo) (loosest : Level) (c : Context) (yields : Bool) (one : Class)
    → KeepsRow functions (n.Operation loosest c) (operation_by loosest c yields one)
operation_cuts functions loosest c true k.Yield = (refl, λ p. simp made_cuts)
operation_cuts functions loosest c yields one = operand_cuts functions loosest c one (unary_operator one)

plain_new : (functions : List FunctionInfo) (c : Context) → KeepsRow functions (n.Primary c) (new_row c k.Name)
plain_new functions c = (refl, λ p. simp made_cuts)

new_cuts : (functions : List FunctionInfo) (c : Context) (two : Class)
    → KeepsRow functions (n.Primary c) (new_row c two)
new_cuts functions c k.Dot = (refl, λ p. cut_out functions _ ∙ simp the_lemmas)
new_cuts functions c _ = plain_new functions c

identifier_cuts : (functions : List FunctionInfo) (c : Context) (l : Look)
    → KeepsRow functions (n.Primary c) (primary_by c l k.Name)
identifier_cuts functions c l =
    keeps_if functions (n.Primary c) (is_name l.one) _ _ (refl, λ p. cut_out functions _ ∙ simp the_lemmas) tt

primary_cuts : (functions : List FunctionInfo) (c : Context) (l : Look) (one : Class)
    → CutsRow functions (n.Primary c) (primary_by c l one) (primary_skip functions c one l.two)
primary_cuts functions c l k.Slash = tt
primary_cuts functions c l k.SlashAssign = tt
primary_cuts functions c l k.New = new_cuts functions c l.two
primary_cuts functions c l k.Function = expression_cuts functions c l.two
primary_cuts functions c l k.This = (refl, λ p. cut_out functions _ ∙ simp the_lemmas)
primary_cuts functions c l k.Null = (refl, λ p. cut_out functions _ ∙ simp the_lemmas)
primary_cuts functions c l k.True = (refl, λ p. cut_out functions _ ∙ simp the_lemmas)
primary_cuts functions c l k.False = (refl, λ p. cut_out functions _ ∙ simp the_lemmas)
primary_cuts functions c l k.Number = (refl, λ p. cut_out functions _ ∙ simp the_lemmas)
primary_cuts functions c l k.OctalNumber = (refl, λ p. cut_out functions _ ∙ simp the_lemmas)
primary_cuts functions c l k.Text = (refl, λ p. cut_out functions _ ∙ simp the_lemmas)
primary_cuts functions c l k.LeftParen = (refl, λ p. cut_out functions _ ∙ simp the_lemmas)
primary_cuts functions c l k.TemplateWhole = (refl, λ p. cut_out functions _ ∙ simp the_lemmas)
primary_cuts functions c l k.TemplateHead = (refl, λ p. cut_out functions _ ∙ simp the_lemmas)
primary_cuts functions c l k.LeftBracket = (refl, λ p. cut_out functions _ ∙ simp the_lemmas)
primary_cuts functions c l k.LeftBrace = (refl, λ p. cut_out functions _ ∙ simp the_lemmas)
primary_cuts functions c l _ = identifier_cuts functions c l

plain_prop_cuts : (functions : List FunctionInfo) (c : Context) (l : Look)
    → KeepsRow functions (n.Prop c) (plain_prop_row c l)
plain_prop_cuts functions c l =
    keeps_if functions (n.Prop c) (is_name l.one && (not (is_colon l.two) && not (is_paren l.two))) _ _
    (refl, λ p. cut_out functions _ ∙ simp the_lemmas) (refl, λ p. simp made_cuts)

getter_cuts : (functions : List FunctionInfo) (c : Context) (l : Look) (keyed : Bool)
    → CutsRow functions (n.Prop c) (getter_row c l keyed) (getter_skip functions c keyed)
getter_cuts functions c l true =
    skips functions (n.Prop c) (getter_of functions c) refl refl refl (λ p. cut_out functions _ ∙ simp tree_cuts)
getter_cuts functions c l false = plain_prop_cuts functions c l

setter_cuts : (functions : List FunctionInfo) (c : Context) (l : Look) (keyed : Bool)
    → CutsRow functions (n.Prop c) (setter_row c l keyed) (setter_skip functions c keyed)
setter_cuts functions c l true =
    skips functions (n.Prop c) (setter_of functions c) refl refl refl (λ p. cut_out functions _ ∙ simp tree_cuts)
setter_cuts functions c l false = plain_prop_cuts functions c l

prop_cuts : (functions : List FunctionInfo) (c : Context) (l : Look) (one : Class)
    → CutsRow functions (n.Prop c) (prop_by c l one) (prop_skip functions c one l.two)
prop_cuts functions c l k.Ellipsis = (refl, λ p. cut_out functions _ ∙ simp the_lemmas)
prop_cuts functions c l k.Star =
    skips functions (n.Prop c) (generator_of functions c) refl refl refl (λ p. cut_out functions _ ∙ simp tree_cuts)
prop_cuts functions c l k.Get = getter_cuts functions c l (begins_key l.two)
prop_cuts functions c l k.Set = setter_cuts functions c l (begins_key l.two)
prop_cuts functions c l _ = plain_prop_cuts functions c l

bound_cuts : (functions : List FunctionInfo) (bound : Role) (l : Look) (one : Class)
    → KeepsRow functions (n.Bound bound) (bound_by bound l one)
bound_cuts functions bound l k.LeftBracket = tt
bound_cuts functions bound l k.LeftBrace = tt
bound_cuts functions bound l _ = keeps_if functions (n.Bound bound) (is_name l.one) _ _ (refl, λ p. refl) tt

-- ---- all rows

abbrev looked : (one : Class) → (one_newline : Bool) → (two : Class) → (two_newline arrow : Bool) → Look
looked one one_newline two two_newline arrow =
    record { one = one; one_newline = one_newline; two = two; two_newline = two_newline; arrow = arrow }

-- ---- rows for all classes that are not named

abbrev named : Look
named = looked k.Name false k.Name false false

abbrev KeepsNamed : List FunctionInfo → Nonterminal → Type 0
KeepsNamed functions m = KeepsRow functions m (row m named)

more_items : (functions : List FunctionInfo) (c : Context) → KeepsNamed functions (n.Items c)
more_items functions c = (refl, λ p. refl)

item_statement : (functions : List FunctionInfo) (c : Context) → KeepsNamed functions (n.Item c)
item_statement functions c = (refl, λ p. refl)

declared_loop : (functions : List FunctionInfo) (word : DeclarationWord) (c : Context)
    → KeepsNamed functions (n.DeclaredHead word c)
declared_loop functions word c = (refl, λ p. refl)

left_loop : (functions : List FunctionInfo) (c : Context) → KeepsNamed functions (n.LeftHead c)
left_loop functions c = (refl, λ p. refl)

optional_word : (functions : List FunctionInfo) (c : Context) → KeepsNamed functions (n.OptionalTail c)
optional_word functions c = (refl, λ p. cut_out functions _ ∙ simp the_lemmas)

first_argument : (functions : List FunctionInfo) (c : Context) → KeepsNamed functions (n.Arguments c)
first_argument functions c = (refl, λ p. refl)

plain_argument : (functions : List FunctionInfo) (c : Context) → KeepsNamed functions (n.Argument c)
plain_argument functions c = (refl, λ p. refl)

arrow_value : (functions : List FunctionInfo) (c : Context) → KeepsNamed functions (n.ArrowBody c)
arrow_value functions c = (refl, λ p. refl)

first_element : (functions : List FunctionInfo) (c : Context) → KeepsNamed functions (n.Elements c)
first_element functions c = (refl, λ p. refl)

first_prop : (functions : List FunctionInfo) (c : Context) → KeepsNamed functions (n.Props c)
first_prop functions c = (refl, λ p. refl)

word_key : (functions : List FunctionInfo) (c : Context) → KeepsNamed functions (n.Key c)
word_key functions c = (refl, λ p. cut_out functions _ ∙ simp the_lemmas)

first_parameter : (functions : List FunctionInfo) → KeepsNamed functions n.Parameters
first_parameter functions = (refl, λ p. refl)

cuts_at : (functions : List FunctionInfo) (m : Nonterminal) (one : Class) (newline : Bool) (two : Class)
    (newline' arrow : Bool)
    → CutsRow functions m (row m (looked one newline two newline' arrow))
    (skip_of functions m (looked one newline two newline' arrow))
cuts_at functions n.Script _ _ _ _ _ = (refl, λ p. cut_out functions _ ∙ simp the_lemmas)
cuts_at functions (n.Items c) k.RightBrace _ _ _ _ = (refl, λ p. refl)
cuts_at functions (n.Items c) k.Case _ _ _ _ = (refl, λ p. refl)
cuts_at functions (n.Items c) k.Default _ _ _ _ = (refl, λ p. refl)
cuts_at functions (n.Items c) k.End _ _ _ _ = (refl, λ p. refl)
cuts_at functions (n.Items c) _ _ _ _ _ = more_items functions c
cuts_at functions (n.Item c) k.Function _ two _ _ = declaration_cuts functions c two
cuts_at functions (n.Item c) k.Let _ _ _ _ = (refl, λ p. cut_out functions _ ∙ simp the_lemmas)
cuts_at functions (n.Item c) k.Const _ _ _ _ = (refl, λ p. cut_out functions _ ∙ simp the_lemmas)
cuts_at functions (n.Item c) _ _ _ _ _ = item_statement functions c
cuts_at functions (n.Block c) _ _ _ _ _ = (refl, λ p. cut_out functions _ ∙ simp the_lemmas)
cuts_at functions (n.Binds word c) _ _ _ _ _ = (refl, λ p. refl)
cuts_at functions (n.Bind word c) _ _ _ _ _ = (refl, λ p. simp made_cuts)
cuts_at functions (n.MoreBinds word c) k.Comma _ _ _ _ = (refl, λ p. refl)
cuts_at functions (n.MoreBinds word c) _ _ _ _ _ = (refl, λ p. refl)
cuts_at functions (n.Initial word c) k.Assign _ _ _ _ = (refl, λ p. refl)
cuts_at functions (n.Initial word c) _ _ _ _ _ = no_value_cuts functions word c
cuts_at functions (n.Bound role) one newline two newline' arrow =
    bound_cuts functions role (looked one newline two newline' arrow) one
cuts_at functions n.Semi k.Semicolon _ _ _ _ = (refl, λ p. refl)
cuts_at functions n.Semi k.RightBrace _ _ _ _ = (refl, λ p. refl)
cuts_at functions n.Semi k.End _ _ _ _ = (refl, λ p. refl)
cuts_at functions n.Semi _ true _ _ _ = (refl, λ p. refl)
cuts_at functions n.Semi _ false _ _ _ = tt
cuts_at functions n.LooseSemi k.Semicolon _ _ _ _ = (refl, λ p. refl)
cuts_at functions n.LooseSemi _ _ _ _ _ = (refl, λ p. refl)
cuts_at functions (n.Else c) k.Else _ _ _ _ = (refl, λ p. refl)
cuts_at functions (n.Else c) _ _ _ _ _ = (refl, λ p. refl)
cuts_at functions (n.Label jump) _ true _ _ _ = (refl, λ p. refl)
cuts_at functions (n.Label jump) one false _ _ _ =
    keeps_if functions (n.Label jump) (is_name one) _ _ (refl, λ p. refl) (refl, λ p. refl)
cuts_at functions (n.ReturnValue c) k.Semicolon true _ _ _ = (refl, λ p. refl)
cuts_at functions (n.ReturnValue c) _ true _ _ _ = (refl, λ p. refl)
cuts_at functions (n.ReturnValue c) _ _ _ _ _ = (refl, λ p. refl)
cuts_at functions (n.ThrowValue c) _ true _ _ _ = tt
cuts_at functions (n.ThrowValue c) _ _ _ _ _ = (refl, λ p. refl)
cuts_at functions (n.Clauses c has_default) k.Case _ _ _ _ = (refl, λ p. simp made_cuts)
cuts_at functions (n.Clauses c false) k.Default _ _ _ _ = (refl, λ p. simp made_cuts)
cuts_at functions (n.Clauses c true) k.Default _ _ _ _ = (refl, λ p. refl)
cuts_at functions (n.Clauses c has_default) _ _ _ _ _ = (refl, λ p. refl)
cuts_at functions (n.Handlers c) k.Catch _ _ _ _ = (refl, λ p. refl)
cuts_at functions (n.Handlers c) k.Finally _ _ _ _ = (refl, λ p. refl)
cuts_at functions (n.Handlers c) _ _ _ _ _ = tt
cuts_at functions (n.CatchClause c) _ _ _ _ _ = (refl, λ p. cut_out functions _ ∙ simp the_lemmas)
cuts_at functions n.CatchName k.LeftParen _ _ _ _ = (refl, λ p. refl)
cuts_at functions n.CatchName _ _ _ _ _ = (refl, λ p. refl)
cuts_at functions (n.Finally c) k.Finally _ _ _ _ = (refl, λ p. refl)
cuts_at functions (n.Finally c) _ _ _ _ _ = (refl, λ p. refl)
cuts_at functions n.ForOpen k.Await _ _ _ _ = tt
cuts_at functions n.ForOpen _ _ _ _ _ = (refl, λ p. refl)
cuts_at functions (n.DeclaredHead word c) k.In _ _ _ _ = (refl, λ p. refl)
cuts_at functions (n.DeclaredHead word c) k.Of _ _ _ _ = (refl, λ p. refl)
cuts_at functions (n.DeclaredHead word c) _ _ _ _ _ = declared_loop functions word c
cuts_at functions (n.LeftHead c) k.In _ _ _ _ = (refl, λ p. refl)
cuts_at functions (n.LeftHead c) k.Of _ _ _ _ = (refl, λ p. refl)
cuts_at functions (n.LeftHead c) _ _ _ _ _ = left_loop functions c
cuts_at functions (n.OptionalExpr c) k.Semicolon _ _ _ _ = (refl, λ p. refl)
cuts_at functions (n.OptionalExpr c) _ _ _ _ _ = (refl, λ p. refl)
cuts_at functions (n.Expr c) _ _ _ _ _ = (refl, λ p. simp made_cuts)
cuts_at functions (n.ExprRest listed c) k.Comma _ _ _ _ = (refl, λ p. refl)
cuts_at functions (n.ExprRest listed c) _ _ _ _ _ = expr_end_cuts functions listed c
cuts_at functions n.ArrowSign _ true _ _ _ = tt
cuts_at functions n.ArrowSign _ _ _ _ _ = (refl, λ p. refl)
cuts_at functions (n.ArrowBody c) k.LeftBrace _ _ _ _ = (refl, λ p. refl)
cuts_at functions (n.ArrowBody c) _ _ _ _ _ = arrow_value functions c
cuts_at functions (n.YieldValue c) k.Star true _ _ _ = (refl, λ p. refl)
cuts_at functions (n.YieldValue c) _ true _ _ _ = (refl, λ p. refl)
cuts_at functions (n.YieldValue c) _ _ _ _ _ = (refl, λ p. refl)
cuts_at functions (n.OptionalTail c) k.LeftBracket _ _ _ _ = (refl, λ p. cut_out functions _ ∙ simp the_lemmas)
cuts_at functions (n.OptionalTail c) k.LeftParen _ _ _ _ = (refl, λ p. refl)
cuts_at functions (n.OptionalTail c) k.TemplateWhole _ _ _ _ = tt
cuts_at functions (n.OptionalTail c) k.TemplateHead _ _ _ _ = tt
cuts_at functions (n.OptionalTail c) _ _ _ _ _ = optional_word functions c
cuts_at functions n.Word one _ _ _ _ = keeps_if functions n.Word (is_word one) _ _ (refl, λ p. refl) tt
cuts_at functions (n.Members c) k.Dot _ _ _ _ = (refl, λ p. simp made_cuts)
cuts_at functions (n.Members c) k.LeftBracket _ _ _ _ = (refl, λ p. simp made_cuts)
cuts_at functions (n.Members c) _ _ _ _ _ = (refl, λ p. refl)
cuts_at functions (n.NewArgs c) k.LeftParen _ _ _ _ = (refl, λ p. refl)
cuts_at functions (n.NewArgs c) k.OptionalDot _ _ _ _ = tt
cuts_at functions (n.NewArgs c) _ _ _ _ _ = (refl, λ p. refl)
cuts_at functions (n.Args c) _ _ _ _ _ = (refl, λ p. cut_out functions _ ∙ simp the_lemmas)
cuts_at functions (n.Arguments c) k.RightParen _ _ _ _ = (refl, λ p. refl)
cuts_at functions (n.Arguments c) _ _ _ _ _ = first_argument functions c
cuts_at functions (n.MoreArguments c) k.Comma _ _ _ _ = (refl, λ p. refl)
cuts_at functions (n.MoreArguments c) _ _ _ _ _ = (refl, λ p. refl)
cuts_at functions (n.Argument c) k.Ellipsis _ _ _ _ = (refl, λ p. cut_out functions _ ∙ simp the_lemmas)
cuts_at functions (n.Argument c) _ _ _ _ _ = plain_argument functions c
cuts_at functions (n.TemplateRest c) k.TemplateMiddle _ _ _ _ = (refl, λ p. refl)
cuts_at functions (n.TemplateRest c) k.TemplateTail _ _ _ _ = (refl, λ p. refl)
cuts_at functions (n.TemplateRest c) _ _ _ _ _ = tt
cuts_at functions (n.Elements c) k.RightBracket _ _ _ _ = (refl, λ p. refl)
cuts_at functions (n.Elements c) k.Comma _ _ _ _ = (refl, λ p. simp made_cuts)
cuts_at functions (n.Elements c) _ _ _ _ _ = first_element functions c
cuts_at functions (n.MoreElements c) k.Comma _ _ _ _ = (refl, λ p. refl)
cuts_at functions (n.MoreElements c) _ _ _ _ _ = (refl, λ p. refl)
cuts_at functions (n.Props c) k.RightBrace _ _ _ _ = (refl, λ p. refl)
cuts_at functions (n.Props c) _ _ _ _ _ = first_prop functions c
cuts_at functions (n.MoreProps c) k.Comma _ _ _ _ = (refl, λ p. refl)
cuts_at functions (n.MoreProps c) _ _ _ _ _ = (refl, λ p. refl)
cuts_at functions n.ShorthandEnd k.Assign _ _ _ _ = tt
cuts_at functions n.ShorthandEnd _ _ _ _ _ = (refl, λ p. refl)
cuts_at functions (n.KeyRest c) k.Colon _ _ _ _ = (refl, λ p. refl)
cuts_at functions (n.KeyRest c) k.LeftParen _ _ _ _ =
    skips functions (n.KeyRest c) (method_of functions c) refl refl refl (λ p. ap called (cut_Function functions _ _
    _ _ _ _ _))
cuts_at functions (n.KeyRest c) _ _ _ _ _ = tt
cuts_at functions (n.Key c) k.Text _ _ _ _ = (refl, λ p. cut_out functions _ ∙ simp the_lemmas)
cuts_at functions (n.Key c) k.Number _ _ _ _ = (refl, λ p. cut_out functions _ ∙ simp the_lemmas)
cuts_at functions (n.Key c) k.OctalNumber _ _ _ _ = (refl, λ p. cut_out functions _ ∙ simp the_lemmas)
cuts_at functions (n.Key c) k.LeftBracket _ _ _ _ = (refl, λ p. cut_out functions _ ∙ simp the_lemmas)
cuts_at functions (n.Key c) _ _ _ _ _ = word_key functions c
cuts_at functions n.OwnName one _ _ _ _ =
    keeps_if functions n.OwnName (is_name one) _ _ (refl, λ p. refl) (refl, λ p. refl)
cuts_at functions n.Params _ _ _ _ _ = (refl, λ p. refl)
cuts_at functions n.Parameters k.RightParen _ _ _ _ = (refl, λ p. refl)
cuts_at functions n.Parameters k.Ellipsis _ _ _ _ = (refl, λ p. refl)
cuts_at functions n.Parameters _ _ _ _ _ = first_parameter functions
cuts_at functions n.MoreParameters k.Comma _ _ _ _ = (refl, λ p. refl)
cuts_at functions n.MoreParameters k.Assign _ _ _ _ = tt
cuts_at functions n.MoreParameters _ _ _ _ _ = (refl, λ p. refl)
cuts_at functions n.ParameterEnd k.Assign _ _ _ _ = tt
cuts_at functions n.ParameterEnd _ _ _ _ _ = (refl, λ p. refl)
cuts_at functions (n.Body generator) _ _ _ _ _ = (refl, λ p. cut_out functions _ ∙ simp the_lemmas)
cuts_at functions (n.Statement c) one newline two newline' arrow =
    let l = looked one newline two newline' arrow in keeps_if functions (n.Statement c) (is_async l) _ _ tt (keeps_if
    functions (n.Statement c) (is_name one && is_colon two) _ _ (refl, λ p. cut_out functions _ ∙ simp the_lemmas)
    (statement_cuts functions c l one))
cuts_at functions (n.Head c) one newline two newline' arrow =
    head_cuts functions c (looked one newline two newline' arrow) one
cuts_at functions (n.Operation loosest c) one newline two newline' arrow =
    cuts_if functions (n.Operation loosest c) (is_loosest loosest && begins_arrow (looked one newline two newline'
    arrow)) _ _ (Some (arrow_skip functions loosest c (is_paren one))) None (arrow_cuts functions loosest c (is_paren
    one)) (operation_cuts functions loosest c (is_loosest loosest && c.yields) one)
cuts_at functions (n.Tails tailed loosest c) one newline two newline' arrow =
    tails_cuts functions tailed loosest c (looked one newline two newline' arrow) one
cuts_at functions (n.Rests loosest tightest c) one newline two newline' arrow =
    rests_cuts functions loosest tightest c (looked one newline two newline' arrow)
cuts_at functions (n.Primary c) one newline two newline' arrow =
    let l = looked one newline two newline' arrow in cuts_if functions (n.Primary c) (is_async l) _ _ None
    (primary_skip functions c one two) tt (primary_cuts functions c l one)
cuts_at functions (n.Prop c) one newline two newline' arrow =
    let l = looked one newline two newline' arrow in cuts_if functions (n.Prop c) (is_async l) _ _ None (prop_skip
    functions c one two) tt (prop_cuts functions c l one)

-- All rows are cut so.
pub rows_cut : (functions : List FunctionInfo) (m : Nonterminal) (l : Look)
    → CutsRow functions m (row m l) (skip_of functions m l)
rows_cut functions m l = cuts_at functions m l.one l.one_newline l.two l.two_newline l.arrow

-- where no function stands in the right-hand side
pub rows_keep : (functions : List FunctionInfo) (m : Nonterminal) (l : Look) → skip_of functions m l ≡ None
    → KeepsRow functions m (row m l)
rows_keep functions m l none = subst (CutsRow functions m (row m l)) none (rows_cut functions m l)

-- the row of a function
pub rows_skip : (functions : List FunctionInfo) (m : Nonterminal) (l : Look) (skip : Skip m)
    → skip_of functions m l ≡ Some skip → SkipsRow functions m (row m l) skip
rows_skip functions m l skip some = subst (CutsRow functions m (row m l)) some (rows_cut functions m l)
