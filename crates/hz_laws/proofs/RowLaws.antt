-- Every row of the grammar lets ranks fall until a token is taken, opens a function at a token that it takes, and makes
-- what tells what its parts tell.
use Rattle.std.proofs.Common.{◌≡◌, Bool, true, false, not, ◌&&◌, ◌||◌, if◌then◌else◌, nat_lt, List, [], ◌∷◌, Option}
use Rattle.std.proofs.Common.{Some, None, refl, ap, sym, ◌∙◌, append-nil, arith, rules}
use Rattle.std.proofs.lemmas.Bool.Decides.{nat_tests}
use Rattle.hz_tree.specs.declared.class.Class.{Class}
use Rattle.hz_tree.specs.declared.class.Class.TheVariants as k
use Rattle.hz_tree.specs.declared.nonterminal.Context.{Context}
use Rattle.hz_tree.specs.declared.nonterminal.Nonterminal.{Nonterminal}
use Rattle.hz_tree.specs.declared.nonterminal.Nonterminal.TheVariants as n
use Rattle.hz_tree.specs.declared.operator.AssignOperator.{AssignOperator}
use Rattle.hz_tree.specs.declared.operator.BinaryOperator.{BinaryOperator}
use Rattle.hz_tree.specs.declared.operator.DeclarationWord.{DeclarationWord}
use Rattle.hz_tree.specs.declared.operator.DeclarationWord.TheVariants as word
use Rattle.hz_tree.specs.declared.operator.Level.{Level}
use Rattle.hz_tree.specs.declared.operator.Level.TheVariants as level
use Rattle.hz_tree.specs.declared.operator.UnaryOperator.{UnaryOperator}
use Rattle.hz_tree.specs.declared.operator.UpdateOperator.{UpdateOperator}
use Rattle.hz_tree.specs.declared.symbol.Symbol.{Symbol}
use Rattle.hz_tree.specs.declared.symbol.Symbol.TheVariants as s
use Rattle.hz_tree.specs.declared.tree.Tree.{Tree}
use Rattle.hz_tree.specs.declared.tree.Tree.TheVariants as t
use Rattle.hz_tree.specs.grammar.Classes.{is_name, is_of, is_colon, begins_key, is_async_word, is_paren}
use Rattle.hz_tree.specs.declared.look.Look.{Look}
use Rattle.hz_tree.specs.grammar.Look.{Terminal, is_async, begins_arrow}
use Rattle.hz_tree.specs.grammar.Operators.{assign_operator, binary_operator, unary_operator, update_operator}
use Rattle.hz_tree.specs.grammar.Symbols.{Row, goes, refuses}
use Rattle.hz_tree.specs.grammar.ExpressionRows.{expr_end}
use Rattle.hz_tree.specs.grammar.HeadRows.{is_no_left, head_by}
use Rattle.hz_tree.specs.grammar.OperatorRows.{reads_on, operator_row, rest_row, rests_row, arrow_row, operand_row}
use Rattle.hz_tree.specs.grammar.OperatorRows.{operation_by, is_loosest, without_tails, tails_end, tails_by}
use Rattle.hz_tree.specs.grammar.PrimaryRows.{new_row, function_expression_row, primary_by}
use Rattle.hz_tree.specs.grammar.PropertyRows.{plain_prop_row, getter_row, setter_row, prop_by}
use Rattle.hz_tree.specs.grammar.StatementRows.{declaration_row, no_value, return_row, statement_by}
use Rattle.hz_tree.specs.grammar.Table.{row, step_of}
use Rattle.hz_tree.specs.reading.Reading.{Got, reads, tells}
use Rattle.hz_tree.specs.trees.Events.{events_of}
use Rattle.hz_laws.proofs.Ranks.{rank, eats, falls, opens_well, is_fine, is_open, and_left, and_right}
use Rattle.hz_laws.proofs.Braces.{Change, keeps, change, after_change, balanced, is_balanced}
use Rattle.hz_laws.proofs.Depth.{Fine}
use Rattle.hz_laws.proofs.Told.{TellsRow, tell_reading, tells_by}
use Rattle.hz_laws.specs.Sorts.{script, fits_of}
use Rattle.hz_laws.proofs.Sorted.{sorted_value, holds, sorts_by}
use Rattle.hz_laws.proofs.Sorted.{SortsRow, fits_out, fits_next, fits_body, fits_element, sorted_applied, sort_laws}
use Rattle.hz_laws.proofs.TreeLaws.{told_out, told_next}
use Rattle.hz_laws.proofs.Made.{told_Bind, told_Return, told_If, told_Try, told_Yield, told_New}
use Rattle.hz_laws.proofs.Made.{made_applied, made_for, told_one, row_laws, made_laws}

abbrev pub Lawful : (m : Nonterminal) → Row m → Type 0
Lawful m r =
    ((is_fine m (step_of r) && (is_open m (step_of r) && is_balanced m (step_of r))) ≡ true)
    × TellsRow m r × SortsRow m r

lawful_if : (m : Nonterminal) (test : Bool) (a b : Row m) → Lawful m a → Lawful m b → Lawful m (if test then a else b)
lawful_if m true a b h i = h
lawful_if m false a b h i = i

-- ---- rows that test more than one class

return_lawful : (c : Context) (returns : Bool) → Lawful (n.Statement c) (return_row c returns)
return_lawful c true = (refl, λ p. told_Return _ _, λ p h. (simp sort_laws) ∙ h)
return_lawful c false = (refl, λ p. refl, λ p h. h)

expression_lawful : (c : Context) (l : Look) → Lawful (n.Statement c) (statement_by c l k.Name)
expression_lawful c l = (refl, λ p. told_out _ ∙ simp made_laws, λ p h. fits_out _ _ ∙ (simp sort_laws) ∙ h)

statement_lawful : (c : Context) (l : Look) (one : Class) → Lawful (n.Statement c) (statement_by c l one)
statement_lawful c l k.LeftBrace = (refl, λ p. told_one _, λ p h. h)
statement_lawful c l k.For = (refl, λ p. made_for _ _, λ p h. (simp sort_laws) ∙ h)
statement_lawful c l k.If = (refl, λ p. told_If _ _ _ _ ∙ simp row_laws, λ p h. (simp sort_laws) ∙ h)
statement_lawful c l k.Try = (refl, λ p. told_Try _ _ _ _ ∙ simp row_laws, λ p h. (simp sort_laws) ∙ h)
statement_lawful c l k.Return = return_lawful c c.returns
statement_lawful c l k.Function = (refl, λ p. refl, λ p h. h)
statement_lawful c l k.Var = (refl, λ p. told_out _ ∙ simp made_laws, λ p h. fits_out _ _ ∙ (simp sort_laws) ∙ h)
statement_lawful c l k.Semicolon = (refl, λ p. told_out _ ∙ simp made_laws, λ p h. fits_out _ _ ∙ (simp sort_laws) ∙ h)
statement_lawful c l k.Debugger = (refl, λ p. told_out _ ∙ simp made_laws, λ p h. fits_out _ _ ∙ (simp sort_laws) ∙ h)
statement_lawful c l k.Do = (refl, λ p. told_out _ ∙ simp made_laws, λ p h. fits_out _ _ ∙ (simp sort_laws) ∙ h)
statement_lawful c l k.While = (refl, λ p. told_out _ ∙ simp made_laws, λ p h. fits_out _ _ ∙ (simp sort_laws) ∙ h)
statement_lawful c l k.Continue = (refl, λ p. told_out _ ∙ simp made_laws, λ p h. fits_out _ _ ∙ (simp sort_laws) ∙ h)
statement_lawful c l k.Break = (refl, λ p. told_out _ ∙ simp made_laws, λ p h. fits_out _ _ ∙ (simp sort_laws) ∙ h)
statement_lawful c l k.Throw = (refl, λ p. told_out _ ∙ simp made_laws, λ p h. fits_out _ _ ∙ (simp sort_laws) ∙ h)
statement_lawful c l k.Switch = (refl, λ p. told_out _ ∙ simp made_laws, λ p h. fits_out _ _ ∙ (simp sort_laws) ∙ h)
statement_lawful c l _ = expression_lawful c l

plain_declaration_lawful : (c : Context) → Lawful (n.Item c) (declaration_row c k.Name)
plain_declaration_lawful c = (refl, λ p. told_out _ ∙ simp made_laws, λ p h. fits_out _ _ ∙ (simp sort_laws) ∙ h)

declaration_lawful : (c : Context) (two : Class) → Lawful (n.Item c) (declaration_row c two)
declaration_lawful c k.Star = (refl, λ p. told_out _ ∙ simp made_laws, λ p h. fits_out _ _ ∙ (simp sort_laws) ∙ h)
declaration_lawful c _ = plain_declaration_lawful c

no_value_lawful : (word : DeclarationWord) (c : Context) → Lawful (n.Initial word c) (no_value word c)
no_value_lawful word.Const c = (refl, λ p. refl, λ p h. h)
no_value_lawful _ c = (refl, λ p. refl, λ p h. h)

expr_end_lawful : (listed : Bool) (c : Context) → Lawful (n.ExprRest listed c) (expr_end listed c)
expr_end_lawful true c = (refl, λ p. refl, λ p h. h)
expr_end_lawful false c = (refl, λ p. refl, λ p h. h)

expr_head_lawful : (c : Context) (l : Look) → Lawful (n.Head c) (head_by c l k.Name)
expr_head_lawful c l =
    lawful_if (n.Head c) (is_async_word l.one && is_of l.two) _ _ (refl, λ p. refl, λ p h. h)
    (lawful_if (n.Head c) (is_no_left c l) _ _ (refl, λ p. simp row_laws, λ p h. h)
    (refl, λ p. simp row_laws, λ p h. h))

head_lawful : (c : Context) (l : Look) (one : Class) → Lawful (n.Head c) (head_by c l one)
head_lawful c l k.Var = (refl, λ p. simp row_laws, λ p h. h)
head_lawful c l k.Let = (refl, λ p. simp row_laws, λ p h. h)
head_lawful c l k.Const = (refl, λ p. simp row_laws, λ p h. h)
head_lawful c l k.Semicolon = (refl, λ p. simp row_laws, λ p h. h)
head_lawful c l _ = expr_head_lawful c l

-- an operator opens and closes no brace
abbrev operating : Class → Option AssignOperator → Option UpdateOperator → Option BinaryOperator → Change
operating one (Some operator) updated joined = change one
operating one None (Some operator) joined = change one
operating one None None (Some operator) = change one
operating one None None None = keeps

operators_keep : (one : Class) → operating one (assign_operator one) (update_operator one) (binary_operator one) ≡ keeps
operators_keep k.Plus = refl
operators_keep _ = refl

pub balanced_by : (made : Change) → made ≡ keeps → after_change made [] (λ now. balanced now []) ≡ true
balanced_by made h = ap (λ x. after_change x [] (λ now. balanced now [])) h

operator_lawful : (loosest tightest : Level) (c : Context) (one : Class) (assigned : Option AssignOperator)
    (updated : Option UpdateOperator) (joined : Option BinaryOperator) → operating one assigned updated joined ≡ keeps
    → Lawful (n.Rests loosest tightest c) (operator_row loosest tightest c one assigned updated joined)
operator_lawful loosest tightest c one (Some operator) updated joined keep =
    (balanced_by (change one) keep, λ p. simp row_laws, λ p h. (simp sort_laws) ∙ h)
operator_lawful loosest tightest c one None (Some operator) joined keep =
    (balanced_by (change one) keep, λ p. simp row_laws, λ p h. h)
operator_lawful loosest tightest c one None None (Some operator) keep =
    (balanced_by (change one) keep, λ p. simp row_laws, λ p h. h)
operator_lawful loosest tightest c one None None None keep = (refl, λ p. refl, λ p h. h)

rest_lawful : (loosest tightest : Level) (c : Context) (one : Class)
    → Lawful (n.Rests loosest tightest c) (rest_row loosest tightest c one)
rest_lawful loosest tightest c k.Question = (refl, λ p. simp row_laws, λ p h. (simp sort_laws) ∙ h)
rest_lawful loosest tightest c one =
    operator_lawful loosest tightest c one (assign_operator one) (update_operator one) (binary_operator one)
    (operators_keep one)

rests_lawful : (loosest tightest : Level) (c : Context) (l : Look)
    → Lawful (n.Rests loosest tightest c) (rests_row loosest tightest c l)
rests_lawful loosest tightest c l =
    lawful_if (n.Rests loosest tightest c) (reads_on loosest tightest c l.one_newline l.one) _ _
    (rest_lawful loosest tightest c l.one) (refl, λ p. refl, λ p h. h)

-- a right-hand side that reads nothing before it takes a token is fine for a higher rank too
falls_more : (right : List Symbol) → falls 0 right ≡ true → falls 1 right ≡ true
falls_more [] h = refl
falls_more (s.Take wanted ∷ more) h = refl
falls_more (s.Read m ∷ more) h = grind (arith, nat_tests, and_left (nat_lt (rank m) 0) (eats m || falls 0 more) h)
falls_more (s.Tell signal ∷ more) h = falls_more more h

fine_more : (right : List Symbol) (others : Bool) → ((falls 0 right && true) && others) ≡ true
    → ((falls 1 right && true) && others) ≡ true
fine_more right others h =
    rw (falls_more right (and_left (falls 0 right) true (and_left (falls 0 right && true) others h)))
    (and_right (falls 0 right && true) others h)

without_lawful : (loosest : Level) (c : Context) (r : Row (n.Rests loosest level.Update c))
    → Lawful (n.Rests loosest level.Update c) r → Lawful (n.Tails false loosest c) (without_tails loosest c r)
without_lawful loosest c (goes right make) h =
    (fine_more right ((opens_well right && true) && balanced [] right) h.0, h.1, h.2)
without_lawful loosest c (refuses cause) h = (refl, h.1, h.2)

tails_end_lawful : (tailed : Bool) (loosest : Level) (c : Context) (l : Look)
    → Lawful (n.Tails tailed loosest c) (tails_end tailed loosest c l)
tails_end_lawful true loosest c l = (refl, λ p. simp row_laws, λ p h. h)
tails_end_lawful false loosest c l =
    without_lawful loosest c (rests_row loosest level.Update c l) (rests_lawful loosest level.Update c l)

tails_lawful : (tailed : Bool) (loosest : Level) (c : Context) (l : Look) (one : Class)
    → Lawful (n.Tails tailed loosest c) (tails_by tailed loosest c l one)
tails_lawful tailed loosest c l k.Dot = (refl, λ p. simp row_laws, λ p h. (simp sort_laws) ∙ h)
tails_lawful tailed loosest c l k.LeftBracket = (refl, λ p. simp row_laws, λ p h. (simp sort_laws) ∙ h)
tails_lawful tailed loosest c l k.LeftParen = (refl, λ p. simp row_laws, λ p h. (simp sort_laws) ∙ h)
tails_lawful tailed loosest c l k.OptionalDot = (refl, λ p. simp row_laws, λ p h. (simp sort_laws) ∙ h)
tails_lawful tailed loosest c l k.TemplateWhole = (refl, λ p. refl, λ p h. h)
tails_lawful tailed loosest c l k.TemplateHead = (refl, λ p. refl, λ p h. h)
tails_lawful tailed loosest c l _ = tails_end_lawful tailed loosest c l

arrow_lawful : (loosest : Level) (c : Context) (parenthesised : Bool)
    → Lawful (n.Operation loosest c) (arrow_row loosest c parenthesised)
arrow_lawful loosest c true = (refl, λ p. told_out _ ∙ simp made_laws, λ p h. fits_out _ _ ∙ (simp sort_laws) ∙ h)
arrow_lawful loosest c false = (refl, λ p. told_out _ ∙ simp made_laws, λ p h. fits_out _ _ ∙ (simp sort_laws) ∙ h)

abbrev prefixed : Class → Option UnaryOperator → Change
prefixed one (Some operator) = change one
prefixed one None = keeps

prefixes_keep : (one : Class) → prefixed one (unary_operator one) ≡ keeps
prefixes_keep k.Plus = refl
prefixes_keep _ = refl

operand_lawful : (loosest : Level) (c : Context) (one : Class) (operator : Option UnaryOperator)
    → prefixed one operator ≡ keeps → Lawful (n.Operation loosest c) (operand_row loosest c one operator)
operand_lawful loosest c one (Some operator) keep = (
  balanced_by (change one) keep,
  λ p.
      made_applied p.1.1.1.1.1.1.0 (t.Unary p.0.at operator p.1.1.0) ∙ told_next _ _ ∙ simp made_laws,
  λ p h.
      sorted_applied p.1.1.1.1.1.1.0 (t.Unary p.0.at operator p.1.1.0) ∙ fits_next _ _ _ ∙ (simp sort_laws) ∙ h,
)
operand_lawful loosest c one None keep = (refl, λ p. simp row_laws, λ p h. (simp sort_laws) ∙ h)

operation_lawful : (loosest : Level) (c : Context) (yields : Bool) (one : Class)
    → Lawful (n.Operation loosest c) (operation_by loosest c yields one)
operation_lawful loosest c true k.Yield = (refl, λ p. told_Yield _ _ _, λ p h. (simp sort_laws) ∙ h)
operation_lawful loosest c yields one = operand_lawful loosest c one (unary_operator one) (prefixes_keep one)

plain_new_lawful : (c : Context) → Lawful (n.Primary c) (new_row c k.Name)
plain_new_lawful c = (refl, λ p. told_New _ _ _ _ ∙ simp row_laws, λ p h. (simp sort_laws) ∙ h)

new_lawful : (c : Context) (two : Class) → Lawful (n.Primary c) (new_row c two)
new_lawful c k.Dot = (refl, λ p. told_out _ ∙ simp made_laws, λ p h. fits_out _ _ ∙ (simp sort_laws) ∙ h)
new_lawful c _ = plain_new_lawful c

plain_function_lawful : (c : Context) → Lawful (n.Primary c) (function_expression_row c k.Name)
plain_function_lawful c = (refl, λ p. told_out _ ∙ simp made_laws, λ p h. fits_out _ _ ∙ (simp sort_laws) ∙ h)

function_lawful : (c : Context) (two : Class) → Lawful (n.Primary c) (function_expression_row c two)
function_lawful c k.Star = (refl, λ p. told_out _ ∙ simp made_laws, λ p h. fits_out _ _ ∙ (simp sort_laws) ∙ h)
function_lawful c _ = plain_function_lawful c

identifier_lawful : (c : Context) (l : Look) → Lawful (n.Primary c) (primary_by c l k.Name)
identifier_lawful c l =
    lawful_if (n.Primary c) (is_name l.one) _ _
    (refl, λ p. told_out _ ∙ simp made_laws, λ p h. fits_out _ _ ∙ (simp sort_laws) ∙ h)
    (refl, λ p. refl, λ p h. h)

primary_lawful : (c : Context) (l : Look) (one : Class) → Lawful (n.Primary c) (primary_by c l one)
primary_lawful c l k.Slash = (refl, λ p. refl, λ p h. h)
primary_lawful c l k.SlashAssign = (refl, λ p. refl, λ p h. h)
primary_lawful c l k.New = new_lawful c l.two
primary_lawful c l k.Function = function_lawful c l.two
primary_lawful c l k.This = (refl, λ p. told_out _ ∙ simp made_laws, λ p h. fits_out _ _ ∙ (simp sort_laws) ∙ h)
primary_lawful c l k.Null = (refl, λ p. told_out _ ∙ simp made_laws, λ p h. fits_out _ _ ∙ (simp sort_laws) ∙ h)
primary_lawful c l k.True = (refl, λ p. told_out _ ∙ simp made_laws, λ p h. fits_out _ _ ∙ (simp sort_laws) ∙ h)
primary_lawful c l k.False = (refl, λ p. told_out _ ∙ simp made_laws, λ p h. fits_out _ _ ∙ (simp sort_laws) ∙ h)
primary_lawful c l k.Number = (refl, λ p. told_out _ ∙ simp made_laws, λ p h. fits_out _ _ ∙ (simp sort_laws) ∙ h)
primary_lawful c l k.OctalNumber = (refl, λ p. told_out _ ∙ simp made_laws, λ p h. fits_out _ _ ∙ (simp sort_laws) ∙ h)
primary_lawful c l k.Text = (refl, λ p. told_out _ ∙ simp made_laws, λ p h. fits_out _ _ ∙ (simp sort_laws) ∙ h)
primary_lawful c l k.LeftParen = (refl, λ p. told_out _ ∙ simp made_laws, λ p h. fits_out _ _ ∙ (simp sort_laws) ∙ h)
primary_lawful c l k.TemplateWhole =
    (refl, λ p. told_out _ ∙ simp made_laws, λ p h. fits_out _ _ ∙ (simp sort_laws) ∙ h)
primary_lawful c l k.TemplateHead = (refl, λ p. told_out _ ∙ simp made_laws, λ p h. fits_out _ _ ∙ (simp sort_laws) ∙ h)
primary_lawful c l k.LeftBracket = (refl, λ p. told_out _ ∙ simp made_laws, λ p h. fits_out _ _ ∙ (simp sort_laws) ∙ h)
primary_lawful c l k.LeftBrace = (refl, λ p. told_out _ ∙ simp made_laws, λ p h. fits_out _ _ ∙ (simp sort_laws) ∙ h)
primary_lawful c l _ = identifier_lawful c l

plain_lawful : (c : Context) (l : Look) → Lawful (n.Prop c) (plain_prop_row c l)
plain_lawful c l =
    lawful_if (n.Prop c) (is_name l.one && (not (is_colon l.two) && not (is_paren l.two))) _ _
    (refl, λ p. told_out _ ∙ simp made_laws, λ p h. fits_out _ _ ∙ (simp sort_laws) ∙ h)
    (refl, λ p. simp row_laws, λ p h. (simp sort_laws) ∙ h)

getter_lawful : (c : Context) (l : Look) (keyed : Bool) → Lawful (n.Prop c) (getter_row c l keyed)
getter_lawful c l true = (refl, λ p. told_out _ ∙ simp made_laws, λ p h. fits_out _ _ ∙ (simp sort_laws) ∙ h)
getter_lawful c l false = plain_lawful c l

setter_lawful : (c : Context) (l : Look) (keyed : Bool) → Lawful (n.Prop c) (setter_row c l keyed)
setter_lawful c l true = (refl, λ p. told_out _ ∙ simp made_laws, λ p h. fits_out _ _ ∙ (simp sort_laws) ∙ h)
setter_lawful c l false = plain_lawful c l

prop_lawful : (c : Context) (l : Look) (one : Class) → Lawful (n.Prop c) (prop_by c l one)
prop_lawful c l k.Ellipsis = (refl, λ p. told_out _ ∙ simp made_laws, λ p h. fits_out _ _ ∙ (simp sort_laws) ∙ h)
prop_lawful c l k.Star = (refl, λ p. told_out _ ∙ simp made_laws, λ p h. fits_out _ _ ∙ (simp sort_laws) ∙ h)
prop_lawful c l k.Get = getter_lawful c l (begins_key l.two)
prop_lawful c l k.Set = setter_lawful c l (begins_key l.two)
prop_lawful c l _ = plain_lawful c l

-- ---- all rows

abbrev pub looked : (one : Class) → (one_newline : Bool) → (two : Class) → (two_newline arrow : Bool) → Look
looked one one_newline two two_newline arrow =
    record { one = one; one_newline = one_newline; two = two; two_newline = two_newline; arrow = arrow }

-- ---- rows for all classes that are not named

abbrev named : Look
named = looked k.Name false k.Name false false

more_items : (c : Context) → Lawful (n.Items c) (row (n.Items c) named)
more_items c = (refl, λ p. simp row_laws, λ p h. h)

item_statement : (c : Context) → Lawful (n.Item c) (row (n.Item c) named)
item_statement c = (refl, λ p. told_one _, λ p h. h)

declared_loop : (word : DeclarationWord) (c : Context)
    → Lawful (n.DeclaredHead word c) (row (n.DeclaredHead word c) named)
declared_loop word c = (refl, λ p. simp row_laws, λ p h. h)

left_loop : (c : Context) → Lawful (n.LeftHead c) (row (n.LeftHead c) named)
left_loop c = (refl, λ p. simp row_laws, λ p h. h)

optional_word : (c : Context) → Lawful (n.OptionalTail c) (row (n.OptionalTail c) named)
optional_word c = (refl, λ p. told_out _ ∙ simp made_laws, λ p h. fits_out _ _ ∙ (simp sort_laws) ∙ h)

first_argument : (c : Context) → Lawful (n.Arguments c) (row (n.Arguments c) named)
first_argument c = (refl, λ p. simp row_laws, λ p h. h)

plain_argument : (c : Context) → Lawful (n.Argument c) (row (n.Argument c) named)
plain_argument c = (refl, λ p. told_one _, λ p h. fits_element _ h)

arrow_value : (c : Context) → Lawful (n.ArrowBody c) (row (n.ArrowBody c) named)
arrow_value c = (refl, λ p. told_one _, λ p h. fits_body _ h)

first_element : (c : Context) → Lawful (n.Elements c) (row (n.Elements c) named)
first_element c = (refl, λ p. simp row_laws, λ p h. h)

first_prop : (c : Context) → Lawful (n.Props c) (row (n.Props c) named)
first_prop c = (refl, λ p. simp row_laws, λ p h. h)

word_key : (c : Context) → Lawful (n.Key c) (row (n.Key c) named)
word_key c = (refl, λ p. told_out _ ∙ simp made_laws, λ p h. fits_out _ _ ∙ (simp sort_laws) ∙ h)

first_parameter : Lawful n.Parameters (row n.Parameters named)
first_parameter = (refl, λ p. simp row_laws, λ p h. h)

lawful_at : (m : Nonterminal) (one : Class) (newline : Bool) (two : Class) (newline' arrow : Bool)
    → Lawful m (row m (looked one newline two newline' arrow))
lawful_at n.Script _ _ _ _ _ = (refl, λ p. told_out _ ∙ simp made_laws, λ p h. fits_out _ _ ∙ (simp sort_laws) ∙ h)
lawful_at (n.Items c) k.RightBrace _ _ _ _ = (refl, λ p. refl, λ p h. h)
lawful_at (n.Items c) k.Case _ _ _ _ = (refl, λ p. refl, λ p h. h)
lawful_at (n.Items c) k.Default _ _ _ _ = (refl, λ p. refl, λ p h. h)
lawful_at (n.Items c) k.End _ _ _ _ = (refl, λ p. refl, λ p h. h)
lawful_at (n.Items c) _ _ _ _ _ = more_items c
lawful_at (n.Item c) k.Function _ two _ _ = declaration_lawful c two
lawful_at (n.Item c) k.Let _ _ _ _ =
    (refl, λ p. told_out _ ∙ simp made_laws, λ p h. fits_out _ _ ∙ (simp sort_laws) ∙ h)
lawful_at (n.Item c) k.Const _ _ _ _ =
    (refl, λ p. told_out _ ∙ simp made_laws, λ p h. fits_out _ _ ∙ (simp sort_laws) ∙ h)
lawful_at (n.Item c) _ _ _ _ _ = item_statement c
lawful_at (n.Block c) _ _ _ _ _ = (refl, λ p. told_out _ ∙ simp made_laws, λ p h. fits_out _ _ ∙ (simp sort_laws) ∙ h)
lawful_at (n.Binds word c) _ _ _ _ _ = (refl, λ p. simp row_laws, λ p h. h)
lawful_at (n.Bind word c) _ _ _ _ _ = (refl, λ p. told_Bind _ word _ _ ∙ simp append-nil, λ p h. (simp sort_laws) ∙ h)
lawful_at (n.MoreBinds word c) k.Comma _ _ _ _ = (refl, λ p. simp row_laws, λ p h. h)
lawful_at (n.MoreBinds word c) _ _ _ _ _ = (refl, λ p. refl, λ p h. h)
lawful_at (n.Initial word c) k.Assign _ _ _ _ = (refl, λ p. search rules, λ p h. h)
lawful_at (n.Initial word c) _ _ _ _ _ = no_value_lawful word c
lawful_at (n.Bound role) k.LeftBracket _ _ _ _ = (refl, λ p. refl, λ p h. h)
lawful_at (n.Bound role) _ _ _ _ _ = (refl, λ p. refl, λ p h. h)
lawful_at n.Semi k.Semicolon _ _ _ _ = (refl, λ p. refl, λ p h. h)
lawful_at n.Semi _ true _ _ _ = (refl, λ p. refl, λ p h. h)
lawful_at n.Semi _ false _ _ _ = (refl, λ p. refl, λ p h. h)
lawful_at n.LooseSemi k.Semicolon _ _ _ _ = (refl, λ p. refl, λ p h. h)
lawful_at n.LooseSemi _ _ _ _ _ = (refl, λ p. refl, λ p h. h)
lawful_at (n.Else c) k.Else _ _ _ _ = (refl, λ p. simp row_laws, λ p h. h)
lawful_at (n.Else c) _ _ _ _ _ = (refl, λ p. refl, λ p h. h)
lawful_at (n.Label jump) _ true _ _ _ = (refl, λ p. refl, λ p h. h)
lawful_at (n.Label jump) one false _ _ _ =
    lawful_if (n.Label jump) (is_name one) _ _ (refl, λ p. refl, λ p h. h) (refl, λ p. refl, λ p h. h)
lawful_at (n.ReturnValue c) k.Semicolon true _ _ _ = (refl, λ p. refl, λ p h. h)
lawful_at (n.ReturnValue c) _ true _ _ _ = (refl, λ p. refl, λ p h. h)
lawful_at (n.ReturnValue c) _ _ _ _ _ = (refl, λ p. refl, λ p h. h)
lawful_at (n.ThrowValue c) _ true _ _ _ = (refl, λ p. refl, λ p h. h)
lawful_at (n.ThrowValue c) _ _ _ _ _ = (refl, λ p. refl, λ p h. h)
lawful_at (n.Clauses c has_default) k.Case _ _ _ _ =
    (refl, λ p. told_next _ _ ∙ simp made_laws, λ p h. fits_next _ _ _ ∙ (simp sort_laws) ∙ h)
lawful_at (n.Clauses c false) k.Default _ _ _ _ =
    (refl, λ p. told_next _ _ ∙ simp made_laws, λ p h. fits_next _ _ _ ∙ (simp sort_laws) ∙ h)
lawful_at (n.Clauses c true) k.Default _ _ _ _ = (refl, λ p. refl, λ p h. h)
lawful_at (n.Clauses c has_default) _ _ _ _ _ = (refl, λ p. refl, λ p h. h)
lawful_at (n.Handlers c) k.Catch _ _ _ _ = (refl, λ p. simp row_laws, λ p h. h)
lawful_at (n.Handlers c) _ _ _ _ _ = (refl, λ p. search rules, λ p h. h)
lawful_at (n.CatchClause c) _ _ _ _ _ =
    (refl, λ p. told_out _ ∙ simp made_laws, λ p h. fits_out _ _ ∙ (simp sort_laws) ∙ h)
lawful_at n.CatchName k.LeftParen _ _ _ _ = (refl, λ p. simp row_laws, λ p h. h)
lawful_at n.CatchName _ _ _ _ _ = (refl, λ p. refl, λ p h. h)
lawful_at (n.Finally c) k.Finally _ _ _ _ = (refl, λ p. simp row_laws, λ p h. h)
lawful_at (n.Finally c) _ _ _ _ _ = (refl, λ p. refl, λ p h. h)
lawful_at n.ForOpen k.Await _ _ _ _ = (refl, λ p. refl, λ p h. h)
lawful_at n.ForOpen _ _ _ _ _ = (refl, λ p. refl, λ p h. h)
lawful_at (n.DeclaredHead word c) k.In _ _ _ _ = (refl, λ p. refl, λ p h. h)
lawful_at (n.DeclaredHead word c) k.Of _ _ _ _ = (refl, λ p. refl, λ p h. h)
lawful_at (n.DeclaredHead word c) _ _ _ _ _ = declared_loop word c
lawful_at (n.LeftHead c) k.In _ _ _ _ = (refl, λ p. refl, λ p h. h)
lawful_at (n.LeftHead c) k.Of _ _ _ _ = (refl, λ p. refl, λ p h. h)
lawful_at (n.LeftHead c) _ _ _ _ _ = left_loop c
lawful_at (n.OptionalExpr c) k.Semicolon _ _ _ _ = (refl, λ p. refl, λ p h. h)
lawful_at (n.OptionalExpr c) _ _ _ _ _ = (refl, λ p. refl, λ p h. h)
lawful_at (n.Expr c) _ _ _ _ _ = (refl, λ p. simp row_laws, λ p h. (simp sort_laws) ∙ h)
lawful_at (n.ExprRest listed c) k.Comma _ _ _ _ = (refl, λ p. simp row_laws, λ p h. h)
lawful_at (n.ExprRest listed c) _ _ _ _ _ = expr_end_lawful listed c
lawful_at n.ArrowSign _ true _ _ _ = (refl, λ p. refl, λ p h. h)
lawful_at n.ArrowSign _ _ _ _ _ = (refl, λ p. refl, λ p h. h)
lawful_at (n.ArrowBody c) k.LeftBrace _ _ _ _ = (refl, λ p. simp row_laws, λ p h. h)
lawful_at (n.ArrowBody c) _ _ _ _ _ = arrow_value c
lawful_at (n.YieldValue c) k.Star true _ _ _ = (refl, λ p. refl, λ p h. h)
lawful_at (n.YieldValue c) _ true _ _ _ = (refl, λ p. refl, λ p h. h)
lawful_at (n.YieldValue c) _ _ _ _ _ = (refl, λ p. refl, λ p h. h)
lawful_at (n.OptionalTail c) k.LeftBracket _ _ _ _ =
    (refl, λ p. told_out _ ∙ simp made_laws, λ p h. fits_out _ _ ∙ (simp sort_laws) ∙ h)
lawful_at (n.OptionalTail c) k.LeftParen _ _ _ _ = (refl, λ p. simp row_laws, λ p h. h)
lawful_at (n.OptionalTail c) k.TemplateWhole _ _ _ _ = (refl, λ p. refl, λ p h. h)
lawful_at (n.OptionalTail c) k.TemplateHead _ _ _ _ = (refl, λ p. refl, λ p h. h)
lawful_at (n.OptionalTail c) _ _ _ _ _ = optional_word c
lawful_at n.Word k.Name _ _ _ _ = (refl, λ p. refl, λ p h. h)
lawful_at n.Word _ _ _ _ _ = (refl, λ p. refl, λ p h. h)
lawful_at (n.Members c) k.Dot _ _ _ _ =
    (refl, λ p. told_next _ _ ∙ simp made_laws, λ p h. fits_next _ _ _ ∙ (simp sort_laws) ∙ h)
lawful_at (n.Members c) k.LeftBracket _ _ _ _ =
    (refl, λ p. told_next _ _ ∙ simp made_laws, λ p h. fits_next _ _ _ ∙ (simp sort_laws) ∙ h)
lawful_at (n.Members c) _ _ _ _ _ = (refl, λ p. refl, λ p h. h)
lawful_at (n.NewArgs c) k.LeftParen _ _ _ _ = (refl, λ p. simp row_laws, λ p h. h)
lawful_at (n.NewArgs c) _ _ _ _ _ = (refl, λ p. refl, λ p h. h)
lawful_at (n.Args c) _ _ _ _ _ = (refl, λ p. told_out _ ∙ simp made_laws, λ p h. fits_out _ _ ∙ (simp sort_laws) ∙ h)
lawful_at (n.Arguments c) k.RightParen _ _ _ _ = (refl, λ p. refl, λ p h. h)
lawful_at (n.Arguments c) _ _ _ _ _ = first_argument c
lawful_at (n.MoreArguments c) k.Comma _ _ _ _ = (refl, λ p. simp row_laws, λ p h. h)
lawful_at (n.MoreArguments c) _ _ _ _ _ = (refl, λ p. refl, λ p h. h)
lawful_at (n.Argument c) k.Ellipsis _ _ _ _ =
    (refl, λ p. told_out _ ∙ simp made_laws, λ p h. fits_out _ _ ∙ (simp sort_laws) ∙ h)
lawful_at (n.Argument c) _ _ _ _ _ = plain_argument c
lawful_at (n.TemplateRest c) k.TemplateMiddle _ _ _ _ = (refl, λ p. simp row_laws, λ p h. h)
lawful_at (n.TemplateRest c) _ _ _ _ _ = (refl, λ p. refl, λ p h. h)
lawful_at (n.Elements c) k.RightBracket _ _ _ _ = (refl, λ p. refl, λ p h. h)
lawful_at (n.Elements c) k.Comma _ _ _ _ =
    (refl, λ p. told_next _ _ ∙ simp made_laws, λ p h. fits_next _ _ _ ∙ (simp sort_laws) ∙ h)
lawful_at (n.Elements c) _ _ _ _ _ = first_element c
lawful_at (n.MoreElements c) k.Comma _ _ _ _ = (refl, λ p. simp row_laws, λ p h. h)
lawful_at (n.MoreElements c) _ _ _ _ _ = (refl, λ p. refl, λ p h. h)
lawful_at (n.Props c) k.RightBrace _ _ _ _ = (refl, λ p. refl, λ p h. h)
lawful_at (n.Props c) _ _ _ _ _ = first_prop c
lawful_at (n.MoreProps c) k.Comma _ _ _ _ = (refl, λ p. simp row_laws, λ p h. h)
lawful_at (n.MoreProps c) _ _ _ _ _ = (refl, λ p. refl, λ p h. h)
lawful_at n.ShorthandEnd k.Assign _ _ _ _ = (refl, λ p. refl, λ p h. h)
lawful_at n.ShorthandEnd _ _ _ _ _ = (refl, λ p. refl, λ p h. h)
lawful_at (n.KeyRest c) k.Colon _ _ _ _ = (refl, λ p. refl, λ p h. h)
lawful_at (n.KeyRest c) k.LeftParen _ _ _ _ = (refl, λ p. simp row_laws, λ p h. (simp sort_laws) ∙ h)
lawful_at (n.KeyRest c) _ _ _ _ _ = (refl, λ p. refl, λ p h. h)
lawful_at (n.Key c) k.Text _ _ _ _ =
    (refl, λ p. told_out _ ∙ simp made_laws, λ p h. fits_out _ _ ∙ (simp sort_laws) ∙ h)
lawful_at (n.Key c) k.Number _ _ _ _ =
    (refl, λ p. told_out _ ∙ simp made_laws, λ p h. fits_out _ _ ∙ (simp sort_laws) ∙ h)
lawful_at (n.Key c) k.OctalNumber _ _ _ _ =
    (refl, λ p. told_out _ ∙ simp made_laws, λ p h. fits_out _ _ ∙ (simp sort_laws) ∙ h)
lawful_at (n.Key c) k.LeftBracket _ _ _ _ =
    (refl, λ p. told_out _ ∙ simp made_laws, λ p h. fits_out _ _ ∙ (simp sort_laws) ∙ h)
lawful_at (n.Key c) _ _ _ _ _ = word_key c
lawful_at n.OwnName one _ _ _ _ =
    lawful_if n.OwnName (is_name one) _ _ (refl, λ p. simp row_laws, λ p h. h) (refl, λ p. refl, λ p h. h)
lawful_at n.Params _ _ _ _ _ = (refl, λ p. simp row_laws, λ p h. h)
lawful_at n.Parameters k.RightParen _ _ _ _ = (refl, λ p. refl, λ p h. h)
lawful_at n.Parameters k.Ellipsis _ _ _ _ = (refl, λ p. simp row_laws, λ p h. h)
lawful_at n.Parameters _ _ _ _ _ = first_parameter
lawful_at n.MoreParameters k.Comma _ _ _ _ = (refl, λ p. simp row_laws, λ p h. h)
lawful_at n.MoreParameters _ _ _ _ _ = (refl, λ p. refl, λ p h. h)
lawful_at n.ParameterEnd k.Assign _ _ _ _ = (refl, λ p. refl, λ p h. h)
lawful_at n.ParameterEnd _ _ _ _ _ = (refl, λ p. refl, λ p h. h)
lawful_at (n.Body generator) _ _ _ _ _ =
    (refl, λ p. told_out _ ∙ simp made_laws, λ p h. fits_out _ _ ∙ (simp sort_laws) ∙ h)
lawful_at (n.Statement c) one newline two newline' arrow =
    let l = looked one newline two newline' arrow in
    lawful_if (n.Statement c) (is_async l) _ _ (refl, λ p. refl, λ p h. h)
    (lawful_if (n.Statement c) (is_name one && is_colon two) _ _
    (refl, λ p. told_out _ ∙ simp made_laws, λ p h. fits_out _ _ ∙ (simp sort_laws) ∙ h)
    (statement_lawful c l one))
lawful_at (n.Head c) one newline two newline' arrow = head_lawful c (looked one newline two newline' arrow) one
lawful_at (n.Operation loosest c) one newline two newline' arrow =
    lawful_if (n.Operation loosest c) (is_loosest loosest && begins_arrow (looked one newline two newline' arrow)) _ _
    (arrow_lawful loosest c (is_paren one)) (operation_lawful loosest c (is_loosest loosest && c.yields) one)
lawful_at (n.Tails tailed loosest c) one newline two newline' arrow =
    tails_lawful tailed loosest c (looked one newline two newline' arrow) one
lawful_at (n.Rests loosest tightest c) one newline two newline' arrow =
    rests_lawful loosest tightest c (looked one newline two newline' arrow)
lawful_at (n.Primary c) one newline two newline' arrow =
    let l = looked one newline two newline' arrow in
    lawful_if (n.Primary c) (is_async l) _ _ (refl, λ p. refl, λ p h. h)
    (primary_lawful c l one)
lawful_at (n.Prop c) one newline two newline' arrow =
    let l = looked one newline two newline' arrow in
    lawful_if (n.Prop c) (is_async l) _ _ (refl, λ p. refl, λ p h. h) (prop_lawful c l one)

pub rows_lawful : (m : Nonterminal) (l : Look) → Lawful m (row m l)
rows_lawful m l = lawful_at m l.one l.one_newline l.two l.two_newline l.arrow

pub rows_fine : Fine row
rows_fine m l =
    let r = step_of (row m l) in and_left (is_fine m r) (is_open m r && is_balanced m r) (rows_lawful m l).0

pub rows_open : (m : Nonterminal) (l : Look) → is_open m (step_of (row m l)) ≡ true
rows_open m l =
    let r = step_of (row m l) in
    and_left (is_open m r) (is_balanced m r)
    (and_right (is_fine m r) (is_open m r && is_balanced m r) (rows_lawful m l).0)

pub rows_balanced : (m : Nonterminal) (l : Look) → is_balanced m (step_of (row m l)) ≡ true
rows_balanced m l =
    let r = step_of (row m l) in
    and_right (is_open m r) (is_balanced m r)
    (and_right (is_fine m r) (is_open m r && is_balanced m r) (rows_lawful m l).0)

-- The events of a reading are those of its tree.
pub tells_tree : (m : Nonterminal) (ts : List Terminal) → tells m ts ≡ tell_reading m (reads m ts)
tells_tree = tells_by (λ m l. (rows_lawful m l).1)

pub script_tells : (ts rest : List Terminal) (tree : Tree) → reads n.Script ts ≡ Got tree rest
    → tells n.Script ts ≡ Got (events_of tree) rest
script_tells ts rest tree h = tells_tree n.Script ts ∙ ap (tell_reading n.Script) h

-- What is read as a script is one.
pub script_fits : (ts rest : List Terminal) (tree : Tree) → reads n.Script ts ≡ Got tree rest
    → fits_of tree script ≡ true
script_fits ts rest tree h =
    sym (ap (holds (sorted_value n.Script)) h) ∙ sorts_by (λ m l. (rows_lawful m l).2) n.Script ts
