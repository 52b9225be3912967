-- Each row of the grammar makes trees with the functions that its parts have; and in the row of a function stands one
-- more.
use Rattle.std.proofs.Common.{◌≡◌, Bool, true, false, not, ◌&&◌, if◌then◌else◌, [], Option, Some, None}
use Rattle.std.proofs.Common.{◌∙◌, rules}
use Rattle.hz_tree.specs.declared.class.Class.{Class}
use Rattle.hz_tree.specs.declared.class.Class.TheVariants as k
use Rattle.hz_tree.specs.declared.look.Look.{Look}
use Rattle.hz_tree.specs.declared.nonterminal.Context.{Context}
use Rattle.hz_tree.specs.declared.nonterminal.Nonterminal.{Nonterminal}
use Rattle.hz_tree.specs.declared.nonterminal.Nonterminal.TheVariants as n
use Rattle.hz_tree.specs.declared.operator.AssignOperator.{AssignOperator}
use Rattle.hz_tree.specs.declared.operator.BinaryOperator.{BinaryOperator}
use Rattle.hz_tree.specs.declared.operator.DeclarationWord.{DeclarationWord}
use Rattle.hz_tree.specs.declared.operator.DeclarationWord.TheVariants as word
use Rattle.hz_tree.specs.declared.operator.Level.{Level}
use Rattle.hz_tree.specs.declared.operator.Level.TheVariants as level
use Rattle.hz_tree.specs.declared.operator.UnaryOperator.{UnaryOperator}
use Rattle.hz_tree.specs.declared.operator.UpdateOperator.{UpdateOperator}
use Rattle.hz_tree.specs.declared.signal.Role.{Role}
use Rattle.hz_tree.specs.declared.tree.Tree.TheVariants as t
use Rattle.hz_tree.specs.grammar.Classes.{is_name, is_of, is_colon, is_word, begins_key, is_async_word, is_paren}
use Rattle.hz_tree.specs.grammar.Look.{is_async, begins_arrow}
use Rattle.hz_tree.specs.grammar.Operators.{assign_operator, binary_operator, unary_operator, update_operator}
use Rattle.hz_tree.specs.grammar.Symbols.{Parts, Value, Row, goes, refuses}
use Rattle.hz_tree.specs.grammar.ExpressionRows.{expr_end}
use Rattle.hz_tree.specs.grammar.HeadRows.{is_no_left, head_by}
use Rattle.hz_tree.specs.grammar.OperatorRows.{reads_on, operator_row, rest_row, rests_row, operand_row}
use Rattle.hz_tree.specs.grammar.OperatorRows.{operation_by, is_loosest, without_tails, tails_end, tails_by}
use Rattle.hz_tree.specs.grammar.PrimaryRows.{new_row, primary_by}
use Rattle.hz_tree.specs.grammar.PropertyRows.{plain_prop_row, getter_row, setter_row, prop_by}
use Rattle.hz_tree.specs.grammar.StatementRows.{bound_by, no_value, return_row, statement_by}
use Rattle.hz_tree.specs.grammar.Table.{row}
use Rattle.hz_cuts.specs.Skips.{Skip, primary_skip, arrow_skip}
use Rattle.hz_cuts.specs.Skips.{getter_skip, setter_skip, prop_skip, skip_of}
use Rattle.hz_stands.specs.Nodes.{value_nodes, part_nodes}
use Rattle.hz_stands.proofs.TreeNodes.{nodes_out, nodes_next}
use Rattle.hz_stands.proofs.Made.{nodes_applied, row_laws, made_laws}
use Rattle.hz_stands.proofs.Opening.{Opening}
use Rattle.hz_stands.proofs.Ends.{Ends}
use Rattle.hz_stands.proofs.FunctionRows.{declaration_nodes, expression_nodes, arrow_nodes, getter_nodes, setter_nodes}
use Rattle.hz_stands.proofs.FunctionRows.{generator_nodes, method_nodes, declaration_ends, expression_ends, arrow_ends}
use Rattle.hz_stands.proofs.FunctionRows.{getter_ends, setter_ends, generator_ends, method_ends}

-- what is made of the parts has the functions that the parts have
abbrev pub KeepsNodes : (m : Nonterminal) → Row m → Type 0
KeepsNodes m (goes right make) = (p : Parts Value right) → value_nodes m (make p) ≡ part_nodes right p
KeepsNodes m (refuses cause) = Unit {0}

abbrev pub RowNodes : (m : Nonterminal) → Row m → Option (Skip m) → Type 0
RowNodes m r None = KeepsNodes m r
RowNodes m r (Some skip) = (o : Opening m r) × Ends m r o

keeps_if : (m : Nonterminal) (test : Bool) (a b : Row m) → KeepsNodes m a → KeepsNodes m b → KeepsNodes m (if test
    then a else b)
keeps_if m true a b h i = h
keeps_if m false a b h i = i

nodes_if : (m : Nonterminal) (test : Bool) (a b : Row m) (x y : Option (Skip m)) → RowNodes m a x → RowNodes m b y →
    RowNodes m (if test then a else b) (if test then x else y)
nodes_if m true a b x y h i = h
nodes_if m false a b x y h i = i

-- ---- rows that test more than one class

return_nodes : (c : Context) (returns : Bool) → KeepsNodes (n.Statement c) (return_row c returns)
return_nodes c true = λ p. first_of (simp row_laws, search rules)
return_nodes c false = tt

expression_statement : (c : Context) (l : Look) → KeepsNodes (n.Statement c) (statement_by c l k.Name)
expression_statement c l = λ p. nodes_out _ ∙ simp made_laws

statement_nodes : (c : Context) (l : Look) (one : Class) → KeepsNodes (n.Statement c) (statement_by c l one)
statement_nodes c l k.LeftBrace = λ p. first_of (simp row_laws, search rules)
statement_nodes c l k.For = λ p. first_of (simp row_laws, search rules)
statement_nodes c l k.If = λ p. first_of (simp row_laws, search rules)
statement_nodes c l k.Try = λ p. first_of (simp row_laws, search rules)
statement_nodes c l k.Return = return_nodes c c.returns
statement_nodes c l k.Function = tt
statement_nodes c l k.Var = λ p. nodes_out _ ∙ simp made_laws
statement_nodes c l k.Semicolon = λ p. nodes_out _ ∙ simp made_laws
statement_nodes c l k.Debugger = λ p. nodes_out _ ∙ simp made_laws
statement_nodes c l k.Do = λ p. nodes_out _ ∙ simp made_laws
statement_nodes c l k.While = λ p. nodes_out _ ∙ simp made_laws
statement_nodes c l k.Continue = λ p. nodes_out _ ∙ simp made_laws
statement_nodes c l k.Break = λ p. nodes_out _ ∙ simp made_laws
statement_nodes c l k.Throw = λ p. nodes_out _ ∙ simp made_laws
statement_nodes c l k.Switch = λ p. nodes_out _ ∙ simp made_laws
statement_nodes c l _ = expression_statement c l

no_value_nodes : (word : DeclarationWord) (c : Context) → KeepsNodes (n.Initial word c) (no_value word c)
no_value_nodes word.Const c = λ p. first_of (simp row_laws, search rules)
no_value_nodes _ c = λ p. first_of (simp row_laws, search rules)

expr_end_nodes : (listed : Bool) (c : Context) → KeepsNodes (n.ExprRest listed c) (expr_end listed c)
expr_end_nodes true c = λ p. first_of (simp row_laws, search rules)
expr_end_nodes false c = λ p. first_of (simp row_laws, search rules)

expr_head_nodes : (c : Context) (l : Look) → KeepsNodes (n.Head c) (head_by c l k.Name)
expr_head_nodes c l =
    keeps_if (n.Head c) (is_async_word l.one && is_of l.two) _ _ tt (keeps_if (n.Head c) (is_no_left c l) _ _ (λ p.
    first_of (simp row_laws, search rules)) (λ p. first_of (simp row_laws, search rules)))

head_nodes : (c : Context) (l : Look) (one : Class) → KeepsNodes (n.Head c) (head_by c l one)
head_nodes c l k.Var = λ p. first_of (simp row_laws, search rules)
head_nodes c l k.Let = λ p. first_of (simp row_laws, search rules)
head_nodes c l k.Const = λ p. first_of (simp row_laws, search rules)
head_nodes c l k.Semicolon = λ p. first_of (simp row_laws, search rules)
head_nodes c l _ = expr_head_nodes c l

operator_nodes : (loosest tightest : Level) (c : Context) (one : Class) (assigned : Option AssignOperator) (updated :
    Option UpdateOperator) (joined : Option BinaryOperator) → KeepsNodes (n.Rests loosest tightest c) (operator_row
    loosest tightest c one assigned updated joined)
operator_nodes loosest tightest c one (Some operator) updated joined = λ p. first_of (simp row_laws, search rules)
operator_nodes loosest tightest c one None (Some operator) joined = λ p. first_of (simp row_laws, search rules)
operator_nodes loosest tightest c one None None (Some operator) = λ p. first_of (simp row_laws, search rules)
operator_nodes loosest tightest c one None None None = λ p. first_of (simp row_laws, search rules)

rest_nodes : (loosest tightest : Level) (c : Context) (one : Class) → KeepsNodes (n.Rests loosest tightest c)
    (rest_row loosest tightest c one)
rest_nodes loosest tightest c k.Question = λ p. first_of (simp row_laws, search rules)
rest_nodes loosest tightest c one =
    operator_nodes loosest tightest c one (assign_operator one) (update_operator one) (binary_operator one)

rests_nodes : (loosest tightest : Level) (c : Context) (l : Look) → KeepsNodes (n.Rests loosest tightest c)
    (rests_row loosest tightest c l)
rests_nodes loosest tightest c l =
    keeps_if (n.Rests loosest tightest c) (reads_on loosest tightest c l.one_newline l.one) _ _ (rest_nodes loosest
    tightest c l.one) (λ p. first_of (simp row_laws, search rules))

without_nodes : (loosest : Level) (c : Context) (r : Row (n.Rests loosest level.Update c)) → KeepsNodes (n.Rests
    loosest level.Update c) r → KeepsNodes (n.Tails false loosest c) (without_tails loosest c r)
without_nodes loosest c (goes right make) h = h
without_nodes loosest c (refuses cause) h = tt

tails_end_nodes : (tailed : Bool) (loosest : Level) (c : Context) (l : Look) → KeepsNodes (n.Tails tailed loosest c)
    (tails_end tailed loosest c l)
tails_end_nodes true loosest c l = λ p. first_of (simp row_laws, search rules)
tails_end_nodes false loosest c l =
    without_nodes loosest c (rests_row loosest level.Update c l) (rests_nodes loosest level.Update c l)

tails_nodes : (tailed : Bool) (loosest : Level) (c : Context) (l : Look) (one : Class) → KeepsNodes (n.Tails tailed
    loosest c) (tails_by tailed loosest c l one)
tails_nodes tailed loosest c l k.Dot = λ p. first_of (simp row_laws, search rules)
tails_nodes tailed loosest c l k.LeftBracket = λ p. first_of (simp row_laws, search rules)
tails_nodes tailed loosest c l k.LeftParen = λ p. first_of (simp row_laws, search rules)
tails_nodes tailed loosest c l k.OptionalDot = λ p. first_of (simp row_laws, search rules)
tails_nodes tailed loosest c l k.TemplateWhole = tt
tails_nodes tailed loosest c l k.TemplateHead = tt
tails_nodes tailed loosest c l _ = tails_end_nodes tailed loosest c l

operand_nodes : (loosest : Level) (c : Context) (one : Class) (operator : Option UnaryOperator) → KeepsNodes
    (n.Operation loosest c) (operand_row loosest c one operator)
operand_nodes loosest c one (Some operator) =
    λ p. nodes_applied p.1.1.1.1.1.1.0 (t.Unary p.0.at operator p.1.1.0) ∙ nodes_next _ _ ∙ simp made_laws
operand_nodes loosest c one None = λ p. first_of (simp row_laws, search rules)

operation_nodes : (loosest : Level) (c : Context) (yields : Bool) (one : Class) → KeepsNodes (n.Operation loosest c)
    (operation_by loosest c yields one)
operation_nodes loosest c true k.Yield = λ p. first_of (simp row_laws, search rules)
operation_nodes loosest c yields one = operand_nodes loosest c one (unary_operator one)

plain_new : (c : Context) → KeepsNodes (n.Primary c) (new_row c k.Name)
plain_new c = λ p. first_of (simp row_laws, search rules)

new_nodes : (c : Context) (two : Class) → KeepsNodes (n.Primary c) (new_row c two)
new_nodes c k.Dot = λ p. nodes_out _ ∙ simp made_laws
new_nodes c _ = plain_new c

identifier_nodes : (c : Context) (l : Look) → KeepsNodes (n.Primary c) (primary_by c l k.Name)
identifier_nodes c l = keeps_if (n.Primary c) (is_name l.one) _ _ (λ p. nodes_out _ ∙ simp made_laws) tt

primary_nodes : (c : Context) (l : Look) (one : Class) → RowNodes (n.Primary c) (primary_by c l one) (primary_skip []
    c one l.two)
primary_nodes c l k.Slash = tt
primary_nodes c l k.SlashAssign = tt
primary_nodes c l k.New = new_nodes c l.two
primary_nodes c l k.Function = (expression_nodes c l.two, expression_ends c l.two)
primary_nodes c l k.This = λ p. nodes_out _ ∙ simp made_laws
primary_nodes c l k.Null = λ p. nodes_out _ ∙ simp made_laws
primary_nodes c l k.True = λ p. nodes_out _ ∙ simp made_laws
primary_nodes c l k.False = λ p. nodes_out _ ∙ simp made_laws
primary_nodes c l k.Number = λ p. nodes_out _ ∙ simp made_laws
primary_nodes c l k.OctalNumber = λ p. nodes_out _ ∙ simp made_laws
primary_nodes c l k.Text = λ p. nodes_out _ ∙ simp made_laws
primary_nodes c l k.LeftParen = λ p. nodes_out _ ∙ simp made_laws
primary_nodes c l k.TemplateWhole = λ p. nodes_out _ ∙ simp made_laws
primary_nodes c l k.TemplateHead = λ p. nodes_out _ ∙ simp made_laws
primary_nodes c l k.LeftBracket = λ p. nodes_out _ ∙ simp made_laws
primary_nodes c l k.LeftBrace = λ p. nodes_out _ ∙ simp made_laws
primary_nodes c l _ = identifier_nodes c l

plain_prop_nodes : (c : Context) (l : Look) → KeepsNodes (n.Prop c) (plain_prop_row c l)
plain_prop_nodes c l =
    keeps_if (n.Prop c) (is_name l.one && (not (is_colon l.two) && not (is_paren l.two))) _ _ (λ p. nodes_out _ ∙
    simp made_laws) (λ p. first_of (simp row_laws, search rules))

keyed_getter : (c : Context) (l : Look) (keyed : Bool) → RowNodes (n.Prop c) (getter_row c l keyed) (getter_skip [] c
    keyed)
keyed_getter c l true = (getter_nodes c l, getter_ends c l)
keyed_getter c l false = plain_prop_nodes c l

keyed_setter : (c : Context) (l : Look) (keyed : Bool) → RowNodes (n.Prop c) (setter_row c l keyed) (setter_skip [] c
    keyed)
keyed_setter c l true = (setter_nodes c l, setter_ends c l)
keyed_setter c l false = plain_prop_nodes c l

prop_nodes : (c : Context) (l : Look) (one : Class) → RowNodes (n.Prop c) (prop_by c l one) (prop_skip [] c one l.two)
prop_nodes c l k.Ellipsis = λ p. nodes_out _ ∙ simp made_laws
prop_nodes c l k.Star = (generator_nodes c l, generator_ends c l)
prop_nodes c l k.Get = keyed_getter c l (begins_key l.two)
prop_nodes c l k.Set = keyed_setter c l (begins_key l.two)
prop_nodes c l _ = plain_prop_nodes c l

bound_nodes : (bound : Role) (l : Look) (one : Class) → KeepsNodes (n.Bound bound) (bound_by bound l one)
bound_nodes bound l k.LeftBracket = tt
bound_nodes bound l k.LeftBrace = tt
bound_nodes bound l _ = keeps_if (n.Bound bound) (is_name l.one) _ _ (λ p. first_of (simp row_laws, search rules)) tt

-- ---- all rows

abbrev looked : (one : Class) → (one_newline : Bool) → (two : Class) → (two_newline arrow : Bool) → Look
looked one one_newline two two_newline arrow =
    record { one = one; one_newline = one_newline; two = two; two_newline = two_newline; arrow = arrow }

-- ---- rows for all classes that are not named

abbrev named : Look
named = looked k.Name false k.Name false false

abbrev NamedNodes : Nonterminal → Type 0
NamedNodes m = KeepsNodes m (row m named)

more_items : (c : Context) → NamedNodes (n.Items c)
more_items c = λ p. first_of (simp row_laws, search rules)

item_statement : (c : Context) → NamedNodes (n.Item c)
item_statement c = λ p. first_of (simp row_laws, search rules)

declared_loop : (word : DeclarationWord) (c : Context) → NamedNodes (n.DeclaredHead word c)
declared_loop word c = λ p. first_of (simp row_laws, search rules)

left_loop : (c : Context) → NamedNodes (n.LeftHead c)
left_loop c = λ p. first_of (simp row_laws, search rules)

optional_word : (c : Context) → NamedNodes (n.OptionalTail c)
optional_word c = λ p. nodes_out _ ∙ simp made_laws

first_argument : (c : Context) → NamedNodes (n.Arguments c)
first_argument c = λ p. first_of (simp row_laws, search rules)

plain_argument : (c : Context) → NamedNodes (n.Argument c)
plain_argument c = λ p. first_of (simp row_laws, search rules)

arrow_value : (c : Context) → NamedNodes (n.ArrowBody c)
arrow_value c = λ p. first_of (simp row_laws, search rules)

first_element : (c : Context) → NamedNodes (n.Elements c)
first_element c = λ p. first_of (simp row_laws, search rules)

first_prop : (c : Context) → NamedNodes (n.Props c)
first_prop c = λ p. first_of (simp row_laws, search rules)

word_key : (c : Context) → NamedNodes (n.Key c)
word_key c = λ p. nodes_out _ ∙ simp made_laws

first_parameter : NamedNodes n.Parameters
first_parameter = λ p. first_of (simp row_laws, search rules)

nodes_at : (m : Nonterminal) (one : Class) (newline : Bool) (two : Class) (newline' arrow : Bool) → RowNodes m (row m
    (looked one newline two newline' arrow)) (skip_of [] m (looked one newline two newline' arrow))
nodes_at n.Script _ _ _ _ _ = λ p. nodes_out _ ∙ simp made_laws
nodes_at (n.Items c) k.RightBrace _ _ _ _ = λ p. first_of (simp row_laws, search rules)
nodes_at (n.Items c) k.Case _ _ _ _ = λ p. first_of (simp row_laws, search rules)
nodes_at (n.Items c) k.Default _ _ _ _ = λ p. first_of (simp row_laws, search rules)
nodes_at (n.Items c) k.End _ _ _ _ = λ p. first_of (simp row_laws, search rules)
nodes_at (n.Items c) _ _ _ _ _ = more_items c
nodes_at (n.Item c) k.Function _ two _ _ = (declaration_nodes c two, declaration_ends c two)
nodes_at (n.Item c) k.Let _ _ _ _ = λ p. nodes_out _ ∙ simp made_laws
nodes_at (n.Item c) k.Const _ _ _ _ = λ p. nodes_out _ ∙ simp made_laws
nodes_at (n.Item c) _ _ _ _ _ = item_statement c
nodes_at (n.Block c) _ _ _ _ _ = λ p. nodes_out _ ∙ simp made_laws
nodes_at (n.Binds word c) _ _ _ _ _ = λ p. first_of (simp row_laws, search rules)
nodes_at (n.Bind word c) _ _ _ _ _ = λ p. first_of (simp row_laws, search rules)
nodes_at (n.MoreBinds word c) k.Comma _ _ _ _ = λ p. first_of (simp row_laws, search rules)
nodes_at (n.MoreBinds word c) _ _ _ _ _ = λ p. first_of (simp row_laws, search rules)
nodes_at (n.Initial word c) k.Assign _ _ _ _ = λ p. first_of (simp row_laws, search rules)
nodes_at (n.Initial word c) _ _ _ _ _ = no_value_nodes word c
nodes_at (n.Bound role) one newline two newline' arrow = bound_nodes role (looked one newline two newline' arrow) one
nodes_at n.Semi k.Semicolon _ _ _ _ = λ p. first_of (simp row_laws, search rules)
nodes_at n.Semi k.RightBrace _ _ _ _ = λ p. first_of (simp row_laws, search rules)
nodes_at n.Semi k.End _ _ _ _ = λ p. first_of (simp row_laws, search rules)
nodes_at n.Semi _ true _ _ _ = λ p. first_of (simp row_laws, search rules)
nodes_at n.Semi _ false _ _ _ = tt
nodes_at n.LooseSemi k.Semicolon _ _ _ _ = λ p. first_of (simp row_laws, search rules)
nodes_at n.LooseSemi _ _ _ _ _ = λ p. first_of (simp row_laws, search rules)
nodes_at (n.Else c) k.Else _ _ _ _ = λ p. first_of (simp row_laws, search rules)
nodes_at (n.Else c) _ _ _ _ _ = λ p. first_of (simp row_laws, search rules)
nodes_at (n.Label jump) _ true _ _ _ = λ p. first_of (simp row_laws, search rules)
nodes_at (n.Label jump) one false _ _ _ =
    keeps_if (n.Label jump) (is_name one) _ _ (λ p. first_of (simp row_laws, search rules)) (λ p. first_of (
      simp
          row_laws,
      search rules,
    ))
nodes_at (n.ReturnValue c) k.Semicolon true _ _ _ = λ p. first_of (simp row_laws, search rules)
nodes_at (n.ReturnValue c) _ true _ _ _ = λ p. first_of (simp row_laws, search rules)
nodes_at (n.ReturnValue c) _ _ _ _ _ = λ p. first_of (simp row_laws, search rules)
nodes_at (n.ThrowValue c) _ true _ _ _ = tt
nodes_at (n.ThrowValue c) _ _ _ _ _ = λ p. first_of (simp row_laws, search rules)
nodes_at (n.Clauses c has_default) k.Case _ _ _ _ = λ p. first_of (simp row_laws, search rules)
nodes_at (n.Clauses c false) k.Default _ _ _ _ = λ p. first_of (simp row_laws, search rules)
nodes_at (n.Clauses c true) k.Default _ _ _ _ = λ p. first_of (simp row_laws, search rules)
nodes_at (n.Clauses c has_default) _ _ _ _ _ = λ p. first_of (simp row_laws, search rules)
nodes_at (n.Handlers c) k.Catch _ _ _ _ = λ p. first_of (simp row_laws, search rules)
nodes_at (n.Handlers c) k.Finally _ _ _ _ = λ p. first_of (simp row_laws, search rules)
nodes_at (n.Handlers c) _ _ _ _ _ = tt
nodes_at (n.CatchClause c) _ _ _ _ _ = λ p. nodes_out _ ∙ simp made_laws
nodes_at n.CatchName k.LeftParen _ _ _ _ = λ p. first_of (simp row_laws, search rules)
nodes_at n.CatchName _ _ _ _ _ = λ p. first_of (simp row_laws, search rules)
nodes_at (n.Finally c) k.Finally _ _ _ _ = λ p. first_of (simp row_laws, search rules)
nodes_at (n.Finally c) _ _ _ _ _ = λ p. first_of (simp row_laws, search rules)
nodes_at n.ForOpen k.Await _ _ _ _ = tt
nodes_at n.ForOpen _ _ _ _ _ = λ p. first_of (simp row_laws, search rules)
nodes_at (n.DeclaredHead word c) k.In _ _ _ _ = λ p. first_of (simp row_laws, search rules)
nodes_at (n.DeclaredHead word c) k.Of _ _ _ _ = λ p. first_of (simp row_laws, search rules)
nodes_at (n.DeclaredHead word c) _ _ _ _ _ = declared_loop word c
nodes_at (n.LeftHead c) k.In _ _ _ _ = λ p. first_of (simp row_laws, search rules)
nodes_at (n.LeftHead c) k.Of _ _ _ _ = λ p. first_of (simp row_laws, search rules)
nodes_at (n.LeftHead c) _ _ _ _ _ = left_loop c
nodes_at (n.OptionalExpr c) k.Semicolon _ _ _ _ = λ p. first_of (simp row_laws, search rules)
nodes_at (n.OptionalExpr c) _ _ _ _ _ = λ p. first_of (simp row_laws, search rules)
nodes_at (n.Expr c) _ _ _ _ _ = λ p. first_of (simp row_laws, search rules)
nodes_at (n.ExprRest listed c) k.Comma _ _ _ _ = λ p. first_of (simp row_laws, search rules)
nodes_at (n.ExprRest listed c) _ _ _ _ _ = expr_end_nodes listed c
nodes_at n.ArrowSign _ true _ _ _ = tt
nodes_at n.ArrowSign _ _ _ _ _ = λ p. first_of (simp row_laws, search rules)
nodes_at (n.ArrowBody c) k.LeftBrace _ _ _ _ = λ p. first_of (simp row_laws, search rules)
nodes_at (n.ArrowBody c) _ _ _ _ _ = arrow_value c
nodes_at (n.YieldValue c) k.Star true _ _ _ = λ p. first_of (simp row_laws, search rules)
nodes_at (n.YieldValue c) _ true _ _ _ = λ p. first_of (simp row_laws, search rules)
nodes_at (n.YieldValue c) _ _ _ _ _ = λ p. first_of (simp row_laws, search rules)
nodes_at (n.OptionalTail c) k.LeftBracket _ _ _ _ = λ p. nodes_out _ ∙ simp made_laws
nodes_at (n.OptionalTail c) k.LeftParen _ _ _ _ = λ p. first_of (simp row_laws, search rules)
nodes_at (n.OptionalTail c) k.TemplateWhole _ _ _ _ = tt
nodes_at (n.OptionalTail c) k.TemplateHead _ _ _ _ = tt
nodes_at (n.OptionalTail c) _ _ _ _ _ = optional_word c
nodes_at n.Word one _ _ _ _ = keeps_if n.Word (is_word one) _ _ (λ p. first_of (simp row_laws, search rules)) tt
nodes_at (n.Members c) k.Dot _ _ _ _ = λ p. first_of (simp row_laws, search rules)
nodes_at (n.Members c) k.LeftBracket _ _ _ _ = λ p. first_of (simp row_laws, search rules)
nodes_at (n.Members c) _ _ _ _ _ = λ p. first_of (simp row_laws, search rules)
nodes_at (n.NewArgs c) k.LeftParen _ _ _ _ = λ p. first_of (simp row_laws, search rules)
nodes_at (n.NewArgs c) k.OptionalDot _ _ _ _ = tt
nodes_at (n.NewArgs c) _ _ _ _ _ = λ p. first_of (simp row_laws, search rules)
nodes_at (n.Args c) _ _ _ _ _ = λ p. nodes_out _ ∙ simp made_laws
nodes_at (n.Arguments c) k.RightParen _ _ _ _ = λ p. first_of (simp row_laws, search rules)
nodes_at (n.Arguments c) _ _ _ _ _ = first_argument c
nodes_at (n.MoreArguments c) k.Comma _ _ _ _ = λ p. first_of (simp row_laws, search rules)
nodes_at (n.MoreArguments c) _ _ _ _ _ = λ p. first_of (simp row_laws, search rules)
nodes_at (n.Argument c) k.Ellipsis _ _ _ _ = λ p. nodes_out _ ∙ simp made_laws
nodes_at (n.Argument c) _ _ _ _ _ = plain_argument c
nodes_at (n.TemplateRest c) k.TemplateMiddle _ _ _ _ = λ p. first_of (simp row_laws, search rules)
nodes_at (n.TemplateRest c) k.TemplateTail _ _ _ _ = λ p. first_of (simp row_laws, search rules)
nodes_at (n.TemplateRest c) _ _ _ _ _ = tt
nodes_at (n.Elements c) k.RightBracket _ _ _ _ = λ p. first_of (simp row_laws, search rules)
nodes_at (n.Elements c) k.Comma _ _ _ _ = λ p. first_of (simp row_laws, search rules)
nodes_at (n.Elements c) _ _ _ _ _ = first_element c
nodes_at (n.MoreElements c) k.Comma _ _ _ _ = λ p. first_of (simp row_laws, search rules)
nodes_at (n.MoreElements c) _ _ _ _ _ = λ p. first_of (simp row_laws, search rules)
nodes_at (n.Props c) k.RightBrace _ _ _ _ = λ p. first_of (simp row_laws, search rules)
nodes_at (n.Props c) _ _ _ _ _ = first_prop c
nodes_at (n.MoreProps c) k.Comma _ _ _ _ = λ p. first_of (simp row_laws, search rules)
nodes_at (n.MoreProps c) _ _ _ _ _ = λ p. first_of (simp row_laws, search rules)
nodes_at n.ShorthandEnd k.Assign _ _ _ _ = tt
nodes_at n.ShorthandEnd _ _ _ _ _ = λ p. first_of (simp row_laws, search rules)
nodes_at (n.KeyRest c) k.Colon _ _ _ _ = λ p. first_of (simp row_laws, search rules)
nodes_at (n.KeyRest c) k.LeftParen _ _ _ _ = (method_nodes c named, method_ends c named)
nodes_at (n.KeyRest c) _ _ _ _ _ = tt
nodes_at (n.Key c) k.Text _ _ _ _ = λ p. nodes_out _ ∙ simp made_laws
nodes_at (n.Key c) k.Number _ _ _ _ = λ p. nodes_out _ ∙ simp made_laws
nodes_at (n.Key c) k.OctalNumber _ _ _ _ = λ p. nodes_out _ ∙ simp made_laws
nodes_at (n.Key c) k.LeftBracket _ _ _ _ = λ p. nodes_out _ ∙ simp made_laws
nodes_at (n.Key c) _ _ _ _ _ = word_key c
nodes_at n.OwnName one _ _ _ _ =
    keeps_if n.OwnName (is_name one) _ _ (λ p. first_of (simp row_laws, search rules)) (λ p. first_of (
      simp row_laws,
      search rules,
    ))
nodes_at n.Params _ _ _ _ _ = λ p. first_of (simp row_laws, search rules)
nodes_at n.Parameters k.RightParen _ _ _ _ = λ p. first_of (simp row_laws, search rules)
nodes_at n.Parameters k.Ellipsis _ _ _ _ = λ p. first_of (simp row_laws, search rules)
nodes_at n.Parameters _ _ _ _ _ = first_parameter
nodes_at n.MoreParameters k.Comma _ _ _ _ = λ p. first_of (simp row_laws, search rules)
nodes_at n.MoreParameters k.Assign _ _ _ _ = tt
nodes_at n.MoreParameters _ _ _ _ _ = λ p. first_of (simp row_laws, search rules)
nodes_at n.ParameterEnd k.Assign _ _ _ _ = tt
nodes_at n.ParameterEnd _ _ _ _ _ = λ p. first_of (simp row_laws, search rules)
nodes_at (n.Body generator) _ _ _ _ _ = λ p. nodes_out _ ∙ simp made_laws
nodes_at (n.Statement c) one newline two newline' arrow =
    let l = looked one newline two newline' arrow in keeps_if (n.Statement c) (is_async l) _ _ tt (keeps_if
    (n.Statement c) (is_name one && is_colon two) _ _ (λ p. nodes_out _ ∙ simp made_laws) (statement_nodes c l one))
nodes_at (n.Head c) one newline two newline' arrow = head_nodes c (looked one newline two newline' arrow) one
nodes_at (n.Operation loosest c) one newline two newline' arrow =
    nodes_if (n.Operation loosest c) (is_loosest loosest && begins_arrow (looked one newline two newline' arrow)) _ _
    (Some (arrow_skip [] loosest c (is_paren one))) None
    (arrow_nodes loosest c (is_paren one), arrow_ends loosest c (is_paren one))
    (operation_nodes loosest c (is_loosest loosest && c.yields) one)
nodes_at (n.Tails tailed loosest c) one newline two newline' arrow =
    tails_nodes tailed loosest c (looked one newline two newline' arrow) one
nodes_at (n.Rests loosest tightest c) one newline two newline' arrow =
    rests_nodes loosest tightest c (looked one newline two newline' arrow)
nodes_at (n.Primary c) one newline two newline' arrow =
    let l = looked one newline two newline' arrow in nodes_if (n.Primary c) (is_async l) _ _ None (primary_skip [] c
    one two) tt (primary_nodes c l one)
nodes_at (n.Prop c) one newline two newline' arrow =
    let l = looked one newline two newline' arrow in nodes_if (n.Prop c) (is_async l) _ _ None (prop_skip [] c one
    two) tt (prop_nodes c l one)

-- All rows are so.
pub rows_nodes : (m : Nonterminal) (l : Look) → RowNodes m (row m l) (skip_of [] m l)
rows_nodes m l = nodes_at m l.one l.one_newline l.two l.two_newline l.arrow
