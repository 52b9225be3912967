-- Right-hand sides in readings that are settled have parts of which the readings are settled: expressions.
use Rattle.std.proofs.Common.{◌≡◌, Bool, true, false, not, ◌&&◌, ◌||◌, if◌then◌else◌, List, [], ◌∷◌, Option, Some, None}
use Rattle.std.proofs.Common.{refl}
use Rattle.hz_tree.specs.declared.class.Class.{Class}
use Rattle.hz_tree.specs.declared.class.Class.TheVariants as k
use Rattle.hz_tree.specs.declared.look.Look.{Look}
use Rattle.hz_tree.specs.declared.nonterminal.Context.{Context}
use Rattle.hz_tree.specs.declared.nonterminal.Nonterminal.{Nonterminal}
use Rattle.hz_tree.specs.declared.nonterminal.Nonterminal.TheVariants as n
use Rattle.hz_tree.specs.declared.operator.AssignOperator.{AssignOperator}
use Rattle.hz_tree.specs.declared.operator.BinaryOperator.{BinaryOperator}
use Rattle.hz_tree.specs.declared.operator.DeclarationWord.{DeclarationWord}
use Rattle.hz_tree.specs.declared.operator.DeclarationWord.TheVariants as word
use Rattle.hz_tree.specs.declared.operator.Level.{Level}
use Rattle.hz_tree.specs.declared.operator.Level.TheVariants as level
use Rattle.hz_tree.specs.declared.operator.UnaryOperator.{UnaryOperator}
use Rattle.hz_tree.specs.declared.operator.UpdateOperator.{UpdateOperator}
use Rattle.hz_tree.specs.declared.symbol.Symbol.{Symbol}
use Rattle.hz_tree.specs.declared.symbol.Symbol.TheVariants as s
use Rattle.hz_tree.specs.grammar.Classes.{is_name}
use Rattle.hz_tree.specs.grammar.Operators.{assign_operator, binary_operator, unary_operator, update_operator}
use Rattle.hz_tree.specs.grammar.Symbols.{Row, goes, refuses}
use Rattle.hz_tree.specs.grammar.ExpressionRows.{expr_end}
use Rattle.hz_tree.specs.grammar.OperatorRows.{reads_on, operator_row, rest_row, rests_row, arrow_row, operand_row}
use Rattle.hz_tree.specs.grammar.OperatorRows.{operation_by, without_tails, tails_end, tails_by}
use Rattle.hz_tree.specs.grammar.PrimaryRows.{new_row, function_expression_row, primary_by}
use Rattle.hz_tree.specs.grammar.StatementRows.{no_value}
use Rattle.hz_tree.specs.grammar.Table.{Step, pushes, fails, step_of}
use Rattle.hz_stands.specs.Heads.{in_head, is_of_head, placed_context}
use Rattle.hz_stands.proofs.Ahead.{keeps_off}

-- ---- right-hand sides

-- Each nonterminal has `in` as an operator, or is of a head, with no `in` ahead of what stands behind it.
abbrev pub guards : (behind : Bool) → List Symbol → Bool
guards behind [] = true
guards behind (s.Take wanted ∷ more) = guards behind more
guards behind (s.Read m ∷ more) =
    (not (in_head m) || (is_of_head m && keeps_off behind more)) && guards behind more
guards behind (s.Tell signal ∷ more) = guards behind more

abbrev pub is_guarded : (behind : Bool) → Step → Bool
is_guarded behind (pushes right) = guards behind right
is_guarded behind (fails cause) = true

-- statements are in no head
abbrev pub Settles : (m : Nonterminal) → Row m → Type 0
Settles m r = ((in_head m && not (is_of_head m)) || is_guarded (in_head m) (step_of r)) ≡ true

pub settles_if : (m : Nonterminal) (test : Bool) (a b : Row m) → Settles m a → Settles m b
    → Settles m (if test then a else b)
settles_if m true a b h i = h
settles_if m false a b h i = i

abbrev pub at : (head : Bool) → Context → Context
at head c = placed_context head c

abbrev pub away : Context → Context
away c = placed_context false c

-- ---- expressions, in a head or outside of heads

pub arrow_settles : (head : Bool) (loosest : Level) (c : Context) (parenthesised : Bool)
    → Settles (n.Operation loosest (at head c)) (arrow_row loosest (at head c) parenthesised)
arrow_settles true loosest c true = refl
arrow_settles true loosest c false = refl
arrow_settles false loosest c true = refl
arrow_settles false loosest c false = refl

pub no_value_settles : (head : Bool) (word : DeclarationWord) (c : Context)
    → Settles (n.Initial word (at head c)) (no_value word (at head c))
no_value_settles true word.Const c = refl
no_value_settles true _ c = refl
no_value_settles false word.Const c = refl
no_value_settles false _ c = refl

pub expr_end_settles : (head : Bool) (listed : Bool) (c : Context)
    → Settles (n.ExprRest listed (at head c)) (expr_end listed (at head c))
expr_end_settles true true c = refl
expr_end_settles true false c = refl
expr_end_settles false true c = refl
expr_end_settles false false c = refl

operator_settles : (head : Bool) (loosest tightest : Level) (c : Context) (one : Class)
    (assigned : Option AssignOperator) (updated : Option UpdateOperator) (joined : Option BinaryOperator)
    → Settles (n.Rests loosest tightest (at head c))
    (operator_row loosest tightest (at head c) one assigned updated joined)
operator_settles true loosest tightest c one (Some operator) updated joined = refl
operator_settles true loosest tightest c one None (Some operator) joined = refl
operator_settles true loosest tightest c one None None (Some operator) = refl
operator_settles true loosest tightest c one None None None = refl
operator_settles false loosest tightest c one (Some operator) updated joined = refl
operator_settles false loosest tightest c one None (Some operator) joined = refl
operator_settles false loosest tightest c one None None (Some operator) = refl
operator_settles false loosest tightest c one None None None = refl

choice_settles : (head : Bool) (loosest tightest : Level) (c : Context)
    → Settles (n.Rests loosest tightest (at head c)) (rest_row loosest tightest (at head c) k.Question)
choice_settles true loosest tightest c = refl
choice_settles false loosest tightest c = refl

rest_settles : (head : Bool) (loosest tightest : Level) (c : Context) (one : Class)
    → Settles (n.Rests loosest tightest (at head c)) (rest_row loosest tightest (at head c) one)
rest_settles head loosest tightest c k.Question = choice_settles head loosest tightest c
rest_settles head loosest tightest c one =
    operator_settles head loosest tightest c one (assign_operator one) (update_operator one) (binary_operator one)

no_rests_settle : (head : Bool) (loosest tightest : Level) (c : Context)
    → Settles (n.Rests loosest tightest (at head c)) (goes [] (λ _. []))
no_rests_settle true loosest tightest c = refl
no_rests_settle false loosest tightest c = refl

pub rests_settle : (head : Bool) (loosest tightest : Level) (c : Context) (l : Look)
    → Settles (n.Rests loosest tightest (at head c)) (rests_row loosest tightest (at head c) l)
rests_settle head loosest tightest c l =
    settles_if (n.Rests loosest tightest (at head c)) (reads_on loosest tightest (at head c) l.one_newline l.one) _ _
    (rest_settles head loosest tightest c l.one) (no_rests_settle head loosest tightest c)

without_settles : (loosest : Level) (c : Context) (r : Row (n.Rests loosest level.Update c))
    → Settles (n.Rests loosest level.Update c) r → Settles (n.Tails false loosest c) (without_tails loosest c r)
without_settles loosest c (goes right make) h = h
without_settles loosest c (refuses cause) h = h

tails_end_settles : (head tailed : Bool) (loosest : Level) (c : Context) (l : Look)
    → Settles (n.Tails tailed loosest (at head c)) (tails_end tailed loosest (at head c) l)
tails_end_settles true true loosest c l = refl
tails_end_settles false true loosest c l = refl
tails_end_settles head false loosest c l =
    without_settles loosest (at head c) (rests_row loosest level.Update (at head c) l)
    (rests_settle head loosest level.Update c l)

pub tails_settle : (head tailed : Bool) (loosest : Level) (c : Context) (l : Look) (one : Class)
    → Settles (n.Tails tailed loosest (at head c)) (tails_by tailed loosest (at head c) l one)
tails_settle true tailed loosest c l k.Dot = refl
tails_settle true tailed loosest c l k.LeftBracket = refl
tails_settle true tailed loosest c l k.LeftParen = refl
tails_settle true tailed loosest c l k.OptionalDot = refl
tails_settle true tailed loosest c l k.TemplateWhole = refl
tails_settle true tailed loosest c l k.TemplateHead = refl
tails_settle false tailed loosest c l k.Dot = refl
tails_settle false tailed loosest c l k.LeftBracket = refl
tails_settle false tailed loosest c l k.LeftParen = refl
tails_settle false tailed loosest c l k.OptionalDot = refl
tails_settle false tailed loosest c l k.TemplateWhole = refl
tails_settle false tailed loosest c l k.TemplateHead = refl
tails_settle head tailed loosest c l _ = tails_end_settles head tailed loosest c l

operand_settles : (head : Bool) (loosest : Level) (c : Context) (one : Class) (operator : Option UnaryOperator)
    → Settles (n.Operation loosest (at head c)) (operand_row loosest (at head c) one operator)
operand_settles true loosest c one (Some operator) = refl
operand_settles true loosest c one None = refl
operand_settles false loosest c one (Some operator) = refl
operand_settles false loosest c one None = refl

pub operation_settles : (head : Bool) (loosest : Level) (c : Context) (yields : Bool) (one : Class)
    → Settles (n.Operation loosest (at head c)) (operation_by loosest (at head c) yields one)
operation_settles true loosest c true k.Yield = refl
operation_settles false loosest c true k.Yield = refl
operation_settles head loosest c yields one = operand_settles head loosest c one (unary_operator one)

plain_expression : (head : Bool) (c : Context)
    → Settles (n.Primary (at head c)) (function_expression_row (at head c) k.Name)
plain_expression true c = refl
plain_expression false c = refl

pub expression_settles : (head : Bool) (c : Context) (two : Class)
    → Settles (n.Primary (at head c)) (function_expression_row (at head c) two)
expression_settles true c k.Star = refl
expression_settles false c k.Star = refl
expression_settles head c _ = plain_expression head c

plain_new : (head : Bool) (c : Context) → Settles (n.Primary (at head c)) (new_row (at head c) k.Name)
plain_new true c = refl
plain_new false c = refl

new_settles : (head : Bool) (c : Context) (two : Class) → Settles (n.Primary (at head c)) (new_row (at head c) two)
new_settles true c k.Dot = refl
new_settles false c k.Dot = refl
new_settles head c _ = plain_new head c

identifier_settles : (head : Bool) (c : Context) (l : Look)
    → Settles (n.Primary (at head c)) (primary_by (at head c) l k.Name)
identifier_settles true c l = settles_if (n.Primary (at true c)) (is_name l.one) _ _ refl refl
identifier_settles false c l = settles_if (n.Primary (at false c)) (is_name l.one) _ _ refl refl

pub primary_settles : (head : Bool) (c : Context) (l : Look) (one : Class)
    → Settles (n.Primary (at head c)) (primary_by (at head c) l one)
primary_settles head c l k.New = new_settles head c l.two
primary_settles head c l k.Function = expression_settles head c l.two
primary_settles true c l k.Slash = refl
primary_settles true c l k.SlashAssign = refl
primary_settles true c l k.This = refl
primary_settles true c l k.Null = refl
primary_settles true c l k.True = refl
primary_settles true c l k.False = refl
primary_settles true c l k.Number = refl
primary_settles true c l k.OctalNumber = refl
primary_settles true c l k.Text = refl
primary_settles true c l k.LeftParen = refl
primary_settles true c l k.TemplateWhole = refl
primary_settles true c l k.TemplateHead = refl
primary_settles true c l k.LeftBracket = refl
primary_settles true c l k.LeftBrace = refl
primary_settles false c l k.Slash = refl
primary_settles false c l k.SlashAssign = refl
primary_settles false c l k.This = refl
primary_settles false c l k.Null = refl
primary_settles false c l k.True = refl
primary_settles false c l k.False = refl
primary_settles false c l k.Number = refl
primary_settles false c l k.OctalNumber = refl
primary_settles false c l k.Text = refl
primary_settles false c l k.LeftParen = refl
primary_settles false c l k.TemplateWhole = refl
primary_settles false c l k.TemplateHead = refl
primary_settles false c l k.LeftBracket = refl
primary_settles false c l k.LeftBrace = refl
primary_settles head c l _ = identifier_settles head c l
