-- Each row of a head is the row of the same nonterminal outside of heads, where no `in` stands ahead.
use Rattle.std.proofs.Common.{◌≡◌, Bool, true, false, not, ◌&&◌, if◌then◌else◌, List, [], ◌∷◌, Option, Some, None}
use Rattle.std.proofs.Common.{refl, ap, subst}
use Rattle.hz_tree.specs.declared.class.Class.{Class}
use Rattle.hz_tree.specs.declared.class.Class.TheVariants as k
use Rattle.hz_tree.specs.declared.look.Look.{Look}
use Rattle.hz_tree.specs.declared.nonterminal.Context.{Context}
use Rattle.hz_tree.specs.declared.nonterminal.Nonterminal.{Nonterminal}
use Rattle.hz_tree.specs.declared.nonterminal.Nonterminal.TheVariants as n
use Rattle.hz_tree.specs.declared.operator.AssignOperator.{AssignOperator}
use Rattle.hz_tree.specs.declared.operator.BinaryOperator.{BinaryOperator}
use Rattle.hz_tree.specs.declared.operator.DeclarationWord.{DeclarationWord}
use Rattle.hz_tree.specs.declared.operator.DeclarationWord.TheVariants as word
use Rattle.hz_tree.specs.declared.operator.Level.{Level}
use Rattle.hz_tree.specs.declared.operator.Level.TheVariants as level
use Rattle.hz_tree.specs.declared.operator.UnaryOperator.{UnaryOperator}
use Rattle.hz_tree.specs.declared.operator.UpdateOperator.{UpdateOperator}
use Rattle.hz_tree.specs.declared.symbol.Symbol.{Symbol}
use Rattle.hz_tree.specs.declared.symbol.Symbol.TheVariants as s
use Rattle.hz_tree.specs.grammar.Classes.{is_in, is_name, is_paren}
use Rattle.hz_tree.specs.grammar.Look.{is_async, begins_arrow}
use Rattle.hz_tree.specs.grammar.Operators.{assign_operator, binary_operator, unary_operator, update_operator}
use Rattle.hz_tree.specs.grammar.Operators.{is_between, level_behind}
use Rattle.hz_tree.specs.grammar.Symbols.{Part, Parts, Value, Row, goes, refuses}
use Rattle.hz_tree.specs.grammar.ExpressionRows.{expr_end}
use Rattle.hz_tree.specs.grammar.OperatorRows.{reads_on, operator_row, rest_row, rests_row, arrow_row, operand_row}
use Rattle.hz_tree.specs.grammar.OperatorRows.{operation_by, is_loosest, without_tails, tails_end, tails_by, no_tails}
use Rattle.hz_tree.specs.grammar.PrimaryRows.{new_row, function_expression_row, primary_by}
use Rattle.hz_tree.specs.grammar.StatementRows.{no_value}
use Rattle.hz_tree.specs.grammar.Table.{row}
use Rattle.hz_stands.specs.Heads.{is_of_head, placed_context, placed, anywhere, anywhere_value}
use Rattle.hz_stands.proofs.Ahead.{passes_in}

-- ---- right-hand sides outside of heads

abbrev pub moved_symbol : Symbol → Symbol
moved_symbol (s.Take wanted) = s.Take wanted
moved_symbol (s.Read m) = s.Read (anywhere m)
moved_symbol (s.Tell signal) = s.Tell signal

abbrev pub moved : List Symbol → List Symbol
moved [] = []
moved (x ∷ more) = moved_symbol x ∷ moved more

abbrev pub moved_part : (x : Symbol) → Part Value x → Part Value (moved_symbol x)
moved_part (s.Take wanted) v = v
moved_part (s.Read m) v = anywhere_value m v
moved_part (s.Tell signal) v = v

abbrev pub moved_parts : (right : List Symbol) → Parts Value right → Parts Value (moved right)
moved_parts [] parts = tt
moved_parts (x ∷ more) parts = (moved_part x parts.0, moved_parts more parts.1)

-- the other row has the same right-hand side outside of heads, and makes the same
pub record Moves (m : Nonterminal) (right : List Symbol) (make : Parts Value right → Value m) (other : Row (anywhere m))
    : Type 0 where
  pub makes : Parts Value (moved right) → Value (anywhere m)
  pub same : other ≡ goes (moved right) makes
  pub made : (p : Parts Value right) → makes (moved_parts right p) ≡ anywhere_value m (make p)

abbrev pub MovesRow : (m : Nonterminal) → Row m → Row (anywhere m) → Type 0
MovesRow m (goes right make) other = Moves m right make other
MovesRow m (refuses cause) other = Unit {0}

moves : (m : Nonterminal) {right : List Symbol} {make : Parts Value right → Value m}
    {makes : Parts Value (moved right) → Value (anywhere m)}
    → ((p : Parts Value right) → makes (moved_parts right p) ≡ anywhere_value m (make p))
    → Moves m right make (goes (moved right) makes)
moves m {makes = makes} h = record { makes = makes; same = refl; made = h }

moves_if : (m : Nonterminal) (test : Bool) (a b : Row m) (a' b' : Row (anywhere m)) → MovesRow m a a' → MovesRow m b b'
    → MovesRow m (if test then a else b) (if test then a' else b')
moves_if m true a b a' b' h i = h
moves_if m false a b a' b' h i = i

abbrev in_a_head : Context → Context
in_a_head c = placed_context true c

abbrev away : Context → Context
away c = placed_context false c

-- ---- rows that test more than one class

arrow_moves : (loosest : Level) (c : Context) (parenthesised : Bool)
    → MovesRow (n.Operation loosest (in_a_head c)) (arrow_row loosest (in_a_head c) parenthesised)
    (arrow_row loosest (away c) parenthesised)
arrow_moves loosest c true = moves (n.Operation loosest (in_a_head c)) (λ p. refl)
arrow_moves loosest c false = moves (n.Operation loosest (in_a_head c)) (λ p. refl)

no_value_moves : (word : DeclarationWord) (c : Context)
    → MovesRow (n.Initial word (in_a_head c)) (no_value word (in_a_head c)) (no_value word (away c))
no_value_moves word.Const c = moves (n.Initial word.Const (in_a_head c)) (λ p. refl)
no_value_moves word c = moves (n.Initial word (in_a_head c)) (λ p. refl)

expr_end_moves : (listed : Bool) (c : Context)
    → MovesRow (n.ExprRest listed (in_a_head c)) (expr_end listed (in_a_head c)) (expr_end listed (away c))
expr_end_moves true c = moves (n.ExprRest true (in_a_head c)) (λ p. refl)
expr_end_moves false c = moves (n.ExprRest false (in_a_head c)) (λ p. refl)

operator_moves : (loosest tightest : Level) (c : Context) (one : Class) (assigned : Option AssignOperator)
    (updated : Option UpdateOperator) (joined : Option BinaryOperator)
    → MovesRow (n.Rests loosest tightest (in_a_head c))
    (operator_row loosest tightest (in_a_head c) one assigned updated joined)
    (operator_row loosest tightest (away c) one assigned updated joined)
operator_moves loosest tightest c one (Some operator) updated joined =
    moves (n.Rests loosest tightest (in_a_head c)) (λ p. refl)
operator_moves loosest tightest c one None (Some operator) joined =
    moves (n.Rests loosest tightest (in_a_head c)) (λ p. refl)
operator_moves loosest tightest c one None None (Some operator) =
    moves (n.Rests loosest tightest (in_a_head c)) (λ p. refl)
operator_moves loosest tightest c one None None None = moves (n.Rests loosest tightest (in_a_head c)) (λ p. refl)

rest_moves : (loosest tightest : Level) (c : Context) (one : Class)
    → MovesRow (n.Rests loosest tightest (in_a_head c)) (rest_row loosest tightest (in_a_head c) one)
    (rest_row loosest tightest (away c) one)
rest_moves loosest tightest c k.Question = moves (n.Rests loosest tightest (in_a_head c)) (λ p. refl)
rest_moves loosest tightest c one =
    operator_moves loosest tightest c one (assign_operator one) (update_operator one) (binary_operator one)

-- a token that goes on with the operation outside of heads does so in a head, unless it is `in`
same_test : (one_in goes_on : Bool) → one_in ≡ false → (not (one_in && true) && goes_on) ≡ (not (one_in && false)
    && goes_on)
same_test true goes_on h = cc
same_test false goes_on h = refl

rests_move : (loosest tightest : Level) (c : Context) (l : Look) → is_in l.one ≡ false
    → MovesRow (n.Rests loosest tightest (in_a_head c)) (rests_row loosest tightest (in_a_head c) l)
    (rests_row loosest tightest (away c) l)
rests_move loosest tightest c l h =
    let m = n.Rests loosest tightest (in_a_head c) in
    subst (λ test. MovesRow m (rests_row loosest tightest (in_a_head c) l)
    (if test then rest_row loosest tightest (away c) l.one else goes [] (λ _. [])))
    (same_test (is_in l.one) (elim (level_behind l.one_newline l.one)
    [ None ↦ false | Some own ↦ is_between loosest tightest own ]) h)
    (moves_if m (reads_on loosest tightest (in_a_head c) l.one_newline l.one) _ _ _ _
    (rest_moves loosest tightest c l.one) (moves m (λ p. refl)))

without_moves : (loosest : Level) (c : Context) (r : Row (n.Rests loosest level.Update (in_a_head c)))
    (other : Row (n.Rests loosest level.Update (away c)))
    → MovesRow (n.Rests loosest level.Update (in_a_head c)) r other
    → MovesRow (n.Tails false loosest (in_a_head c)) (without_tails loosest (in_a_head c) r)
    (without_tails loosest (away c) other)
without_moves loosest c (goes right make) other h = record {
  makes = λ p. no_tails (h.makes p);
  same = ap (without_tails loosest (away c)) h.same;
  made = λ p. ap no_tails (h.made p);
}
without_moves loosest c (refuses cause) other h = tt

tails_end_moves : (tailed : Bool) (loosest : Level) (c : Context) (l : Look) → is_in l.one ≡ false
    → MovesRow (n.Tails tailed loosest (in_a_head c)) (tails_end tailed loosest (in_a_head c) l)
    (tails_end tailed loosest (away c) l)
tails_end_moves true loosest c l h = moves (n.Tails true loosest (in_a_head c)) (λ p. refl)
tails_end_moves false loosest c l h =
    without_moves loosest c (rests_row loosest level.Update (in_a_head c) l) (rests_row loosest level.Update (away c) l)
    (rests_move loosest level.Update c l h)

tails_move : (tailed : Bool) (loosest : Level) (c : Context) (l : Look) (one : Class) → is_in l.one ≡ false
    → MovesRow (n.Tails tailed loosest (in_a_head c)) (tails_by tailed loosest (in_a_head c) l one)
    (tails_by tailed loosest (away c) l one)
tails_move tailed loosest c l k.Dot h = moves (n.Tails tailed loosest (in_a_head c)) (λ p. refl)
tails_move tailed loosest c l k.LeftBracket h = moves (n.Tails tailed loosest (in_a_head c)) (λ p. refl)
tails_move tailed loosest c l k.LeftParen h = moves (n.Tails tailed loosest (in_a_head c)) (λ p. refl)
tails_move tailed loosest c l k.OptionalDot h = moves (n.Tails tailed loosest (in_a_head c)) (λ p. refl)
tails_move tailed loosest c l k.TemplateWhole h = tt
tails_move tailed loosest c l k.TemplateHead h = tt
tails_move tailed loosest c l _ h = tails_end_moves tailed loosest c l h

operand_moves : (loosest : Level) (c : Context) (one : Class) (operator : Option UnaryOperator)
    → MovesRow (n.Operation loosest (in_a_head c)) (operand_row loosest (in_a_head c) one operator)
    (operand_row loosest (away c) one operator)
operand_moves loosest c one (Some operator) = moves (n.Operation loosest (in_a_head c)) (λ p. refl)
operand_moves loosest c one None = moves (n.Operation loosest (in_a_head c)) (λ p. refl)

operation_moves : (loosest : Level) (c : Context) (yields : Bool) (one : Class)
    → MovesRow (n.Operation loosest (in_a_head c)) (operation_by loosest (in_a_head c) yields one)
    (operation_by loosest (away c) yields one)
operation_moves loosest c true k.Yield = moves (n.Operation loosest (in_a_head c)) (λ p. refl)
operation_moves loosest c yields one = operand_moves loosest c one (unary_operator one)

plain_expression : (c : Context)
    → MovesRow (n.Primary (in_a_head c)) (function_expression_row (in_a_head c) k.Name)
    (function_expression_row (away c) k.Name)
plain_expression c = moves (n.Primary (in_a_head c)) (λ p. refl)

expression_moves : (c : Context) (two : Class)
    → MovesRow (n.Primary (in_a_head c)) (function_expression_row (in_a_head c) two)
    (function_expression_row (away c) two)
expression_moves c k.Star = moves (n.Primary (in_a_head c)) (λ p. refl)
expression_moves c _ = plain_expression c

plain_new : (c : Context) → MovesRow (n.Primary (in_a_head c)) (new_row (in_a_head c) k.Name) (new_row (away c) k.Name)
plain_new c = moves (n.Primary (in_a_head c)) (λ p. refl)

new_moves : (c : Context) (two : Class)
    → MovesRow (n.Primary (in_a_head c)) (new_row (in_a_head c) two) (new_row (away c) two)
new_moves c k.Dot = moves (n.Primary (in_a_head c)) (λ p. refl)
new_moves c _ = plain_new c

identifier_moves : (c : Context) (l : Look)
    → MovesRow (n.Primary (in_a_head c)) (primary_by (in_a_head c) l k.Name) (primary_by (away c) l k.Name)
identifier_moves c l =
    moves_if (n.Primary (in_a_head c)) (is_name l.one) _ _ _ _ (moves (n.Primary (in_a_head c)) (λ p. refl)) tt

primary_moves : (c : Context) (l : Look) (one : Class)
    → MovesRow (n.Primary (in_a_head c)) (primary_by (in_a_head c) l one) (primary_by (away c) l one)
primary_moves c l k.Slash = tt
primary_moves c l k.SlashAssign = tt
primary_moves c l k.New = new_moves c l.two
primary_moves c l k.Function = expression_moves c l.two
primary_moves c l k.This = moves (n.Primary (in_a_head c)) (λ p. refl)
primary_moves c l k.Null = moves (n.Primary (in_a_head c)) (λ p. refl)
primary_moves c l k.True = moves (n.Primary (in_a_head c)) (λ p. refl)
primary_moves c l k.False = moves (n.Primary (in_a_head c)) (λ p. refl)
primary_moves c l k.Number = moves (n.Primary (in_a_head c)) (λ p. refl)
primary_moves c l k.OctalNumber = moves (n.Primary (in_a_head c)) (λ p. refl)
primary_moves c l k.Text = moves (n.Primary (in_a_head c)) (λ p. refl)
primary_moves c l k.LeftParen = moves (n.Primary (in_a_head c)) (λ p. refl)
primary_moves c l k.TemplateWhole = moves (n.Primary (in_a_head c)) (λ p. refl)
primary_moves c l k.TemplateHead = moves (n.Primary (in_a_head c)) (λ p. refl)
primary_moves c l k.LeftBracket = moves (n.Primary (in_a_head c)) (λ p. refl)
primary_moves c l k.LeftBrace = moves (n.Primary (in_a_head c)) (λ p. refl)
primary_moves c l _ = identifier_moves c l

-- ---- rows for all classes that are not named

abbrev looked : (one : Class) → (one_newline : Bool) → (two : Class) → (two_newline arrow : Bool) → Look
looked one one_newline two two_newline arrow =
    record { one = one; one_newline = one_newline; two = two; two_newline = two_newline; arrow = arrow }

abbrev named : Look
named = looked k.Name false k.Name false false

abbrev MovesNamed : Nonterminal → Type 0
MovesNamed m = MovesRow m (row m named) (row (anywhere m) named)

optional_word : (c : Context) → MovesNamed (n.OptionalTail (in_a_head c))
optional_word c = moves (n.OptionalTail (in_a_head c)) (λ p. refl)

arrow_value : (c : Context) → MovesNamed (n.ArrowBody (in_a_head c))
arrow_value c = moves (n.ArrowBody (in_a_head c)) (λ p. refl)

-- ---- all rows

abbrev pub MovesAt : Nonterminal → Look → Type 0
MovesAt m l = (passes_in m && is_in l.one) ≡ false → MovesRow m (row m l) (row (anywhere m) l)

moves_at : (m : Nonterminal) (one : Class) (newline : Bool) (two : Class) (newline' arrow : Bool) → is_of_head m ≡ true
    → MovesAt (placed true m) (looked one newline two newline' arrow)
moves_at (n.Binds word c) _ _ _ _ _ h i = moves (n.Binds word (in_a_head c)) (λ p. refl)
moves_at (n.Bind word c) _ _ _ _ _ h i = moves (n.Bind word (in_a_head c)) (λ p. refl)
moves_at (n.MoreBinds word c) k.Comma _ _ _ _ h i = moves (n.MoreBinds word (in_a_head c)) (λ p. refl)
moves_at (n.MoreBinds word c) _ _ _ _ _ h i = moves (n.MoreBinds word (in_a_head c)) (λ p. refl)
moves_at (n.Initial word c) k.Assign _ _ _ _ h i = moves (n.Initial word (in_a_head c)) (λ p. refl)
moves_at (n.Initial word c) _ _ _ _ _ h i = no_value_moves word c
moves_at (n.Expr c) _ _ _ _ _ h i = moves (n.Expr (in_a_head c)) (λ p. refl)
moves_at (n.ExprRest listed c) k.Comma _ _ _ _ h i = moves (n.ExprRest listed (in_a_head c)) (λ p. refl)
moves_at (n.ExprRest listed c) _ _ _ _ _ h i = expr_end_moves listed c
moves_at (n.Operation loosest c) one newline two newline' arrow h i =
    moves_if (n.Operation loosest (in_a_head c))
    (is_loosest loosest && begins_arrow (looked one newline two newline' arrow)) _ _ _ _
    (arrow_moves loosest c (is_paren one)) (operation_moves loosest c (is_loosest loosest && c.yields) one)
moves_at (n.Tails tailed loosest c) one newline two newline' arrow h i =
    tails_move tailed loosest c (looked one newline two newline' arrow) one i
moves_at (n.Rests loosest tightest c) one newline two newline' arrow h i =
    rests_move loosest tightest c (looked one newline two newline' arrow) i
moves_at (n.ArrowBody c) k.LeftBrace _ _ _ _ h i = moves (n.ArrowBody (in_a_head c)) (λ p. refl)
moves_at (n.ArrowBody c) _ _ _ _ _ h i = arrow_value c
moves_at (n.YieldValue c) k.Star true _ _ _ h i = moves (n.YieldValue (in_a_head c)) (λ p. refl)
moves_at (n.YieldValue c) _ true _ _ _ h i = moves (n.YieldValue (in_a_head c)) (λ p. refl)
moves_at (n.YieldValue c) _ _ _ _ _ h i = moves (n.YieldValue (in_a_head c)) (λ p. refl)
moves_at (n.Primary c) one newline two newline' arrow h i =
    let l = looked one newline two newline' arrow in
    moves_if (n.Primary (in_a_head c)) (is_async l) _ _ _ _ tt (primary_moves c l one)
moves_at (n.OptionalTail c) k.LeftBracket _ _ _ _ h i = moves (n.OptionalTail (in_a_head c)) (λ p. refl)
moves_at (n.OptionalTail c) k.LeftParen _ _ _ _ h i = moves (n.OptionalTail (in_a_head c)) (λ p. refl)
moves_at (n.OptionalTail c) k.TemplateWhole _ _ _ _ h i = tt
moves_at (n.OptionalTail c) k.TemplateHead _ _ _ _ h i = tt
moves_at (n.OptionalTail c) _ _ _ _ _ h i = optional_word c
moves_at (n.Members c) k.Dot _ _ _ _ h i = moves (n.Members (in_a_head c)) (λ p. refl)
moves_at (n.Members c) k.LeftBracket _ _ _ _ h i = moves (n.Members (in_a_head c)) (λ p. refl)
moves_at (n.Members c) _ _ _ _ _ h i = moves (n.Members (in_a_head c)) (λ p. refl)
moves_at (n.NewArgs c) k.LeftParen _ _ _ _ h i = moves (n.NewArgs (in_a_head c)) (λ p. refl)
moves_at (n.NewArgs c) k.OptionalDot _ _ _ _ h i = tt
moves_at (n.NewArgs c) _ _ _ _ _ h i = moves (n.NewArgs (in_a_head c)) (λ p. refl)
moves_at (n.Args c) _ _ _ _ _ h i = moves (n.Args (in_a_head c)) (λ p. refl)
moves_at m _ _ _ _ _ h i = cc

pub rows_move : (m : Nonterminal) (l : Look) → is_of_head m ≡ true → MovesAt (placed true m) l
rows_move m l h = moves_at m l.one l.one_newline l.two l.two_newline l.arrow h
