-- What the rows of operations make, where what they depend on is known.
use Rattle.std.proofs.Common.{◌≡◌, ◌≢◌, ℕ, Bool, true, false, ◌&&◌, if◌then◌else◌, List, [], ◌∷◌, map, Some, None}
use Rattle.std.proofs.Common.{Result, Ok, Err, OnOk, refl, ap, sym, subst, ◌∙◌}
use Rattle.hz_list.specs.declared.out_of_memory.Memory.{Memory}
use Rattle.hz_tree.specs.declared.class.Class.{Class}
use Rattle.hz_tree.specs.declared.class.Class.TheVariants as k
use Rattle.hz_tree.specs.declared.index.FunctionInfo.{FunctionInfo}
use Rattle.hz_tree.specs.declared.look.Look.{Look}
use Rattle.hz_tree.specs.declared.nonterminal.Context.{Context}
use Rattle.hz_tree.specs.declared.nonterminal.Nonterminal.{Nonterminal}
use Rattle.hz_tree.specs.declared.nonterminal.Nonterminal.TheVariants as n
use Rattle.hz_tree.specs.declared.operator.Level.{Level}
use Rattle.hz_tree.specs.declared.operator.Level.TheVariants as level
use Rattle.hz_tree.specs.declared.tree.FunctionForm.TheVariants as form
use Rattle.hz_tree.specs.declared.tree.Tree.{Tree}
use Rattle.hz_tree.specs.declared.tree.Tree.TheVariants as t
use Rattle.hz_tree.specs.grammar.Classes.{is_paren, is_yield}
use Rattle.hz_tree.specs.grammar.ExpressionRows.{arrow_body_row, expr_end, expr_rest_row}
use Rattle.hz_tree.specs.grammar.Look.{begins_arrow}
use Rattle.hz_tree.specs.grammar.OperatorRows.{applied, arrow_row, is_loosest, operand_row, operation_by, operator_row}
use Rattle.hz_tree.specs.grammar.OperatorRows.{rest_row, tails_by, tails_end, without_tails}
use Rattle.hz_tree.specs.grammar.Operators.{assign_operator, binary_operator, unary_operator, update_operator}
use Rattle.hz_tree.specs.grammar.Symbols.{Behind, assigns, chooses, goes, joins, refuses, Row, updates}
use Rattle.hz_tree.specs.trees.FunctionTrees.{number_at}
use Rattle.hz_tree.specs.trees.Places.{place}
use Rattle.hz_cuts.specs.Rows.{cut_by, cut_row}
use Rattle.hz_cuts.specs.Skips.{arrow_skip}
use Rattle.hz_parts.specs.declared.parts.Parts.{Parts as Stacks}
use Rattle.hz_parts.specs.Makes.{Makes}
use Rattle.hz_parts.specs.Values.{push_list, push_opened, push_tree, shown}
use Rattle.hz_parse_expr.specs.Trees.{operated_by}

-- ---- what is known of what a row depends on

pub made_where : {A : Type 0} {m : Nonterminal} (row : A → Row m) (found known : A) (r : Result (Unit {0}) Memory)
    (old new : Stacks) → found ≡ known → Makes m (row known) r old new → Makes m (row found) r old new
made_where {A} {m} row found known r old new e h = subst (λ x. Makes m (row x) r old new) (sym e) h

-- ---- lists of expressions

no_more_made : (listed : Bool) (c : Context) (r : Result (Unit {0}) Memory) (old new : Stacks)
    → OnOk r (new ≡ push_list [] old) → Makes (n.ExprRest listed c) (expr_end listed c) r old new
no_more_made true c (Ok done) old new h = λ parts below e. h ∙ ap (push_list []) e
no_more_made false c (Ok done) old new h = λ parts below e. h ∙ ap (push_list []) e
no_more_made true c (Err memory) old new h = tt
no_more_made false c (Err memory) old new h = tt

pub expr_end_made : (listed : Bool) (c : Context) (one : Class) (r : Result (Unit {0}) Memory) (old new : Stacks)
    → one ≢ k.Comma → OnOk r (new ≡ push_list [] old)
    → Makes (n.ExprRest listed c) (expr_rest_row listed c one) r old new
expr_end_made listed c k.Comma r old new differs h = absurd (differs refl)
expr_end_made listed c _ r old new differs h = no_more_made listed c r old new h

-- ---- arrows

-- the body stands there already
pub arrow_body_made : (c : Context) (one : Class) (old : Stacks)
    → Makes (n.ArrowBody c) (arrow_body_row c one) (Ok tt) old old
arrow_body_made c k.LeftBrace old = λ parts below e. e
arrow_body_made c _ old = λ parts below e. e

-- the number of the function that was opened last stands in its place
abbrev Left : List FunctionInfo → (old new : Stacks) → Type 0
Left functions old new =
    (opened : ℕ) (below : Stacks) → old ≡ push_opened opened below
    → new ≡ push_tree (t.Inner opened (number_at functions opened) form.Arrow) below

-- the row of an operation, by whether it is an arrow
abbrev cut_operation : List FunctionInfo → (loosest : Level) → (c : Context) → (parenthesised : Bool)
    → Row (n.Operation loosest c) → (arrow : Bool) → Row (n.Operation loosest c)
cut_operation functions loosest c parenthesised other arrow =
    cut_by (n.Operation loosest c) (if arrow then arrow_row loosest c parenthesised else other)
    (if arrow then Some (arrow_skip functions loosest c parenthesised) else None)

left_out : (functions : List FunctionInfo) (loosest : Level) (c : Context) (parenthesised : Bool)
    (other : Row (n.Operation loosest c)) (r : Result (Unit {0}) Memory) (old new : Stacks)
    → OnOk r (Left functions old new)
    → Makes (n.Operation loosest c) (cut_operation functions loosest c parenthesised other true) r old new
left_out functions loosest c true other (Ok done) old new h = λ parts below e. h parts.0.at below e
left_out functions loosest c false other (Ok done) old new h = λ parts below e. h parts.0.at below e
left_out functions loosest c true other (Err memory) old new h = tt
left_out functions loosest c false other (Err memory) old new h = tt

pub arrow_made : (functions : List FunctionInfo) (loosest : Level) (c : Context) (l : Look)
    (r : Result (Unit {0}) Memory) (old new : Stacks) → (is_loosest loosest && begins_arrow l) ≡ true
    → OnOk r (Left functions old new)
    → Makes (n.Operation loosest c) (cut_row functions (n.Operation loosest c) l) r old new
arrow_made functions loosest c l r old new e h =
    let other = operation_by loosest c (is_loosest loosest && c.yields) l.one in
    made_where (cut_operation functions loosest c (is_paren l.one) other) (is_loosest loosest && begins_arrow l) true
    r old new e (left_out functions loosest c (is_paren l.one) other r old new h)

-- ---- operands

pub yield_made : (loosest : Level) (c : Context) (yields : Bool) (one : Class) (r : Result (Unit {0}) Memory)
    (old new : Stacks) → (yields && is_yield one) ≡ true
    → Makes (n.Operation loosest c) (operation_by loosest c true k.Yield) r old new
    → Makes (n.Operation loosest c) (operation_by loosest c yields one) r old new
yield_made loosest c true k.Yield r old new e h = h
yield_made loosest c true _ r old new e h = absurd (cc)
yield_made loosest c false one r old new e h = absurd (cc)

pub no_yield_made : (loosest : Level) (c : Context) (yields : Bool) (one : Class) (r : Result (Unit {0}) Memory)
    (old new : Stacks) → (yields && is_yield one) ≡ false
    → Makes (n.Operation loosest c) (operand_row loosest c one (unary_operator one)) r old new
    → Makes (n.Operation loosest c) (operation_by loosest c yields one) r old new
no_yield_made loosest c true k.Yield r old new e h = absurd (cc)
no_yield_made loosest c true _ r old new e h = h
no_yield_made loosest c false one r old new e h = h

-- operators that stand on the stacks make what those of the grammar make
pub operated_shown : (head : Tree) (operators : List Behind)
    → operated_by head (map shown operators) ≡ applied head operators
operated_shown head [] = refl
operated_shown head (updates operator ∷ more) = operated_shown (t.Postfix (place head) head operator) more
operated_shown head (joins operator right ∷ more) = operated_shown (t.Binary (place head) head operator right) more
operated_shown head (chooses first second ∷ more) = operated_shown (t.Cond (place head) head first second) more
operated_shown head (assigns operator value ∷ more) = operated_shown (t.Assign (place head) head operator value) more

-- ---- operators

pub operator_made : (loosest tightest : Level) (c : Context) (one : Class) (r : Result (Unit {0}) Memory)
    (old new : Stacks) → one ≢ k.Question
    → Makes (n.Rests loosest tightest c)
    (operator_row loosest tightest c one (assign_operator one) (update_operator one) (binary_operator one)) r old new
    → Makes (n.Rests loosest tightest c) (rest_row loosest tightest c one) r old new
operator_made loosest tightest c k.Question r old new differs h = absurd (differs refl)
operator_made loosest tightest c _ r old new differs h = h

-- ---- members and calls

pub tails_end_made : (tailed : Bool) (loosest : Level) (c : Context) (l : Look) (one : Class)
    (r : Result (Unit {0}) Memory) (old new : Stacks) → one ≢ k.Dot → one ≢ k.LeftBracket → one ≢ k.LeftParen
    → one ≢ k.OptionalDot → Makes (n.Tails tailed loosest c) (tails_end tailed loosest c l) r old new
    → Makes (n.Tails tailed loosest c) (tails_by tailed loosest c l one) r old new
tails_end_made tailed loosest c l k.Dot r old new dot bracket paren chain h = absurd (dot refl)
tails_end_made tailed loosest c l k.LeftBracket r old new dot bracket paren chain h = absurd (bracket refl)
tails_end_made tailed loosest c l k.LeftParen r old new dot bracket paren chain h = absurd (paren refl)
tails_end_made tailed loosest c l k.OptionalDot r old new dot bracket paren chain h = absurd (chain refl)
tails_end_made tailed loosest c l k.TemplateWhole (Ok done) old new dot bracket paren chain h = tt
tails_end_made tailed loosest c l k.TemplateWhole (Err memory) old new dot bracket paren chain h = tt
tails_end_made tailed loosest c l k.TemplateHead (Ok done) old new dot bracket paren chain h = tt
tails_end_made tailed loosest c l k.TemplateHead (Err memory) old new dot bracket paren chain h = tt
tails_end_made tailed loosest c l _ r old new dot bracket paren chain h = h

-- Operators without members and calls: those that stand there, and an empty list.
pub untailed_made : (loosest : Level) (c : Context) (row : Row (n.Rests loosest level.Update c))
    (r : Result (Unit {0}) Memory) (old between new : Stacks)
    → Makes (n.Rests loosest level.Update c) row (Ok tt) old between → OnOk r (new ≡ push_list [] between)
    → Makes (n.Tails false loosest c) (without_tails loosest c row) r old new
untailed_made loosest c (goes right make) (Ok done) old between new made h =
    λ parts below e. h ∙ ap (push_list []) (made parts below e)
untailed_made loosest c (refuses cause) (Ok done) old between new made h = tt
untailed_made loosest c (goes right make) (Err memory) old between new made h = tt
untailed_made loosest c (refuses cause) (Err memory) old between new made h = tt
