-- Rows of the grammar: operations (ECMA-262, 13.3 to 13.16), arrows and `yield` (15.3 and 15.5), and the trees that
-- they build.
use Rattle.std.specs.Prelude.{Bool, true, false, not, ◌&&◌, if◌then◌else◌, List, [], ◌∷◌, Option, Some, None}
use Rattle.hz_tree.specs.declared.class.Class.{Class}
use Rattle.hz_tree.specs.declared.class.Class.TheVariants as k
use Rattle.hz_tree.specs.declared.outside.BadKind.TheVariants as bad
use Rattle.hz_tree.specs.declared.outside.OutsideKind.TheVariants as outside
use Rattle.hz_tree.specs.declared.nonterminal.Context.{Context}
use Rattle.hz_tree.specs.declared.nonterminal.Nonterminal.TheVariants as n
use Rattle.hz_tree.specs.declared.operator.AssignOperator.{AssignOperator}
use Rattle.hz_tree.specs.declared.operator.BinaryOperator.{BinaryOperator}
use Rattle.hz_tree.specs.declared.operator.Level.{Level}
use Rattle.hz_tree.specs.declared.operator.Level.TheVariants as level
use Rattle.hz_tree.specs.declared.operator.UnaryOperator.{UnaryOperator}
use Rattle.hz_tree.specs.declared.operator.UpdateOperator.{UpdateOperator}
use Rattle.hz_tree.specs.declared.signal.NodeKind.TheVariants as node
use Rattle.hz_tree.specs.declared.signal.NodeShape.TheVariants as shape
use Rattle.hz_tree.specs.declared.signal.Role.TheVariants as role
use Rattle.hz_tree.specs.declared.signal.Signal.TheVariants as tell
use Rattle.hz_tree.specs.declared.symbol.Symbol.TheVariants.{Take, Read, Tell}
use Rattle.hz_tree.specs.declared.tree.FunctionForm.TheVariants as form
use Rattle.hz_tree.specs.declared.tree.FunctionKind.TheVariants as kind
use Rattle.hz_tree.specs.declared.tree.Tree.{Tree}
use Rattle.hz_tree.specs.declared.tree.Tree.TheVariants as t
use Rattle.hz_tree.specs.trees.Places.{place}
use Rattle.hz_tree.specs.grammar.FunctionRows.{function_tree}
use Rattle.hz_tree.specs.declared.look.Look.{Look}
use Rattle.hz_tree.specs.grammar.Look.{begins_arrow}
use Rattle.hz_tree.specs.grammar.Operators.{assign_operator, binary_operator, unary_operator, update_operator}
use Rattle.hz_tree.specs.grammar.Operators.{level_of, right_of, left_of, left_of_unary, is_between, level_behind}
use Rattle.hz_tree.specs.grammar.Operators.{takes_pattern}
use Rattle.hz_tree.specs.grammar.Classes.{is_in, is_paren}
use Rattle.hz_tree.specs.grammar.Symbols.{Behind, updates, joins, chooses, assigns, AfterHead, goes, refuses}
use Rattle.hz_tree.specs.grammar.Symbols.{Row, assignment, with_in}

-- ---- what the rests of an operation make of its beginning

abbrev pub tailed : Tree → List Tree → Tree
tailed head [] = head
tailed head (first ∷ more) = t.Left (place head) head (first ∷ more)

-- operators of one level group to the left
abbrev pub applied : Tree → List Behind → Tree
applied head [] = head
applied head (updates operator ∷ more) = applied (t.Postfix (place head) head operator) more
applied head (joins operator right ∷ more) = applied (t.Binary (place head) head operator right) more
applied head (chooses first second ∷ more) = applied (t.Cond (place head) head first second) more
applied head (assigns operator value ∷ more) = applied (t.Assign (place head) head operator value) more

abbrev pub operated : Tree → AfterHead → Tree
operated head after = applied (tailed head after.tails) after.operators

-- ---- what stands behind an operand

-- a token that goes on with the operation; `in` is no operator in the head of a `for`
abbrev pub reads_on : (loosest tightest : Level) → Context → (newline : Bool) → Class → Bool
reads_on loosest tightest c newline one =
    not (is_in one && c.no_in) && elim (level_behind newline one)
    [ None ↦ false | Some own ↦ is_between loosest tightest own ]

abbrev pub operator_row : (loosest tightest : Level) → (c : Context) → Class → Option AssignOperator →
    Option UpdateOperator
    → Option BinaryOperator → Row (n.Rests loosest tightest c)
operator_row loosest tightest c one (Some operator) updated joined =
    goes
    (Tell (tell.Target (takes_pattern operator)) ∷ Take one ∷ Read (assignment c) ∷ Tell tell.Join
    ∷ Tell (tell.Node shape.Other) ∷ [])
    (λ (_, (_, (value, _))). assigns operator value ∷ [])
operator_row loosest tightest c one None (Some operator) joined =
    goes
    (Tell (tell.Target false) ∷ Take one ∷ Tell (tell.Node shape.Other) ∷ Read (n.Rests loosest level.Power c) ∷ [])
    (λ (_, (_, (_, (more, _)))). updates operator ∷ more)
operator_row loosest tightest c one None None (Some operator) =
    goes
    (Take one ∷ Read (n.Operation (right_of (level_of operator)) c) ∷ Tell tell.Join ∷ Tell (tell.Node shape.Other)
    ∷ Read (n.Rests loosest (left_of (level_of operator)) c) ∷ [])
    (λ (_, (right, (_, (_, (more, _))))). joins operator right ∷ more)
operator_row loosest tightest c one None None None = goes [] (λ _. [])

-- `in` is an operator between `?` and `:`
abbrev pub rest_row : (loosest tightest : Level) → (c : Context) → Class → Row (n.Rests loosest tightest c)
rest_row loosest tightest c k.Question =
    goes
    (Take k.Question ∷ Read (assignment (with_in c)) ∷ Tell tell.Join ∷ Take k.Colon ∷ Read (assignment c)
    ∷ Tell tell.Join ∷ Tell (tell.Node shape.Other) ∷ Read (n.Rests loosest level.Assignment c) ∷ [])
    (λ (_, (first, (_, (_, (second, (_, (_, (more, _)))))))). chooses first second ∷ more)
rest_row loosest tightest c one =
    operator_row loosest tightest c one (assign_operator one) (update_operator one) (binary_operator one)

abbrev pub rests_row : (loosest tightest : Level) → (c : Context) → Look → Row (n.Rests loosest tightest c)
rests_row loosest tightest c l =
    if reads_on loosest tightest c l.one_newline l.one then rest_row loosest tightest c l.one else goes [] (λ _. [])

-- ---- members and calls

abbrev pub no_tails : List Behind → AfterHead
no_tails operators = record { tails = []; operators = operators }

abbrev pub one_tail : Tree → AfterHead → AfterHead
one_tail first more = record { tails = first ∷ more.tails; operators = more.operators }

-- the same right-hand side, as one without members and calls
abbrev pub without_tails : (loosest : Level) → (c : Context) → Row (n.Rests loosest level.Update c) →
    Row (n.Tails false loosest c)
without_tails loosest c (goes right make) = goes right (λ parts. no_tails (make parts))
without_tails loosest c (refuses cause) = refuses cause

-- Behind the last of several members and calls the operand is one node; without any it is the operand that it was.
abbrev pub tails_end : (tailed : Bool) → (loosest : Level) → (c : Context) → Look → Row (n.Tails tailed loosest c)
tails_end true loosest c l =
    goes (Tell (tell.Node shape.Same) ∷ Read (n.Rests loosest level.Update c) ∷ []) (λ (_, (more, _)). no_tails more)
tails_end false loosest c l = without_tails loosest c (rests_row loosest level.Update c l)

-- a template behind an expression is left out of the language
abbrev pub tails_by : (tailed : Bool) → (loosest : Level) → (c : Context) → Look → Class
    → Row (n.Tails tailed loosest c)
tails_by tailed loosest c l k.Dot =
    goes (Take k.Dot ∷ Read n.Word ∷ Tell tell.Member ∷ Read (n.Tails true loosest c) ∷ [])
    (λ (first, (word, (_, (more, _)))). one_tail (t.Dot first.token.at word.token.text) more)
tails_by tailed loosest c l k.LeftBracket =
    goes
    (Take k.LeftBracket ∷ Read (n.Expr (with_in c)) ∷ Tell tell.Join ∷ Take k.RightBracket ∷ Tell tell.Member
    ∷ Read (n.Tails true loosest c) ∷ [])
    (λ (first, (key, (_, (_, (_, (more, _)))))). one_tail (t.Index first.token.at key) more)
tails_by tailed loosest c l k.LeftParen =
    goes (Read (n.Args c) ∷ Read (n.Tails true loosest c) ∷ []) (λ (args, (more, _)). one_tail args more)
tails_by tailed loosest c l k.OptionalDot =
    goes (Take k.OptionalDot ∷ Read (n.OptionalTail c) ∷ Tell tell.Chain ∷ Read (n.Tails true loosest c) ∷ [])
    (λ (first, (tail, (_, (more, _)))). one_tail (t.Optional first.token.at tail) more)
tails_by tailed loosest c l k.TemplateWhole = refuses (bad.Outside outside.TaggedTemplate)
tails_by tailed loosest c l k.TemplateHead = refuses (bad.Outside outside.TaggedTemplate)
tails_by tailed loosest c l _ = tails_end tailed loosest c l

abbrev pub tails_row : (tailed : Bool) → (loosest : Level) → (c : Context) → Look → Row (n.Tails tailed loosest c)
tails_row tailed loosest c l = tails_by tailed loosest c l l.one

-- ---- operations

abbrev pub arrow_row : (loosest : Level) → (c : Context) → (parenthesised : Bool) → Row (n.Operation loosest c)
arrow_row loosest c true =
    goes
    (Tell (tell.Open node.Operand kind.Arrow) ∷ Tell tell.Enter ∷ Read n.Params ∷ Read n.ArrowSign
    ∷ Read (n.ArrowBody c)
    ∷ Tell tell.Join ∷ Tell tell.Close ∷ Tell (tell.Node shape.Other) ∷ [])
    (λ (opened, (_, (params, (_, (body, (_, (closed, _))))))).
    function_tree opened closed form.Arrow kind.Arrow params body)
arrow_row loosest c false =
    goes
    (Tell (tell.Open node.Operand kind.Arrow) ∷ Tell tell.Enter ∷ Read (n.Bound role.Parameter) ∷ Read n.ArrowSign
    ∷ Read (n.ArrowBody c) ∷ Tell tell.Join ∷ Tell tell.Close ∷ Tell (tell.Node shape.Other) ∷ [])
    (λ (opened, (_, (bound, (_, (body, (_, (closed, _))))))).
    function_tree opened closed form.Arrow kind.Arrow (bound ∷ [], None) body)

abbrev pub operand_row : (loosest : Level) → (c : Context) → Class → Option UnaryOperator → Row (n.Operation loosest c)
operand_row loosest c one (Some operator) =
    goes
    (Tell (tell.Begin node.Operand) ∷ Take one ∷ Read (n.Operation level.Update c) ∷ Tell (tell.Unary operator)
    ∷ Tell tell.Join ∷ Tell (tell.Node shape.Other) ∷ Read (n.Rests loosest (left_of_unary operator) c) ∷ [])
    (λ (begun, (_, (operand, (_, (_, (_, (operators, _))))))). applied (t.Unary begun.at operator operand) operators)
operand_row loosest c one None =
    goes (Read (n.Primary c) ∷ Read (n.Tails false loosest c) ∷ []) (λ (head, (after, _)). operated head after)

-- `yield` is an operator within generators alone; elsewhere no expression begins with it.
abbrev pub operation_by : (loosest : Level) → (c : Context) → (yields : Bool) → Class → Row (n.Operation loosest c)
operation_by loosest c true k.Yield =
    goes
    (Tell (tell.Begin node.Operand) ∷ Take k.Yield ∷ Read (n.YieldValue c) ∷ Tell (tell.Node shape.Other) ∷ [])
    (λ (begun, (_, (value, _))). t.Yield begun.at value.0 value.1)
operation_by loosest c yields one = operand_row loosest c one (unary_operator one)

abbrev pub is_loosest : Level → Bool
is_loosest level.Assignment = true
is_loosest _ = false

abbrev pub operation_row : (loosest : Level) → (c : Context) → Look → Row (n.Operation loosest c)
operation_row loosest c l =
    if is_loosest loosest && begins_arrow l then arrow_row loosest c (is_paren l.one)
    else operation_by loosest c (is_loosest loosest && c.yields) l.one
