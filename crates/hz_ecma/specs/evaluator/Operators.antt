-- Operators on the contents of operands.
use Rattle.std.specs.Prelude.{ℕ, Bool, true, false, not, ◌==◌, if◌then◌else◌, List, Option, Some, None}
use Rattle.hz_tree.specs.declared.operator.AssignOperator.{AssignOperator}
use Rattle.hz_tree.specs.declared.operator.AssignOperator.TheVariants as assign
use Rattle.hz_tree.specs.declared.operator.BinaryOperator.{BinaryOperator}
use Rattle.hz_tree.specs.declared.operator.BinaryOperator.TheVariants as binary
use Rattle.hz_tree.specs.declared.operator.UnaryOperator.{UnaryOperator}
use Rattle.hz_tree.specs.declared.operator.UnaryOperator.TheVariants as unary
use Rattle.hz_tree.specs.declared.operator.UpdateOperator.{UpdateOperator}
use Rattle.hz_tree.specs.declared.operator.UpdateOperator.TheVariants as update
use Rattle.hz_tree.specs.declared.tree.Tree.{Tree, out-Tree}
use Rattle.hz_tree.specs.declared.tree.Tree.TheOpen.{Tree-F}
use Rattle.hz_value.specs.declared.leaving.Left.TheVariants as left
use Rattle.hz_value.specs.operators.Contents.{Content, Undefined, Null, Boolean, Text}
use Rattle.hz_value.specs.operators.Computed.{Computed, Gives, Leaves, and_then}
use Rattle.hz_value.specs.operators.Conversions.{to_boolean}
use Rattle.hz_value.specs.operators.Arithmetic.{add, subtract, multiply, divide, remainder, raise_to, bit_and}
use Rattle.hz_value.specs.operators.Arithmetic.{bit_or, bit_xor, shift_left, shift_right, shift_right_unsigned}
use Rattle.hz_value.specs.operators.Arithmetic.{divide_to_int32, as_number, negate, bit_not, increment, decrement}
use Rattle.hz_value.specs.operators.Comparisons.{less, greater, less_or_equal, greater_or_equal, strictly_equal}
use Rattle.hz_value.specs.operators.Comparisons.{loosely_equal}
use Rattle.hz_ecma.specs.evaluator.Activations.{Operation, Plain, FusedQuotient}

-- ---- between two operands

abbrev pub as_boolean : Computed Bool → Computed Content
as_boolean found = and_then found (λ b. Gives (Boolean b))

abbrev pub is_nullish : Content → Bool
is_nullish Undefined = true
is_nullish Null = true
is_nullish u = false

-- whether the left operand is the result, so that the right one is not evaluated (13.13)
abbrev pub decides : BinaryOperator → Content → Bool
decides binary.AndAnd u = not (to_boolean u)
decides binary.OrOr u = to_boolean u
decides binary.Nullish u = not (is_nullish u)
decides operator u = false

-- EvaluateStringOrNumericBinaryExpression (13.15.4), 13.10, 13.11, and the right operand of 13.13
abbrev pub binary_result : BinaryOperator → Content → Content → Computed Content
binary_result binary.Nullish u v = Gives v
binary_result binary.OrOr u v = Gives v
binary_result binary.AndAnd u v = Gives v
binary_result binary.Or u v = bit_or u v
binary_result binary.Xor u v = bit_xor u v
binary_result binary.And u v = bit_and u v
binary_result binary.Equal u v = as_boolean (loosely_equal u v)
binary_result binary.NotEqual u v = as_boolean (and_then (loosely_equal u v) (λ b. Gives (not b)))
binary_result binary.StrictEqual u v = Gives (Boolean (strictly_equal u v))
binary_result binary.StrictNotEqual u v = Gives (Boolean (not (strictly_equal u v)))
binary_result binary.Less u v = as_boolean (less u v)
binary_result binary.Greater u v = as_boolean (greater u v)
binary_result binary.LessEqual u v = as_boolean (less_or_equal u v)
binary_result binary.GreaterEqual u v = as_boolean (greater_or_equal u v)
binary_result binary.In u v = Leaves left.NotBuilt
binary_result binary.InstanceOf u v = Leaves left.NotBuilt
binary_result binary.ShiftLeft u v = shift_left u v
binary_result binary.ShiftRight u v = shift_right u v
binary_result binary.ShiftRightZero u v = shift_right_unsigned u v
binary_result binary.Add u v = add u v
binary_result binary.Subtract u v = subtract u v
binary_result binary.Multiply u v = multiply u v
binary_result binary.Divide u v = divide u v
binary_result binary.Remainder u v = remainder u v
binary_result binary.Power u v = raise_to u v

abbrev pub is_decided : Operation → Content → Bool
is_decided (Plain operator) u = decides operator u
is_decided FusedQuotient u = false

abbrev pub result_of : Operation → Content → Content → Computed Content
result_of (Plain operator) u v = binary_result operator u v
result_of FusedQuotient u v = divide_to_int32 u v

-- the operator of an assignment, which is none for `=` (13.15.2)
abbrev pub assigning : AssignOperator → BinaryOperator
assigning assign.Assign = binary.Nullish
assigning assign.Add = binary.Add
assigning assign.Subtract = binary.Subtract
assigning assign.Multiply = binary.Multiply
assigning assign.Divide = binary.Divide
assigning assign.Remainder = binary.Remainder
assigning assign.Power = binary.Power
assigning assign.ShiftLeft = binary.ShiftLeft
assigning assign.ShiftRight = binary.ShiftRight
assigning assign.ShiftRightZero = binary.ShiftRightZero
assigning assign.And = binary.And
assigning assign.Or = binary.Or
assigning assign.Xor = binary.Xor
assigning assign.AndAnd = binary.AndAnd
assigning assign.OrOr = binary.OrOr
assigning assign.Nullish = binary.Nullish

-- ---- before or behind an operand

-- 13.5, where `type` is the name of the operand's type in UTF-16 units. What `delete`, `++` and `--` have for an
-- operand is no value
abbrev pub unary_result : UnaryOperator → List ℕ → Content → Computed Content
unary_result unary.Void type u = Gives Undefined
unary_result unary.TypeOf type u = Gives (Text type)
unary_result unary.Plus type u = as_number u
unary_result unary.Minus type u = negate u
unary_result unary.Tilde type u = bit_not u
unary_result unary.Not type u = Gives (Boolean (not (to_boolean u)))
unary_result operator type u = Leaves left.NotBuilt

abbrev pub updated : UpdateOperator → Content → Computed Content
updated update.Increment u = increment u
updated update.Decrement u = decrement u

-- ---- `(a / b) | 0`

abbrev pub in_parentheses : Tree-F Tree → Option Tree
in_parentheses (Tree-F.Parentheses at inner) = Some inner
in_parentheses layer = None

abbrev pub is_zero_literal : Tree-F Tree → Bool
is_zero_literal (Tree-F.Number at value) = value == 0
is_zero_literal layer = false

-- what stands in parentheses before `| 0`
abbrev pub enclosed : BinaryOperator → Tree → Tree → Option Tree
enclosed binary.Or left right =
    if is_zero_literal (out-Tree right) then in_parentheses (out-Tree left) else None
enclosed operator left right = None
