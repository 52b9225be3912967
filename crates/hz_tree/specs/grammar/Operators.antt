-- Operators, and how tightly they bind (ECMA-262, 13.3 to 13.15).
use Rattle.std.specs.Prelude.{ℕ, Bool, true, false, not, ◌&&◌, nat_le, Option, Some, None}
use Rattle.hz_tree.specs.declared.class.Class.{Class}
use Rattle.hz_tree.specs.declared.class.Class.TheVariants as k
use Rattle.hz_tree.specs.declared.operator.AssignOperator.{AssignOperator}
use Rattle.hz_tree.specs.declared.operator.AssignOperator.TheVariants as assign
use Rattle.hz_tree.specs.declared.operator.BinaryOperator.{BinaryOperator}
use Rattle.hz_tree.specs.declared.operator.BinaryOperator.TheVariants as binary
use Rattle.hz_tree.specs.declared.operator.Level.{Level}
use Rattle.hz_tree.specs.declared.operator.Level.TheVariants as level
use Rattle.hz_tree.specs.declared.operator.UnaryOperator.{UnaryOperator}
use Rattle.hz_tree.specs.declared.operator.UnaryOperator.TheVariants as unary
use Rattle.hz_tree.specs.declared.operator.UpdateOperator.{UpdateOperator}
use Rattle.hz_tree.specs.declared.operator.UpdateOperator.TheVariants as update

-- ---- the operator that a token is

abbrev pub assign_operator : Class → Option AssignOperator
assign_operator k.Assign = Some assign.Assign
assign_operator k.PlusAssign = Some assign.Add
assign_operator k.MinusAssign = Some assign.Subtract
assign_operator k.StarAssign = Some assign.Multiply
assign_operator k.SlashAssign = Some assign.Divide
assign_operator k.PercentAssign = Some assign.Remainder
assign_operator k.StarStarAssign = Some assign.Power
assign_operator k.ShiftLeftAssign = Some assign.ShiftLeft
assign_operator k.ShiftRightAssign = Some assign.ShiftRight
assign_operator k.ShiftRightZeroAssign = Some assign.ShiftRightZero
assign_operator k.AndAssign = Some assign.And
assign_operator k.OrAssign = Some assign.Or
assign_operator k.XorAssign = Some assign.Xor
assign_operator k.AndAndAssign = Some assign.AndAnd
assign_operator k.OrOrAssign = Some assign.OrOr
assign_operator k.NullishAssign = Some assign.Nullish
assign_operator _ = None

-- A pattern could stand before `=` alone.
abbrev pub takes_pattern : AssignOperator → Bool
takes_pattern assign.Assign = true
takes_pattern _ = false

-- between two operands
abbrev pub binary_operator : Class → Option BinaryOperator
binary_operator k.Nullish = Some binary.Nullish
binary_operator k.OrOr = Some binary.OrOr
binary_operator k.AndAnd = Some binary.AndAnd
binary_operator k.Or = Some binary.Or
binary_operator k.Xor = Some binary.Xor
binary_operator k.And = Some binary.And
binary_operator k.Equal = Some binary.Equal
binary_operator k.NotEqual = Some binary.NotEqual
binary_operator k.StrictEqual = Some binary.StrictEqual
binary_operator k.StrictNotEqual = Some binary.StrictNotEqual
binary_operator k.Less = Some binary.Less
binary_operator k.Greater = Some binary.Greater
binary_operator k.LessEqual = Some binary.LessEqual
binary_operator k.GreaterEqual = Some binary.GreaterEqual
binary_operator k.In = Some binary.In
binary_operator k.InstanceOf = Some binary.InstanceOf
binary_operator k.ShiftLeft = Some binary.ShiftLeft
binary_operator k.ShiftRight = Some binary.ShiftRight
binary_operator k.ShiftRightZero = Some binary.ShiftRightZero
binary_operator k.Plus = Some binary.Add
binary_operator k.Minus = Some binary.Subtract
binary_operator k.Star = Some binary.Multiply
binary_operator k.Slash = Some binary.Divide
binary_operator k.Percent = Some binary.Remainder
binary_operator k.StarStar = Some binary.Power
binary_operator _ = None

-- before an operand
abbrev pub unary_operator : Class → Option UnaryOperator
unary_operator k.Delete = Some unary.Delete
unary_operator k.Void = Some unary.Void
unary_operator k.TypeOf = Some unary.TypeOf
unary_operator k.Plus = Some unary.Plus
unary_operator k.Minus = Some unary.Minus
unary_operator k.Tilde = Some unary.Tilde
unary_operator k.Not = Some unary.Not
unary_operator k.PlusPlus = Some unary.Increment
unary_operator k.MinusMinus = Some unary.Decrement
unary_operator _ = None

-- behind an operand
abbrev pub update_operator : Class → Option UpdateOperator
update_operator k.PlusPlus = Some update.Increment
update_operator k.MinusMinus = Some update.Decrement
update_operator _ = None

-- ---- levels

abbrev pub level_of : BinaryOperator → Level
level_of binary.Nullish = level.Nullish
level_of binary.OrOr = level.OrOr
level_of binary.AndAnd = level.AndAnd
level_of binary.Or = level.Or
level_of binary.Xor = level.Xor
level_of binary.And = level.And
level_of binary.Equal = level.Equality
level_of binary.NotEqual = level.Equality
level_of binary.StrictEqual = level.Equality
level_of binary.StrictNotEqual = level.Equality
level_of binary.Less = level.Relation
level_of binary.Greater = level.Relation
level_of binary.LessEqual = level.Relation
level_of binary.GreaterEqual = level.Relation
level_of binary.In = level.Relation
level_of binary.InstanceOf = level.Relation
level_of binary.ShiftLeft = level.Shift
level_of binary.ShiftRight = level.Shift
level_of binary.ShiftRightZero = level.Shift
level_of binary.Add = level.Sum
level_of binary.Subtract = level.Sum
level_of binary.Multiply = level.Product
level_of binary.Divide = level.Product
level_of binary.Remainder = level.Product
level_of binary.Power = level.Power

-- their order
abbrev pub tightness : Level → ℕ
tightness level.Assignment = 0
tightness level.Conditional = 1
tightness level.Nullish = 2
tightness level.OrOr = 3
tightness level.AndAnd = 4
tightness level.Or = 5
tightness level.Xor = 6
tightness level.And = 7
tightness level.Equality = 8
tightness level.Relation = 9
tightness level.Shift = 10
tightness level.Sum = 11
tightness level.Product = 12
tightness level.Power = 13
tightness level.Update = 14
tightness level.Member = 15

-- The loosest operator in the right operand of an operator of this level. Operators of a level group to the left, but
-- `**` groups to the right. The operands of `??` are those of `|`.
abbrev pub right_of : Level → Level
right_of level.Nullish = level.Or
right_of level.OrOr = level.AndAnd
right_of level.AndAnd = level.Or
right_of level.Or = level.Xor
right_of level.Xor = level.And
right_of level.And = level.Equality
right_of level.Equality = level.Relation
right_of level.Relation = level.Shift
right_of level.Shift = level.Sum
right_of level.Sum = level.Product
right_of level.Product = level.Power
right_of own = own

-- The tightest operator of which the left operand can be an operation of this level.
abbrev pub left_of : Level → Level
left_of level.Power = level.Product
left_of own = own

-- The same of an operation with this operator before it: `**` stands behind `++` and `--` with their operand alone.
abbrev pub left_of_unary : UnaryOperator → Level
left_of_unary unary.Increment = level.Power
left_of_unary unary.Decrement = level.Power
left_of_unary _ = level.Product

-- `??` stands beside `||` or `&&` in parentheses alone.
abbrev pub is_mixed : (own tightest : Level) → Bool
is_mixed level.Nullish level.OrOr = true
is_mixed level.Nullish level.AndAnd = true
is_mixed own tightest = false

-- from the loosest to the tightest
abbrev pub is_between : (loosest tightest own : Level) → Bool
is_between loosest tightest own =
    nat_le (tightness loosest) (tightness own)
    && (nat_le (tightness own) (tightness tightest) && not (is_mixed own tightest))

-- ---- what goes on with an expression behind an operand

abbrev pub level_by : Option AssignOperator → Option UpdateOperator → Option BinaryOperator → (newline : Bool) →
    Option Level
level_by (Some _) _ _ newline = Some level.Assignment
level_by None (Some _) _ true = None
level_by None (Some _) _ false = Some level.Update
level_by None None (Some joined) newline = Some (level_of joined)
level_by None None None newline = None

-- `newline` tells that a line ends before the token: `++` and `--` stand on the line of their operand.
abbrev pub level_behind : (newline : Bool) → Class → Option Level
level_behind newline k.Dot = Some level.Member
level_behind newline k.LeftBracket = Some level.Member
level_behind newline k.LeftParen = Some level.Member
level_behind newline k.OptionalDot = Some level.Member
level_behind newline k.TemplateWhole = Some level.Member
level_behind newline k.TemplateHead = Some level.Member
level_behind newline k.Question = Some level.Conditional
level_behind newline one = level_by (assign_operator one) (update_operator one) (binary_operator one) newline
