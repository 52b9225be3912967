-- The meaning of an instruction: a row for each operation, with the tests of its operands and what it does.
use Rattle.std.specs.Prelude.{ℕ, Bool, true, false, not, List}
use Rattle.hz_value.specs.declared.values.Value.TheVariants as value
use Rattle.hz_value.specs.operators.Messages.{IsConstant}
use Rattle.hz_value.specs.operators.Contents.{Content, Boolean, Number, Text}
use Rattle.hz_value.specs.operators.Computed.{Computed, Gives, and_then}
use Rattle.hz_value.specs.operators.Conversions.{to_boolean, to_text}
use Rattle.hz_value.specs.operators.Arithmetic.{add, subtract, multiply, divide, remainder, raise_to, bit_and}
use Rattle.hz_value.specs.operators.Arithmetic.{bit_or, bit_xor, shift_left, shift_right, shift_right_unsigned}
use Rattle.hz_value.specs.operators.Arithmetic.{divide_to_int32, as_number, negate, bit_not, increment, decrement}
use Rattle.hz_value.specs.operators.Comparisons.{less, greater, less_or_equal, greater_or_equal, strictly_equal}
use Rattle.hz_value.specs.operators.Comparisons.{loosely_equal}
use Rattle.hz_value.specs.world.Globals.{read_global, write_global, declare_global}
use Rattle.hz_value.specs.world.Records.{read_binding}
use Rattle.hz_value.specs.world.Store.{type_name}
use Rattle.hz_value.specs.world.World.{World, content, type_of_global}
use Rattle.hz_value.specs.system.Acts.{Next, Does, Call, Return}
use Rattle.hz_ops.specs.declared.held.Held.{Held}
use Rattle.hz_ops.specs.declared.held.Held.TheVariants as held
use Rattle.hz_ops.specs.declared.op.Op.{Op}
use Rattle.hz_ops.specs.declared.op.Op.TheVariants as op
use Rattle.hz_ops.specs.declared.op.Operand.{Operand}
use Rattle.hz_ops.specs.code.Activations.{Program, Activation}
use Rattle.hz_ops.specs.code.Operands as tested
use Rattle.hz_ops.specs.code.Effects.{tested_to, raises, throws, passes, puts, puts_value, puts_content, result_to}
use Rattle.hz_ops.specs.code.Effects.{gives, gives_value, compared, changes_globals, jumps, branches}
use Rattle.hz_ops.specs.code.Effects.{is_nullish, is_undefined}

-- ---- rows of one shape

-- a register gets a constant
abbrev pub load : Held → ℕ → Activation → World → List Operand → Next Activation
load h next a w os = tested_to a w (tested.into a.registers os) (λ r. puts next a w r h)

abbrev pub unary_row : (Content → Computed Content) → ℕ → Activation → World → List Operand → Next Activation
unary_row operator next a w os =
    tested_to a w (tested.from_one a.registers os) (λ o. gives next a w o.to (operator (content w o.value)))

abbrev pub binary_row : (Content → Content → Computed Content) → ℕ → Activation → World → List Operand →
    Next Activation
binary_row operator next a w os =
    tested_to a w (tested.from_two a.registers os)
    (λ o. gives next a w o.to (operator (content w o.left) (content w o.right)))

-- a register gets what comes of a text
abbrev pub text_row : (ℕ → List ℕ → Next Activation) → Program → Activation → World → List Operand → Next Activation
text_row go p a w os =
    tested_to a w (tested.text_into a.registers os) (λ o. tested_to a w (p.text o.text) (λ t. go o.to t))

-- what is done with a text
abbrev pub name_row : (List ℕ → Next Activation) → Program → Activation → World → List Operand → Next Activation
name_row go p a w os = tested_to a w (tested.text os) (λ s. tested_to a w (p.text s) go)

-- a jump where a value is so
abbrev pub branch_row : (Content → Bool) → ℕ → Activation → World → List Operand → Next Activation
branch_row test next a w os =
    tested_to a w (tested.branch a.registers os) (λ o. branches (test (content w o.value)) next a w o.way)

-- ---- rows of their own

abbrev pub check_init : Program → ℕ → Activation → World → List Operand → Next Activation
check_init p next a w os =
    tested_to a w (tested.named_binding a.registers os)
    (λ o. tested_to a w (p.text o.name)
    (λ name. result_to a w (read_binding name o.binding) (λ v. passes next a w)))

abbrev pub store_global : Program → ℕ → Activation → World → List Operand → Next Activation
store_global p next a w os =
    tested_to a w (tested.text_and_value a.registers os)
    (λ o. tested_to a w (p.text o.text)
    (λ name. changes_globals next a w (write_global w.globals name o.value)))

abbrev pub jump_is : ℕ → Activation → World → List Operand → Next Activation
jump_is next a w os =
    tested_to a w (tested.branch_at a.registers os)
    (λ o. branches (strictly_equal (content w o.value) (Number o.integer)) next a w o.way)

abbrev pub call : Activation → World → List Operand → Next Activation
call a w os =
    tested_to a w (tested.call_operands a.registers os)
    (λ o. tested_to a w (tested.values_at a.registers o.first o.count)
    (λ arguments. Does (Call o.callee o.this arguments) a w))

-- ---- all rows

-- the row of this operation on these operands, where `next` is the place behind its instruction
abbrev pub row : Program → ℕ → Activation → World → List Operand → Op → Next Activation
row p next a w os op.LoadUndefined = load (held.Value value.Undefined) next a w os
row p next a w os op.LoadNull = load (held.Value value.Null) next a w os
row p next a w os op.LoadTrue = load (held.Value (value.Bool true)) next a w os
row p next a w os op.LoadFalse = load (held.Value (value.Bool false)) next a w os
row p next a w os op.LoadEmpty = load held.Empty next a w os
row p next a w os op.LoadInt =
    tested_to a w (tested.integer_into a.registers os) (λ o. puts_value next a w o.to (value.Num o.integer))
row p next a w os op.LoadString = text_row (λ r t. puts_content next a w r (Text t)) p a w os
row p next a w os op.Move = tested_to a w (tested.held_into a.registers os) (λ o. puts next a w o.to o.held)
-- names
row p next a w os op.CheckInit = check_init p next a w os
row p next a w os op.ThrowConst = name_row (λ name. raises a w (IsConstant name)) p a w os
row p next a w os op.LoadGlobal = text_row (λ r name. gives_value next a w r (read_global w.globals name)) p a w os
row p next a w os op.TypeofGlobal =
    text_row (λ r name. gives next a w r (and_then (type_of_global w name) (λ t. Gives (Text t)))) p a w os
row p next a w os op.StoreGlobal = store_global p next a w os
row p next a w os op.DeclareGlobal =
    name_row (λ name. passes next a (record w { globals = declare_global name w.globals })) p a w os
-- operators on two values
row p next a w os op.Add = binary_row add next a w os
row p next a w os op.Sub = binary_row subtract next a w os
row p next a w os op.Mul = binary_row multiply next a w os
row p next a w os op.Div = binary_row divide next a w os
row p next a w os op.Rem = binary_row remainder next a w os
row p next a w os op.Pow = binary_row raise_to next a w os
row p next a w os op.And = binary_row bit_and next a w os
row p next a w os op.Or = binary_row bit_or next a w os
row p next a w os op.Xor = binary_row bit_xor next a w os
row p next a w os op.Shl = binary_row shift_left next a w os
row p next a w os op.Sar = binary_row shift_right next a w os
row p next a w os op.Shr = binary_row shift_right_unsigned next a w os
row p next a w os op.Quot = binary_row divide_to_int32 next a w os
-- operators and conversions of one value
row p next a w os op.Neg = unary_row negate next a w os
row p next a w os op.BitNot = unary_row bit_not next a w os
row p next a w os op.Not = unary_row (λ u. Gives (Boolean (not (to_boolean u)))) next a w os
row p next a w os op.ToNumber = unary_row as_number next a w os
row p next a w os op.Typeof =
    tested_to a w (tested.from_one a.registers os) (λ o. puts_content next a w o.to (Text (type_name w.store o.value)))
row p next a w os op.Inc = unary_row increment next a w os
row p next a w os op.Dec = unary_row decrement next a w os
row p next a w os op.ToText = unary_row (λ u. and_then (to_text u) (λ t. Gives (Text t))) next a w os
-- comparisons
row p next a w os op.Equal = binary_row (compared loosely_equal) next a w os
row p next a w os op.StrictEqual = binary_row (λ u v. Gives (Boolean (strictly_equal u v))) next a w os
row p next a w os op.Less = binary_row (compared less) next a w os
row p next a w os op.LessEqual = binary_row (compared less_or_equal) next a w os
row p next a w os op.Greater = binary_row (compared greater) next a w os
row p next a w os op.GreaterEqual = binary_row (compared greater_or_equal) next a w os
-- jumps
row p next a w os op.Jump = tested_to a w (tested.way os) (jumps a w)
row p next a w os op.JumpTrue = branch_row to_boolean next a w os
row p next a w os op.JumpFalse = branch_row (λ u. not (to_boolean u)) next a w os
row p next a w os op.JumpNullish = branch_row is_nullish next a w os
row p next a w os op.JumpUndefined = branch_row is_undefined next a w os
row p next a w os op.JumpIs = jump_is next a w os
-- ways out
row p next a w os op.Return = tested_to a w (tested.value a.registers os) (λ v. Does (Return v) a w)
row p next a w os op.Throw = tested_to a w (tested.value a.registers os) (throws a w)
row p next a w os op.Call = call a w os
