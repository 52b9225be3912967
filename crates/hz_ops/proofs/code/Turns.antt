-- No step of code leaves more turns than there were.
use Rattle.std.proofs.Common.{◌≡◌, ◌≤◌, arith, refl, ℕ, zero, suc, ℤ, pos, negsuc, ◌+ℤ◌, Bool, true, false, not}
use Rattle.std.proofs.Common.{List, ◌∷◌, Option, Some, None, nat_lt, if◌then◌else◌}
use Rattle.hz_value.specs.declared.values.Value.{Value}
use Rattle.hz_value.specs.declared.values.Value.TheVariants as value
use Rattle.hz_value.specs.operators.Messages.{IsConstant}
use Rattle.hz_value.specs.operators.Contents.{Content, Boolean, Number, Text}
use Rattle.hz_value.specs.operators.Computed.{Computed, Gives, Throws, Leaves, and_then}
use Rattle.hz_value.specs.operators.Conversions.{to_boolean, to_text}
use Rattle.hz_value.specs.operators.Arithmetic.{add, subtract, multiply, divide, remainder, raise_to, bit_and}
use Rattle.hz_value.specs.operators.Arithmetic.{bit_or, bit_xor, shift_left, shift_right, shift_right_unsigned}
use Rattle.hz_value.specs.operators.Arithmetic.{divide_to_int32, as_number, negate, bit_not, increment, decrement}
use Rattle.hz_value.specs.operators.Comparisons.{less, greater, less_or_equal, greater_or_equal, strictly_equal}
use Rattle.hz_value.specs.operators.Comparisons.{loosely_equal}
use Rattle.hz_value.specs.world.Globals.{Globals, read_global, write_global, declare_global}
use Rattle.hz_value.specs.world.Records.{read_binding}
use Rattle.hz_value.specs.world.Store.{type_name}
use Rattle.hz_value.specs.world.World.{World, content, type_of_global}
use Rattle.hz_value.specs.system.Acts.{Reply, Normal, Thrown, Returned, Call, Return, Next, Does, turned}
use Rattle.hz_value.specs.system.Runs.{world_behind, TakesTurns}
use Rattle.hz_ops.specs.declared.instr.Instr.{Instr}
use Rattle.hz_ops.specs.declared.held.Held.{Held}
use Rattle.hz_ops.specs.declared.held.Held.TheVariants as held
use Rattle.hz_ops.specs.declared.op.Op.{Op}
use Rattle.hz_ops.specs.declared.op.Op.TheVariants as op
use Rattle.hz_ops.specs.declared.op.Operand.{Operand}
use Rattle.hz_ops.specs.declared.op.Operand.TheVariants as operand
use Rattle.hz_ops.specs.code.Activations.{Program, Activation, at}
use Rattle.hz_ops.specs.code.Operands as operands
use Rattle.hz_ops.specs.code.Effects.{tested_to, result_to, lands, branches, passes, jumps, puts, puts_value}
use Rattle.hz_ops.specs.code.Effects.{puts_content, gives, gives_value, changes_globals, compared, raises, throws}
use Rattle.hz_ops.specs.code.Effects.{is_nullish, is_undefined}
use Rattle.hz_ops.specs.code.Rows.{load, unary_row, binary_row, text_row, name_row, branch_row, check_init}
use Rattle.hz_ops.specs.code.Rows.{store_global, jump_is, call, row}
use Rattle.hz_ops.specs.code.Steps.{result_into, replied, instruction_step, code_meaning}

record Takes (w : World) (next : Next Activation) : Type 0 where
  by : (world_behind next).turns ≤ w.turns

-- ---- what follows on tests and results

on_tests : {T : Type 0} (a : Activation) (w : World) (found : Option T) (go : T → Next Activation)
    → ((x : T) → Takes w (go x)) → Takes w (tested_to a w found go)
on_tests a w None go h = record { by = omega arith }
on_tests a w (Some x) go h = h x

on_result : {T : Type 0} (a : Activation) (w : World) (found : Computed T) (go : T → Next Activation)
    → ((x : T) → Takes w (go x)) → Takes w (result_to a w found go)
on_result a w (Gives x) go h = h x
on_result a w (Throws m) go h = record { by = omega arith }
on_result a w (Leaves reason) go h = record { by = omega arith }

module _ (next : ℕ) (a : Activation) (w : World) where
  given : (to : ℕ) (found : Computed Content) → Takes w (gives next a w to found)
  given to found = on_result a w found (puts_content next a w to) (λ c. record { by = omega arith })

  given_value : (to : ℕ) (found : Computed Value) → Takes w (gives_value next a w to found)
  given_value to found = on_result a w found (puts_value next a w to) (λ v. record { by = omega arith })

  changed : (found : Computed Globals) → Takes w (changes_globals next a w found)
  changed found =
      on_result a w found (λ gs. passes next a (record w { globals = gs })) (λ gs. record { by = omega arith })

-- ---- jumps

from_turns : (a : Activation) (w : World) (n : ℕ) → w.turns ≡ n → Takes w (turned a w n)
from_turns a w zero is = record { by = omega arith }
from_turns a w (suc n) is = record { by = omega (arith, is) }

landed : (a : Activation) (w : World) (place : ℕ) (b : Bool)
    → Takes w (if b then passes place a w else turned (at place a) w w.turns)
landed a w place true = record { by = omega arith }
landed a w place false = from_turns (at place a) w w.turns refl

lands_takes : (a : Activation) (w : World) (way : ℤ) → Takes w (lands a w way)
lands_takes a w (pos place) = landed a w place (nat_lt a.place place)
lands_takes a w (negsuc n) = record { by = omega arith }

jumped : (a : Activation) (w : World) (way : ℤ) → Takes w (jumps a w way)
jumped a w way = lands_takes a w (pos a.place +ℤ way)

branched : (b : Bool) (next : ℕ) (a : Activation) (w : World) (way : ℤ) → Takes w (branches b next a w way)
branched true next a w way = jumped a w way
branched false next a w way = record { by = omega arith }

-- ---- rows

module _ (p : Program) (next : ℕ) (a : Activation) (w : World) (os : List Operand) where
  loaded : (h : Held) → Takes w (load h next a w os)
  loaded h =
      on_tests a w (operands.into a.registers os) (λ r. puts next a w r h) (λ r. record { by = omega arith })

  one : (operator : Content → Computed Content) → Takes w (unary_row operator next a w os)
  one operator =
      on_tests a w (operands.from_one a.registers os)
      (λ o. gives next a w o.to (operator (content w o.value)))
      (λ o. given next a w o.to (operator (content w o.value)))

  two : (operator : Content → Content → Computed Content) → Takes w (binary_row operator next a w os)
  two operator =
      on_tests a w (operands.from_two a.registers os)
      (λ o. gives next a w o.to (operator (content w o.left) (content w o.right)))
      (λ o. given next a w o.to (operator (content w o.left) (content w o.right)))

  text_into : (go : ℕ → List ℕ → Next Activation) → ((r : ℕ) (t : List ℕ) → Takes w (go r t))
      → Takes w (text_row go p a w os)
  text_into go h =
      on_tests a w (operands.text_into a.registers os) (λ o. tested_to a w (p.text o.text) (λ t. go o.to t))
      (λ o. on_tests a w (p.text o.text) (λ t. go o.to t) (λ t. h o.to t))

  named : (go : List ℕ → Next Activation) → ((t : List ℕ) → Takes w (go t)) → Takes w (name_row go p a w os)
  named go h =
      on_tests a w (operands.text os) (λ s. tested_to a w (p.text s) go) (λ s. on_tests a w (p.text s) go h)

  branch : (test : Content → Bool) → Takes w (branch_row test next a w os)
  branch test =
      on_tests a w (operands.branch a.registers os) (λ o. branches (test (content w o.value)) next a w o.way)
      (λ o. branched (test (content w o.value)) next a w o.way)

  checked : Takes w (check_init p next a w os)
  checked =
      on_tests a w (operands.named_binding a.registers os)
      (λ o. tested_to a w (p.text o.name)
      (λ name. result_to a w (read_binding name o.binding) (λ v. passes next a w)))
      (λ o. on_tests a w (p.text o.name) (λ name. result_to a w (read_binding name o.binding) (λ v. passes next a w))
      (λ name. on_result a w (read_binding name o.binding) (λ v. passes next a w) (λ v. record { by = omega arith })))

  stored : Takes w (store_global p next a w os)
  stored =
      on_tests a w (operands.text_and_value a.registers os)
      (λ o. tested_to a w (p.text o.text)
      (λ name. changes_globals next a w (write_global w.globals name o.value)))
      (λ o. on_tests a w (p.text o.text) (λ name. changes_globals next a w (write_global w.globals name o.value))
      (λ name. changed next a w (write_global w.globals name o.value)))

  jumped_is : Takes w (jump_is next a w os)
  jumped_is =
      on_tests a w (operands.branch_at a.registers os)
      (λ o. branches (strictly_equal (content w o.value) (Number o.integer)) next a w o.way)
      (λ o. branched (strictly_equal (content w o.value) (Number o.integer)) next a w o.way)

  called : Takes w (call a w os)
  called =
      on_tests a w (operands.call_operands a.registers os)
      (λ o. tested_to a w (operands.values_at a.registers o.first o.count)
      (λ arguments. Does (Call o.callee o.this arguments) a w))
      (λ o. on_tests a w (operands.values_at a.registers o.first o.count)
      (λ arguments. Does (Call o.callee o.this arguments) a w) (λ arguments. record { by = omega arith }))

  row_takes : (o : Op) → Takes w (row p next a w os o)
  row_takes op.LoadUndefined = loaded (held.Value value.Undefined)
  row_takes op.LoadNull = loaded (held.Value value.Null)
  row_takes op.LoadTrue = loaded (held.Value (value.Bool true))
  row_takes op.LoadFalse = loaded (held.Value (value.Bool false))
  row_takes op.LoadEmpty = loaded held.Empty
  row_takes op.LoadInt =
      on_tests a w (operands.integer_into a.registers os) (λ o. puts_value next a w o.to (value.Num o.integer))
      (λ o. record { by = omega arith })
  row_takes op.LoadString = text_into (λ r t. puts_content next a w r (Text t)) (λ r t. record { by = omega arith })
  row_takes op.Move =
      on_tests a w (operands.held_into a.registers os) (λ o. puts next a w o.to o.held)
      (λ o. record { by = omega arith })
  row_takes op.CheckInit = checked
  row_takes op.ThrowConst = named (λ name. raises a w (IsConstant name)) (λ name. record { by = omega arith })
  row_takes op.LoadGlobal =
      text_into (λ r name. gives_value next a w r (read_global w.globals name))
      (λ r name. given_value next a w r (read_global w.globals name))
  row_takes op.TypeofGlobal =
      text_into (λ r name. gives next a w r (and_then (type_of_global w name) (λ t. Gives (Text t))))
      (λ r name. given next a w r (and_then (type_of_global w name) (λ t. Gives (Text t))))
  row_takes op.StoreGlobal = stored
  row_takes op.DeclareGlobal =
      named (λ name. passes next a (record w { globals = declare_global name w.globals }))
      (λ name. record { by = omega arith })
  row_takes op.Add = two add
  row_takes op.Sub = two subtract
  row_takes op.Mul = two multiply
  row_takes op.Div = two divide
  row_takes op.Rem = two remainder
  row_takes op.Pow = two raise_to
  row_takes op.And = two bit_and
  row_takes op.Or = two bit_or
  row_takes op.Xor = two bit_xor
  row_takes op.Shl = two shift_left
  row_takes op.Sar = two shift_right
  row_takes op.Shr = two shift_right_unsigned
  row_takes op.Quot = two divide_to_int32
  row_takes op.Neg = one negate
  row_takes op.BitNot = one bit_not
  row_takes op.Not = one (λ u. Gives (Boolean (not (to_boolean u))))
  row_takes op.ToNumber = one as_number
  row_takes op.Typeof =
      on_tests a w (operands.from_one a.registers os)
      (λ o. puts_content next a w o.to (Text (type_name w.store o.value))) (λ o. record { by = omega arith })
  row_takes op.Inc = one increment
  row_takes op.Dec = one decrement
  row_takes op.ToText = one (λ u. and_then (to_text u) (λ t. Gives (Text t)))
  row_takes op.Equal = two (compared loosely_equal)
  row_takes op.StrictEqual = two (λ u v. Gives (Boolean (strictly_equal u v)))
  row_takes op.Less = two (compared less)
  row_takes op.LessEqual = two (compared less_or_equal)
  row_takes op.Greater = two (compared greater)
  row_takes op.GreaterEqual = two (compared greater_or_equal)
  row_takes op.Jump = on_tests a w (operands.way os) (jumps a w) (jumped a w)
  row_takes op.JumpTrue = branch to_boolean
  row_takes op.JumpFalse = branch (λ u. not (to_boolean u))
  row_takes op.JumpNullish = branch is_nullish
  row_takes op.JumpUndefined = branch is_undefined
  row_takes op.JumpIs = jumped_is
  row_takes op.Return =
      on_tests a w (operands.value a.registers os) (λ v. Does (Return v) a w) (λ v. record { by = omega arith })
  row_takes op.Throw =
      on_tests a w (operands.value a.registers os) (throws a w) (λ v. record { by = omega arith })
  row_takes op.Call = called

-- ---- a step

result_takes : (next : ℕ) (a : Activation) (w : World) (v : Value) (os : List Operand)
    → Takes w (result_into next a w v os)
result_takes next a w v (operand.Register r ∷ os) =
    on_tests a w (operands.register a.registers r) (λ to. puts_value next a w to v) (λ to. record { by = omega arith })
result_takes next a w v os = record { by = omega arith }

replied_takes : (a : Activation) (w : World) (i : Instr × ℕ) (c : Reply) → Takes w (replied a w i c)
replied_takes a w i (Normal v) = result_takes _ a w v i.0.args.items
replied_takes a w i (Thrown v) = record { by = omega arith }
replied_takes a w i (Returned v) = record { by = omega arith }

instruction_takes : (p : Program) (a : Activation) (w : World) (i : Instr × ℕ) (c : Option Reply)
    → Takes w (instruction_step p a w i c)
instruction_takes p a w i None = row_takes p _ a w i.0.args.items i.0.op
instruction_takes p a w i (Some c) = replied_takes a w i c

pub takes_turns : (p : Program) → TakesTurns (code_meaning p)
takes_turns p = record {
  by = λ a w.
      (on_tests a w (p.fetch a.function a.place) (λ i. instruction_step p a w i a.reply)
      (λ i. instruction_takes p a w i a.reply)).by;
}
