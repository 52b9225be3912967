-- The operands of an instruction: their shapes, and the tests that come before everything else that a row does.
--
-- Each function here gives what the operands stand for, or None, which is bad code: other operands than those of the
-- shape, a register that is not there, an integer that is not safe, and a register that holds something else than the
-- row asks for.
use Rattle.std.specs.Prelude.{ℕ, ◌+◌, ℤ, nat_le, if◌then◌else◌, List, [], ◌∷◌, length, take, drop, slice_get}
use Rattle.std.specs.Prelude.{Option, Some, None, option_map}
use Rattle.std.specs.Option.{option_and_then}
use Rattle.hz_value.specs.declared.values.Value.{Value}
use Rattle.hz_value.specs.Numbers.{safe}
use Rattle.hz_value.specs.world.Records.{Binding}
use Rattle.hz_ops.specs.declared.held.Held.{Held}
use Rattle.hz_ops.specs.declared.held.Held.TheVariants as held
use Rattle.hz_ops.specs.declared.op.Operand.{Operand}
use Rattle.hz_ops.specs.declared.op.Operand.TheVariants.{Register, Text, Int, Jump, Count}
use Rattle.hz_ops.specs.declared.tested.IntegerInto.{IntegerInto}
use Rattle.hz_ops.specs.declared.tested.TextInto.{TextInto}
use Rattle.hz_ops.specs.declared.tested.HeldInto.{HeldInto}
use Rattle.hz_ops.specs.declared.tested.FromOne.{FromOne}
use Rattle.hz_ops.specs.declared.tested.FromTwo.{FromTwo}
use Rattle.hz_ops.specs.declared.tested.TextAndValue.{TextAndValue}
use Rattle.hz_ops.specs.declared.tested.NamedBinding.{NamedBinding}
use Rattle.hz_ops.specs.declared.tested.Branching.{Branching}
use Rattle.hz_ops.specs.declared.tested.BranchAt.{BranchAt}
use Rattle.hz_ops.specs.declared.tested.CallOperands.{CallOperands}

-- ---- one operand

-- what the register holds, whatever it is
abbrev pub held_at : List Held → ℕ → Option Held
held_at registers r = slice_get registers r

-- the register itself
abbrev pub register : List Held → ℕ → Option ℕ
register registers r = option_map (λ h. r) (held_at registers r)

abbrev pub value_in : Held → Option Value
value_in (held.Value v) = Some v
value_in h = None

-- the value that it holds
abbrev pub value_at : List Held → ℕ → Option Value
value_at registers r = option_and_then value_in (held_at registers r)

abbrev pub binding_in : Held → Option Binding
binding_in (held.Value v) = Some (Some v)
binding_in held.Empty = Some None
binding_in h = None

-- a value, or the empty mark of a binding that is not initialised
abbrev pub binding_at : List Held → ℕ → Option Binding
binding_at registers r = option_and_then binding_in (held_at registers r)

-- the values in a row of registers, where each of them holds one
abbrev pub values_in : List Held → Option (List Value)
values_in [] = Some []
values_in (h ∷ hs) = option_and_then (λ v. option_map (λ vs. v ∷ vs) (values_in hs)) (value_in h)

-- the values in n registers from the first on
abbrev pub values_at : List Held → ℕ → ℕ → Option (List Value)
values_at registers first n =
    if nat_le (first + n) (length registers) then values_in (take n (drop first registers)) else None

-- ---- the operands of a row; `to` is a register that is written

abbrev pub into : List Held → List Operand → Option ℕ
into hs (Register r ∷ []) = register hs r
into hs os = None

abbrev pub integer_into : List Held → List Operand → Option IntegerInto
integer_into hs (Register r ∷ Int z ∷ []) =
    option_and_then (λ to. option_map (λ i. record { to = to; integer = i }) (safe z)) (register hs r)
integer_into hs os = None

abbrev pub text_into : List Held → List Operand → Option TextInto
text_into hs (Register r ∷ Text s ∷ []) = option_map (λ to. record { to = to; text = s }) (register hs r)
text_into hs os = None

abbrev pub held_into : List Held → List Operand → Option HeldInto
held_into hs (Register r ∷ Register x ∷ []) =
    option_and_then (λ to. option_map (λ h. record { to = to; held = h }) (held_at hs x)) (register hs r)
held_into hs os = None

abbrev pub from_one : List Held → List Operand → Option FromOne
from_one hs (Register r ∷ Register x ∷ []) =
    option_and_then (λ to. option_map (λ u. record { to = to; value = u }) (value_at hs x)) (register hs r)
from_one hs os = None

abbrev pub from_two : List Held → List Operand → Option FromTwo
from_two hs (Register r ∷ Register x ∷ Register y ∷ []) =
    option_and_then
    (λ to. option_and_then
    (λ u. option_map (λ v. record { to = to; left = u; right = v }) (value_at hs y))
    (value_at hs x)) (register hs r)
from_two hs os = None

-- the first of the arguments is there also where there is none
abbrev pub call_operands : List Held → List Operand → Option CallOperands
call_operands hs (Register r ∷ Register callee ∷ Register this ∷ Register first ∷ Count n ∷ []) =
    option_and_then
    (λ to. option_and_then
    (λ f. option_and_then
    (λ t. option_map
    (λ i. record { to = to; callee = f; this = t; first = i; count = n })
    (register hs first)) (value_at hs this)) (value_at hs callee)) (register hs r)
call_operands hs os = None

abbrev pub value : List Held → List Operand → Option Value
value hs (Register x ∷ []) = value_at hs x
value hs os = None

abbrev pub text : List Operand → Option ℕ
text (Text s ∷ []) = Some s
text os = None

abbrev pub text_and_value : List Held → List Operand → Option TextAndValue
text_and_value hs (Text s ∷ Register x ∷ []) = option_map (λ v. record { text = s; value = v }) (value_at hs x)
text_and_value hs os = None

abbrev pub named_binding : List Held → List Operand → Option NamedBinding
named_binding hs (Register x ∷ Text s ∷ []) = option_map (λ b. record { binding = b; name = s }) (binding_at hs x)
named_binding hs os = None

abbrev pub way : List Operand → Option ℤ
way (Jump z ∷ []) = Some z
way os = None

abbrev pub branch : List Held → List Operand → Option Branching
branch hs (Register x ∷ Jump z ∷ []) = option_map (λ v. record { value = v; way = z }) (value_at hs x)
branch hs os = None

abbrev pub branch_at : List Held → List Operand → Option BranchAt
branch_at hs (Register x ∷ Int i ∷ Jump z ∷ []) =
    option_and_then
    (λ v. option_map (λ n. record { value = v; integer = n; way = z }) (safe i))
    (value_at hs x)
branch_at hs os = None
