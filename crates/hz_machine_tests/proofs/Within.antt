-- An instruction that is read lies within the code, and takes some bytes of it.
use Rattle.std.proofs.Common.{◌≡◌, ℕ, ◌+◌, ◌-◌, ◌%◌, ◌<◌, ◌≤◌, List, [], ◌∷◌, length, take, drop, Option, None, Some}
use Rattle.std.proofs.Common.{ap, sym, subst, arith}
use Rattle.std.specs.Prelude.{option_map, nat_le, Bool}
use Rattle.std.proofs.lemmas.List.{length-take, length-drop}
use Rattle.hz_ops.specs.declared.op.Op.{Op}
use Rattle.hz_ops.specs.declared.op.Operand.{Operand}
use Rattle.hz_ops.specs.declared.instr.Instr.{Instr}
use Rattle.hz_ops.specs.Table.{kinds_of, op_at}
use Rattle.hz_ops.specs.Coding.{instr_of, operands_at, with_operation, front, decode_at, spelling}

some_same : {T : Type 0} {x y : T} → Some x ≡ Some y → x ≡ y
some_same e = cc

front_within : (bytes : List ℕ) (r : Instr × ℕ) → front bytes ≡ Some r → r.1 ≤ length bytes
front_within [] r e = cc
front_within (b ∷ rest) r e = by_op (op_at (b % 128)) e where
  by_operands : (op : Op) (long : Bool) (x : Option (List Operand × List ℕ))
      → option_map (λ p. (instr_of op long p.0, length rest + 1 - length p.1)) x ≡ Some r → r.1 ≤ length (b ∷ rest)
  by_operands op long None is = cc
  by_operands op long (Some p) is =
      let made : (instr_of op long p.0, length rest + 1 - length p.1) ≡ r = some_same is in
      let size : length rest + 1 - length p.1 ≡ r.1 = ap (λ q. q.1) made in
      omega arith

  by_op : (o : Option Op) → with_operation (nat_le 128 b) (length rest + 1) rest o ≡ Some r → r.1 ≤ length (b ∷ rest)
  by_op None is = cc
  by_op (Some op) is = by_operands op (nat_le 128 b) (operands_at (nat_le 128 b) (kinds_of op) rest) is

pub decoded_within : (bytes : List ℕ) (at : ℕ) (i : Instr) (n : ℕ) → decode_at bytes at ≡ Some (i, n)
    → take n (drop at bytes) ≡ spelling i → (at < at + n) × (at + n ≤ length bytes)
decoded_within bytes at i n e written =
    let most : n ≤ length (drop at bytes) = front_within (drop at bytes) (i, n) e in
    let some : 1 ≤ length (take n (drop at bytes)) = subst (λ l. 1 ≤ length l) (sym written) (omega arith) in (
      omega (arith, length-take n (drop at bytes), length-drop at bytes),
      omega (arith, length-take n (drop at bytes), length-drop at bytes),
    )
