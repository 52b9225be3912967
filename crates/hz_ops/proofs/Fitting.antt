-- Operands that fit their kinds, one by one.
use Rattle.std.proofs.Common.{◌≡◌, ℕ, suc, zero, ◌+◌, ◌*◌, ◌<◌, ◌≤◌, Bool, true, false, ◌&&◌, List, [], ◌∷◌, ◌++◌}
use Rattle.std.proofs.Common.{length, get_or, drop, refl, ap, ◌∙◌, sym, arith, add-one, append_assoc, length-append}
use Rattle.std.specs.Int.{to_le_bytes}
use Rattle.hz_ops.specs.declared.number.Size.{Size}
use Rattle.hz_ops.specs.declared.number.Size.TheVariants.{One, Two, Eight}
use Rattle.hz_ops.specs.declared.op.OperandKind.{OperandKind}
use Rattle.hz_ops.specs.declared.op.Operand.{Operand}
use Rattle.hz_ops.specs.Sizes.{width, byte_count}
use Rattle.hz_ops.specs.Coding.{size_of, number_of, operand_fits, operands_fit, operand_bytes, spelling}
use Rattle.hz_ops.specs.declared.instr.Instr.{Instr}
use Rattle.hz_ops.specs.declared.op.Op.{Op}
use Rattle.hz_ops.specs.declared.op.Op.TheVariants.{LoadUndefined}
use Rattle.hz_ops.specs.Table.{kinds_of}
use Rattle.std.proofs.Common.{lit≤}
use Rattle.std.proofs.lemmas.List.{length-drop, drop-drop}

-- both hold where their conjunction does
pub both : (a b : Bool) → (a && b) ≡ true → (a ≡ true) × (b ≡ true)
both true b e = (refl, e)
both false b e = cc

pub length_number : (s : Size) (n : ℕ) → length (to_le_bytes (width s) n) ≡ byte_count s
length_number One n = refl
length_number Two n = refl
length_number Eight n = refl

-- there are as many operands as kinds
pub same_length : (long : Bool) (ks : List OperandKind) (os : List Operand) → operands_fit long ks os ≡ true →
    length ks ≡ length os
same_length long [] [] e = refl
same_length long [] (o ∷ os) e = cc
same_length long (k ∷ ks) [] e = cc
same_length long (k ∷ ks) (o ∷ os) e =
    ap suc (same_length long ks os ((both (operand_fits (size_of long k) k o) (operands_fit long ks os) e).1))

-- too few operands fit no kinds
pub none_fit : (long : Bool) (ks : List OperandKind) (os : List Operand) → 0 < length ks → length os < 1 →
    operands_fit long ks os ≡ false
none_fit long [] os some few = absurd (omega arith)
none_fit long (k ∷ ks) [] some few = refl
none_fit long (k ∷ ks) (o ∷ os) some few = absurd (omega arith)

-- the operand at i fits its kind, those behind it fit theirs, and its bytes stand before theirs
pub record Step (long : Bool) (ks : List OperandKind) (os : List Operand) (i : ℕ) (k : OperandKind)
    (o : Operand) : Type 0 where
  pub fits : operand_fits (size_of long k) k o ≡ true
  pub rest : operands_fit long (drop (suc i) ks) (drop (suc i) os) ≡ true
  pub bytes : operand_bytes long (drop i ks) (drop i os)
      ≡ to_le_bytes (width (size_of long k)) (number_of (size_of long k) o) ++ operand_bytes long (drop (suc i) ks)
      (drop (suc i) os)

pub step_at : (long : Bool) (ks : List OperandKind) (os : List Operand) (i : ℕ) (no_kind : OperandKind)
    (no_operand : Operand) → i < length ks → operands_fit long (drop i ks) (drop i os) ≡ true →
    Step long ks os i (get_or ks i no_kind) (get_or os i no_operand)
step_at long [] os i no_kind no_operand within e = absurd (omega arith)
step_at long (k ∷ ks) [] zero no_kind no_operand within e = cc
step_at long (k ∷ ks) [] (suc i) no_kind no_operand within e =
    absurd (omega (arith, same_length long (drop i ks) [] e, length-drop i ks))
step_at long (k ∷ ks) (o ∷ os) zero no_kind no_operand within e =
    let parts : (operand_fits (size_of long k) k o ≡ true) × (operands_fit long ks os ≡ true) =
    both (operand_fits (size_of long k) k o) (operands_fit long ks os) e in
    record { fits = parts.0; rest = parts.1; bytes = refl }
step_at long (k ∷ ks) (o ∷ os) (suc i) no_kind no_operand within e =
    let here : Step long ks os i (get_or ks i no_kind) (get_or os i no_operand) =
    step_at long ks os i no_kind no_operand (omega arith) e in
    record { fits = here.fits; rest = here.rest; bytes = here.bytes }

-- the same with the next place written as i + 1
pub rest_fits : {long : Bool} {ks : List OperandKind} {os : List Operand} {i : ℕ} {k : OperandKind} {o : Operand} →
    Step long ks os i k o → operands_fit long (drop (i + 1) ks) (drop (i + 1) os) ≡ true
rest_fits {long = long} {ks = ks} {os = os} {i = i} step =
    ap (λ n. operands_fit long (drop n ks) (drop n os)) (add-one i) ∙ step.rest

-- how many bytes are left to write, before the operand at i and behind it
pub length_left : {long : Bool} {ks : List OperandKind} {os : List Operand} {i : ℕ} {k : OperandKind} {o : Operand} →
    Step long ks os i k o → length (operand_bytes long (drop i ks) (drop i os))
    ≡ byte_count (size_of long k) + length (operand_bytes long (drop (i + 1) ks) (drop (i + 1) os))
length_left {long = long} {ks = ks} {os = os} {i = i} {k = k} {o = o} step =
    let here : List ℕ = to_le_bytes (width (size_of long k)) (number_of (size_of long k) o) in
    let more : List ℕ = operand_bytes long (drop (suc i) ks) (drop (suc i) os) in
    ap length step.bytes ∙ length-append here more
    ∙ ap (λ n. n + length more) (length_number (size_of long k) (number_of (size_of long k) o))
    ∙ ap (λ n. byte_count (size_of long k) + length (operand_bytes long (drop n ks) (drop n os))) (sym (add-one i))

-- what is written up to i + 1, and what is left, is what was written up to i, and what was left
pub written_more : {long : Bool} {ks : List OperandKind} {os : List Operand} {i : ℕ} {k : OperandKind} {o : Operand}
    (before after : List ℕ) → Step long ks os i k o →
    after ≡ before ++ to_le_bytes (width (size_of long k)) (number_of (size_of long k) o) →
    after ++ operand_bytes long (drop (i + 1) ks) (drop (i + 1) os)
    ≡ before ++ operand_bytes long (drop i ks) (drop i os)
written_more {long = long} {ks = ks} {os = os} {i = i} {k = k} {o = o} before after step e =
    let here : List ℕ = to_le_bytes (width (size_of long k)) (number_of (size_of long k) o) in
    let more : List ℕ = operand_bytes long (drop (suc i) ks) (drop (suc i) os) in
    ap (λ n. after ++ operand_bytes long (drop n ks) (drop n os)) (add-one i) ∙ ap (λ a. a ++ more) e
    ∙ append_assoc before here more ∙ ap (λ b. before ++ b) (sym step.bytes)

-- two lists that are the same from a place on are the same from a later place on
pub dropped_on : (at count later : ℕ) (xs ys : List ℕ) → later ≡ at + count → drop at xs ≡ drop at ys →
    drop later xs ≡ drop later ys
dropped_on at count later xs ys e same =
    ap (λ n. drop n xs) e ∙ sym (drop-drop count at xs) ∙ ap (drop count) same ∙ drop-drop count at ys
    ∙ ap (λ n. drop n ys) (sym e)

pub size_at_most : (s : Size) → byte_count s ≤ 8
size_at_most One = lit≤ tt
size_at_most Two = lit≤ tt
size_at_most Eight = lit≤ tt

-- how many bytes the operands take at most
pub bytes_at_most : (long : Bool) (ks : List OperandKind) (os : List Operand) →
    length (operand_bytes long ks os) ≤ 8 * length ks
bytes_at_most long [] os = omega arith
bytes_at_most long (k ∷ ks) [] = omega arith
bytes_at_most long (k ∷ ks) (o ∷ os) =
    let here : List ℕ = to_le_bytes (width (size_of long k)) (number_of (size_of long k) o) in
    omega (
      arith,
      length-append here (operand_bytes long ks os),
      length_number (size_of long k) (number_of (size_of long k) o),
      size_at_most (size_of long k),
      bytes_at_most long ks os,
    )

-- no operation has more than five operands
pub few_kinds : (op : Op) → length (kinds_of op) ≤ 5
few_kinds LoadUndefined = lit≤ tt
few_kinds _ = lit≤ tt

pub spelling_at_most : (i : Instr) → length (spelling i) ≤ 41
spelling_at_most i = omega (arith, bytes_at_most i.long (kinds_of i.op) i.args.items, few_kinds i.op)
