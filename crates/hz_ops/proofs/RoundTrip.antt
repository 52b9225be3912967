-- The two laws of the coding: what was written is read again, and what is read is written as the same bytes.
use Rattle.std.proofs.Common.{◌≡◌, ℕ, suc, ◌+◌, ◌-◌, ◌%◌, ◌<◌, Bool, true, false, List, [], ◌∷◌, ◌++◌, length, take}
use Rattle.std.proofs.Common.{drop, get_or, refl, ap, ◌∙◌, sym, subst, arith, append_assoc, length-append}
use Rattle.std.specs.Prelude.{Option, Some, None, option_map, option_and_then, if◌then◌else◌, nat_le, ◌==◌}
use Rattle.std.specs.Int.{to_le_bytes}
use Rattle.std.specs.Cmp.Derive.{both_true}
use Rattle.std.specs.Prelude.{IfSome, IsTrue, set}
use Rattle.std.proofs.lemmas.List.{get_or-drop, take-append-drop}
use Rattle.std.proofs.Math.Seq.{take-append_seam}
use Rattle.std.proofs.lemmas.Option.{some_pair_parts}
use Rattle.hz_ops.specs.declared.number.Size.{Size}
use Rattle.hz_ops.specs.declared.op.Op.{Op}
use Rattle.hz_ops.specs.declared.op.Op.TheVariants.{LoadUndefined}
use Rattle.hz_ops.specs.declared.op.OperandKind.{OperandKind}
use Rattle.hz_ops.specs.declared.op.Operand.{Operand}
use Rattle.hz_ops.specs.declared.instr.Instr.{Instr}
use Rattle.hz_ops.specs.Sizes.{width, number_at}
use Rattle.hz_ops.specs.Table.{number_of_op, kinds_of, among, operations, op_at}
use Rattle.hz_ops.specs.Coding.{size_of, operand_of, number_of, operand_fits, operand_at, operands_at, operands_fit}
use Rattle.hz_ops.specs.Coding.{operand_bytes, first_byte, with_operation, front, decode_at, spelling, fits_of}
use Rattle.hz_ops.proofs.Fitting.{both}
use Rattle.hz_ops.proofs.Numbering.{number_again, Written, number_back, Again, operand_again, operand_back}

-- every element is a byte
pub record AllBytes (bytes : List ℕ) : Type 0 where
  pub byte : (i : ℕ) → get_or bytes i 0 < 256

pub bytes_behind : (xs ys : List ℕ) → AllBytes (xs ++ ys) → AllBytes ys
bytes_behind [] ys all = all
bytes_behind (x ∷ xs) ys all = bytes_behind xs ys (record { byte = λ i. all.byte (suc i) })

abbrev pub here : Bool → OperandKind → Operand → List ℕ
here long k o = to_le_bytes (width (size_of long k)) (number_of (size_of long k) o)

-- ---- one operand

pub operand_read_again : (long : Bool) (k : OperandKind) (o : Operand) (rest : List ℕ) →
    operand_fits (size_of long k) k o ≡ true → operand_at long k (here long k o ++ rest) ≡ Some (o, rest)
operand_read_again long k o rest e =
    let s : Size = size_of long k in
    let again : Again s k o = operand_again s k o e in
    let read : ℕ × List ℕ → Operand × List ℕ = λ n. (operand_of k s n.0, n.1) in
    let found : Operand → Option (Operand × List ℕ) = λ x. Some (x, rest) in
    ap (option_map read) (number_again s (number_of s o) rest again.below) ∙ ap found again.operand

pub record OperandBack (long : Bool) (k : OperandKind) (bytes : List ℕ) (o : Operand) (rest : List ℕ) : Type 0 where
  pub fits : operand_fits (size_of long k) k o ≡ true
  pub bytes_are : bytes ≡ here long k o ++ rest

pub operand_read_back : (long : Bool) (k : OperandKind) (bytes : List ℕ) (o : Operand) (rest : List ℕ) →
    AllBytes bytes → operand_at long k bytes ≡ Some (o, rest) → OperandBack long k bytes o rest
operand_read_back long k bytes o rest all e = go (number_at (size_of long k) bytes) refl e where
  go : (found : Option (ℕ × List ℕ)) → number_at (size_of long k) bytes ≡ found →
      option_map {U = Operand × List ℕ} (λ n. (operand_of k (size_of long k) n.0, n.1)) found ≡ Some (o, rest) →
      OperandBack long k bytes o rest
  go None is e = cc
  go (Some n) is e =
      let parts : (operand_of k (size_of long k) n.0 ≡ o) × (n.1 ≡ rest) = some_pair_parts _ _ _ _ e in
      let back : Written (size_of long k) bytes n.0 n.1 = number_back (size_of long k) bytes n.0 n.1 all.byte is in
      let operand : (operand_fits (size_of long k) k (operand_of k (size_of long k) n.0) ≡ true)
      × (number_of (size_of long k) (operand_of k (size_of long k) n.0) ≡ n.0) =
      operand_back (size_of long k) k n.0 back.fits in
      let number : n.0 ≡ number_of (size_of long k) o = sym operand.1 ∙ ap (number_of (size_of long k)) parts.0 in
      record {
        fits = sym (ap (operand_fits (size_of long k) k) parts.0) ∙ operand.0;
        bytes_are =
            back.bytes_are ∙ ap (λ m. to_le_bytes (width (size_of long k)) m ++ n.1) number
            ∙ ap (λ xs. here long k o ++ xs) parts.1;
      }

-- ---- a list of operands

pub operands_read_again : (long : Bool) (ks : List OperandKind) (os : List Operand) (rest : List ℕ) →
    operands_fit long ks os ≡ true → operands_at long ks (operand_bytes long ks os ++ rest) ≡ Some (os, rest)
operands_read_again long [] [] rest e = refl
operands_read_again long [] (o ∷ os) rest e = cc
operands_read_again long (k ∷ ks) [] rest e = cc
operands_read_again long (k ∷ ks) (o ∷ os) rest e =
    let parts : (operand_fits (size_of long k) k o ≡ true) × (operands_fit long ks os ≡ true) =
    both (operand_fits (size_of long k) k o) (operands_fit long ks os) e in
    let more : List ℕ = operand_bytes long ks os ++ rest in
    let first : operand_at long k ((here long k o ++ operand_bytes long ks os) ++ rest) ≡ Some (o, more) =
    ap (operand_at long k) (append_assoc (here long k o) (operand_bytes long ks os) rest)
    ∙ operand_read_again long k o more parts.0 in
    let read : Operand × List ℕ → Option (List Operand × List ℕ) =
    λ x. option_map (λ r. (x.0 ∷ r.0, r.1)) (operands_at long ks x.1) in
    let put : List Operand × List ℕ → List Operand × List ℕ = λ r. (o ∷ r.0, r.1) in
    ap (option_and_then read) first ∙ ap (option_map put) (operands_read_again long ks os rest parts.1)

pub record OperandsBack (long : Bool) (ks : List OperandKind) (bytes : List ℕ) (os : List Operand)
    (rest : List ℕ) : Type 0 where
  pub fits : operands_fit long ks os ≡ true
  pub bytes_are : bytes ≡ operand_bytes long ks os ++ rest

-- the first operand and those behind it, together
pub operands_joined : {long : Bool} {k : OperandKind} {ks : List OperandKind} {bytes more rest : List ℕ} {o : Operand}
    {os : List Operand} → OperandBack long k bytes o more → OperandsBack long ks more os rest →
    OperandsBack long (k ∷ ks) bytes (o ∷ os) rest
operands_joined {long = long} {k = k} {ks = ks} {rest = rest} {o = o} {os = os} first others = record {
  fits = both_true first.fits others.fits;
  bytes_are =
      first.bytes_are ∙ ap (λ xs. here long k o ++ xs) others.bytes_are
      ∙ sym (append_assoc (here long k o) (operand_bytes long ks os) rest);
}

pub operands_read_back : (long : Bool) (ks : List OperandKind) (bytes : List ℕ) (os : List Operand) (rest : List ℕ) →
    AllBytes bytes → operands_at long ks bytes ≡ Some (os, rest) → OperandsBack long ks bytes os rest
operands_read_back long [] bytes os rest all e =
    let parts : ([] ≡ os) × (bytes ≡ rest) = some_pair_parts _ _ _ _ e in
    record { fits = sym (ap (operands_fit long []) parts.0); bytes_are = parts.1 }
operands_read_back long (k ∷ ks) bytes os rest all e =
    first (operand_at long k bytes) refl e (λ more behind. operands_read_back long ks more) where
      others : (o : Operand) (more : List ℕ) → OperandBack long k bytes o more →
          (found : Option (List Operand × List ℕ)) → operands_at long ks more ≡ found →
          option_map {U = List Operand × List ℕ} (λ r. (o ∷ r.0, r.1)) found ≡ Some (os, rest) →
          ((os2 : List Operand) (rest2 : List ℕ) → AllBytes more → operands_at long ks more ≡ Some (os2, rest2) →
          OperandsBack long ks more os2 rest2) → OperandsBack long (k ∷ ks) bytes os rest
      others o more back None is e rec = cc
      others o more back (Some r) is e rec =
          let parts : (o ∷ r.0 ≡ os) × (r.1 ≡ rest) = some_pair_parts _ _ _ _ e in
          let behind : AllBytes more = bytes_behind (here long k o) more (subst AllBytes back.bytes_are all) in
          let whole : OperandsBack long (k ∷ ks) bytes (o ∷ r.0) r.1 = operands_joined back (rec r.0 r.1 behind is) in
          subst (λ xs. OperandsBack long (k ∷ ks) bytes xs rest) parts.0
          (subst (λ xs. OperandsBack long (k ∷ ks) bytes (o ∷ r.0) xs) parts.1 whole)

      first : (found : Option (Operand × List ℕ)) → operand_at long k bytes ≡ found →
          option_and_then {U = List Operand × List ℕ}
          (λ o. option_map (λ r. (o.0 ∷ r.0, r.1)) (operands_at long ks o.1)) found ≡ Some (os, rest) →
          ((more : List ℕ) → Unit {0} → (os2 : List Operand) (rest2 : List ℕ) → AllBytes more →
          operands_at long ks more ≡ Some (os2, rest2) → OperandsBack long ks more os2 rest2) →
          OperandsBack long (k ∷ ks) bytes os rest
      first None is e rec = cc
      first (Some o) is e rec =
          others o.0 o.1 (operand_read_back long k bytes o.0 o.1 all is) (operands_at long ks o.1) refl e (rec o.1 tt)

-- ---- the first byte

-- the first byte tells the form and the operation
pub first_again : (long : Bool) (op : Op) →
    (nat_le 128 (first_byte long op) ≡ long) × (op_at (first_byte long op % 128) ≡ Some op)
unfolding op_at
first_again false LoadUndefined = (refl, refl)
first_again false _ = (refl, refl)
first_again true LoadUndefined = (refl, refl)
first_again true _ = (refl, refl)

pub among_number : (n : ℕ) (ops : List Op) (op : Op) → among n ops ≡ Some op → number_of_op op ≡ n
among_number n [] op e = cc
among_number n (x ∷ ops) op e = go (number_of_op x == n) refl e (among_number n ops op) where
  go : (t : Bool) → (number_of_op x == n) ≡ t → (if t then Some x else among n ops) ≡ Some op →
      (among n ops ≡ Some op → number_of_op op ≡ n) → number_of_op op ≡ n
  go true is e rec = let same : x ≡ op = cc in subst (λ y. number_of_op y ≡ n) same (grind (arith, is))
  go false is e rec = rec e

pub op_number : (n : ℕ) (op : Op) → op_at n ≡ Some op → number_of_op op ≡ n
unfolding op_at
op_number n op e = among_number n operations op e

pub first_back : (b : ℕ) (op : Op) → b < 256 → op_at (b % 128) ≡ Some op → b ≡ first_byte (nat_le 128 b) op
first_back b op below e = go (nat_le 128 b) refl where
  number : number_of_op op ≡ b % 128
  number = op_number (b % 128) op e

  go : (long : Bool) → nat_le 128 b ≡ long → b ≡ first_byte long op
  go true is = grind (arith, is, number)
  go false is = grind (arith, is, number)

-- ---- an instruction

-- what was written is read again, whatever follows
pub read_again : (i : Instr) (rest : List ℕ) → fits_of i ≡ true →
    front (spelling i ++ rest) ≡ Some (i, length (spelling i))
read_again i rest e =
    let operands : List ℕ = operand_bytes i.long (kinds_of i.op) i.args.items in
    let first : (nat_le 128 (first_byte i.long i.op) ≡ i.long) × (op_at (first_byte i.long i.op % 128) ≡ Some i.op) =
    first_again i.long i.op in
    let total : ℕ = length (operands ++ rest) + 1 in
    let made : List Operand × List ℕ → Instr × ℕ =
    λ r. (record { op = i.op; long = i.long; args = record { items = r.0 } }, total - length r.1) in
    let counted : ℕ → Option (Instr × ℕ) = λ n. Some (i, n) in
    ap (λ long. with_operation long total (operands ++ rest) (op_at (first_byte i.long i.op % 128))) first.0
    ∙ ap (with_operation i.long total (operands ++ rest)) first.1
    ∙ ap (option_map made) (operands_read_again i.long (kinds_of i.op) i.args.items rest e)
    ∙ ap counted (let count : total - length rest ≡ suc (length operands) =
    omega (arith, length-append operands rest) in count)

-- an instruction that was read: it fits, and its spelling stands in front
pub record ReadFrom (bytes : List ℕ) (i : Instr) (n : ℕ) : Type 0 where
  pub fits : fits_of i ≡ true
  pub spelt : take n bytes ≡ spelling i

pub read_from_operands : (b : ℕ) (rest : List ℕ) (op : Op) (os : List Operand) (more : List ℕ) →
    b ≡ first_byte (nat_le 128 b) op → OperandsBack (nat_le 128 b) (kinds_of op) rest os more →
    ReadFrom (b ∷ rest) (record { op = op; long = nat_le 128 b; args = record { items = os } })
    (length rest + 1 - length more)
read_from_operands b rest op os more first back =
    let operands : List ℕ = operand_bytes (nat_le 128 b) (kinds_of op) os in
    let whole : b ∷ rest ≡ (first_byte (nat_le 128 b) op ∷ operands) ++ more =
    ap (λ x. x ∷ rest) first ∙ ap (λ xs. first_byte (nat_le 128 b) op ∷ xs) back.bytes_are in
    let count : length rest + 1 - length more ≡ suc (length operands) =
    omega (arith, ap length back.bytes_are, length-append operands more) in
    record {
      fits = back.fits;
      spelt =
          ap (λ n. take n (b ∷ rest)) count ∙ ap (take (suc (length operands))) whole
          ∙ take-append_seam (first_byte (nat_le 128 b) op ∷ operands) more;
    }

-- what is read is written as the same bytes
pub read_back : (bytes : List ℕ) (i : Instr) (n : ℕ) → AllBytes bytes → front bytes ≡ Some (i, n) → ReadFrom bytes i n
read_back [] i n all e = cc
read_back (b ∷ rest) i n all e = known (op_at (b % 128)) refl e where
  read : (op : Op) → op_at (b % 128) ≡ Some op → (found : Option (List Operand × List ℕ)) →
      operands_at (nat_le 128 b) (kinds_of op) rest ≡ found →
      option_map {U =
      Instr × ℕ} (λ r. (
        record { op = op; long = nat_le 128 b; args = record { items = r.0 } },
        length rest + 1 - length r.1,
      )) found ≡ Some (i, n) → ReadFrom (b ∷ rest) i n
  read op is None was e = cc
  read op is (Some r) was e =
      let made : Instr = record { op = op; long = nat_le 128 b; args = record { items = r.0 } } in
      let parts : (made ≡ i) × (length rest + 1 - length r.1 ≡ n) = some_pair_parts _ _ _ _ e in
      let behind : AllBytes rest = bytes_behind (b ∷ []) rest all in
      let from : ReadFrom (b ∷ rest) made (length rest + 1 - length r.1) =
      read_from_operands b rest op r.0 r.1 (first_back b op (all.byte 0) is)
      (operands_read_back (nat_le 128 b) (kinds_of op) rest r.0 r.1 behind was) in
      subst (λ m. ReadFrom (b ∷ rest) i m) parts.1
      (subst (λ x. ReadFrom (b ∷ rest) x (length rest + 1 - length r.1)) parts.0 from)

  known : (found : Option Op) → op_at (b % 128) ≡ found →
      with_operation (nat_le 128 b) (length rest + 1) rest found ≡ Some (i, n) → ReadFrom (b ∷ rest) i n
  known None is e = cc
  known (Some op) is e = read op is (operands_at (nat_le 128 b) (kinds_of op) rest) refl e

-- what a reading gives fits, and is spelt by the bytes at its place
pub decoded : (found : Option (Instr × ℕ)) (bytes : List ℕ) (at : ℕ) → ((i : ℕ) → get_or bytes i 0 < 256) →
    found ≡ decode_at bytes at → IfSome found (λ r. IsTrue (fits_of r.0) × (take r.1 (drop at bytes) ≡ spelling r.0))
decoded None bytes at in_range e = tt
decoded (Some r) bytes at in_range e =
    let behind : AllBytes (drop at bytes) =
    record { byte = λ i. omega (arith, get_or-drop at bytes i 0, in_range (at + i)) } in
    let from : ReadFrom (drop at bytes) r.0 r.1 = read_back (drop at bytes) r.0 r.1 behind (sym e) in
    (from.fits, from.spelt)

-- a first byte and the bytes written behind it make the front of the whole, and the rest stays
pub written_whole : (first n : ℕ) (bytes old new : List ℕ) → 0 < length old → n ≡ 1 + length bytes →
    take n new ≡ take 1 (set old 0 first) ++ bytes → drop n new ≡ drop n (set old 0 first) →
    new ≡ (first ∷ bytes) ++ drop (length (first ∷ bytes)) old
written_whole first n bytes [] new some count front back = absurd (omega arith)
written_whole first n bytes (x ∷ old) new some count front back =
    let next : n ≡ suc (length bytes) = omega arith in
    sym (take-append-drop n new) ∙ ap (λ xs. xs ++ drop n new) front
    ∙ ap (λ xs. (first ∷ bytes) ++ xs) (back ∙ ap (λ m. drop m (first ∷ old)) next)
