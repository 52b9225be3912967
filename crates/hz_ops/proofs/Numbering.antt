-- Numbers and operands go to bytes and back.
use Rattle.std.proofs.Common.{◌≡◌, ℕ, suc, zero, ◌*◌, ◌^◌, ◌%◌, ◌<◌, ◌≤◌, Bool, true, false, List, [], ◌∷◌, ◌++◌}
use Rattle.std.proofs.Common.{length, take, drop, get_or, refl, ap, ◌∙◌, sym, arith, ℤ, pos, negsuc, inl, inr, lit<}
use Rattle.std.proofs.lemmas.Bool.{cases_lt}
use Rattle.std.specs.Prelude.{Option, Some, None, if◌then◌else◌, nat_lt}
use Rattle.std.specs.Int.{w8, w16, w64, to_le_bytes, from_le_bytes, cast_signed, cast_unsigned}
use Rattle.std.proofs.lemmas.Nat.{from_le_bytes-to_le_bytes_2, from_le_bytes-to_le_bytes_8, le_bytes_2, le_bytes_8}
use Rattle.std.proofs.lemmas.Int.{to_z-of_z, of_z-to_z}
use Rattle.std.proofs.lemmas.List.{take-append-drop, length-take-le}
use Rattle.std.proofs.lemmas.Option.{some_pair_parts}
use Rattle.hz_ops.specs.declared.number.Size.{Size}
use Rattle.hz_ops.specs.declared.number.Size.TheVariants.{One, Two, Eight}
use Rattle.hz_ops.specs.declared.op.OperandKind.{OperandKind}
use Rattle.hz_ops.specs.declared.op.OperandKind.TheVariants as kind
use Rattle.hz_ops.specs.declared.op.Operand.{Operand}
use Rattle.hz_ops.specs.declared.op.Operand.TheVariants.{Register, Slot, Text, Function, Int, Jump, Count}
use Rattle.hz_ops.specs.Sizes.{width, byte_count, number_at}
use Rattle.hz_ops.specs.Coding.{operand_of, number_of, unsigned_fits, signed_fits, operand_fits}

-- ---- numbers

-- where there are enough bytes, the number is that of the first ones
pub enough_bytes : (s : Size) (bytes : List ℕ) → byte_count s ≤ length bytes →
    number_at s bytes ≡ Some (from_le_bytes (width s) (take (byte_count s) bytes), drop (byte_count s) bytes)
enough_bytes s bytes enough =
    let read : Bool → Option (ℕ × List ℕ) =
    λ t. if t then None else Some (
      from_le_bytes (width s) (take (byte_count s) bytes),
      drop (byte_count s) bytes,
    ) in
    ap read (let e : nat_lt (length bytes) (byte_count s) ≡ false = grind (arith, enough) in e)

pub too_few_bytes : (s : Size) (bytes : List ℕ) → length bytes < byte_count s → number_at s bytes ≡ None
too_few_bytes s bytes few =
    let read : Bool → Option (ℕ × List ℕ) =
    λ t. if t then None else Some (
      from_le_bytes (width s) (take (byte_count s) bytes),
      drop (byte_count s) bytes,
    ) in
    ap read (let e : nat_lt (length bytes) (byte_count s) ≡ true = grind (arith, few) in e)

-- a number that was written is read again, whatever follows
pub number_again : (s : Size) (n : ℕ) (rest : List ℕ) → n < 2 ^ (8 * byte_count s) →
    number_at s (to_le_bytes (width s) n ++ rest) ≡ Some (n, rest)
number_again One n rest fits =
    let P : ℕ → Option (ℕ × List ℕ) = λ m. Some (m, rest) in
    enough_bytes One (to_le_bytes w8 n ++ rest) (omega arith) ∙ ap P (let e : n % 256 ≡ n = grind (arith, fits) in e)
number_again Two n rest fits =
    let P : ℕ → Option (ℕ × List ℕ) = λ m. Some (m, rest) in
    enough_bytes Two (to_le_bytes w16 n ++ rest) (omega arith) ∙ ap P (from_le_bytes-to_le_bytes_2 n fits)
number_again Eight n rest fits =
    let P : ℕ → Option (ℕ × List ℕ) = λ m. Some (m, rest) in
    enough_bytes Eight (to_le_bytes w64 n ++ rest) (omega arith) ∙ ap P (from_le_bytes-to_le_bytes_8 n fits)

-- bytes that were read as a number are those that it is written as
pub bytes_again : (s : Size) (bytes : List ℕ) (n : ℕ) → length bytes ≡ byte_count s →
    ((i : ℕ) → get_or bytes i 0 < 256) → n ≡ from_le_bytes (width s) bytes → to_le_bytes (width s) n ≡ bytes
bytes_again One [] n size in_range e = absurd (omega arith)
bytes_again One (b ∷ []) n size in_range e = let low : n % 256 ≡ b = grind (arith, e, in_range 0) in
    ap (λ x. x ∷ []) low
bytes_again One (b ∷ (x ∷ xs)) n size in_range e = absurd (omega arith)
bytes_again Two bytes n size in_range e = le_bytes_2 bytes n size in_range e
bytes_again Eight bytes n size in_range e = le_bytes_8 bytes n size in_range e

pub number_below : (s : Size) (n : ℕ) (bytes : List ℕ) → ((i : ℕ) → get_or bytes i 0 < 256) →
    n ≡ from_le_bytes (width s) bytes → n < 2 ^ (8 * byte_count s)
number_below One n bytes in_range e = omega (arith, in_range 0, e)
number_below Two n bytes in_range e = omega (arith, in_range 0, in_range 1, e)
number_below Eight n bytes in_range e =
    omega (arith, in_range 0, in_range 1, in_range 2, in_range 3, in_range 4, in_range 5, in_range 6, in_range 7, e)

-- a number that was read is written as the same bytes
pub record Written (s : Size) (bytes : List ℕ) (n : ℕ) (rest : List ℕ) : Type 0 where
  pub bytes_are : bytes ≡ to_le_bytes (width s) n ++ rest
  pub fits : n < 2 ^ (8 * byte_count s)

-- the bytes in front are bytes
pub bytes_in_front : (n : ℕ) (bytes : List ℕ) → ((i : ℕ) → get_or bytes i 0 < 256) → (i : ℕ) →
    get_or (take n bytes) i 0 < 256
bytes_in_front zero bytes in_range i = lit< tt
bytes_in_front (suc n) [] in_range i = lit< tt
bytes_in_front (suc n) (b ∷ bytes) in_range zero = in_range zero
bytes_in_front (suc n) (b ∷ bytes) in_range (suc i) = bytes_in_front n bytes (λ j. in_range (suc j)) i

number_back_of : (s : Size) (bytes : List ℕ) (n : ℕ) (rest : List ℕ) → ((i : ℕ) → get_or bytes i 0 < 256) →
    byte_count s ≤ length bytes → number_at s bytes ≡ Some (n, rest) → Written s bytes n rest
number_back_of s bytes n rest in_range enough e =
    let field : List ℕ = take (byte_count s) bytes in
    let parts : (from_le_bytes (width s) field ≡ n) × (drop (byte_count s) bytes ≡ rest) =
    some_pair_parts _ _ _ _ (sym (enough_bytes s bytes enough) ∙ e) in
    let small : (i : ℕ) → get_or field i 0 < 256 = bytes_in_front (byte_count s) bytes in_range in
    record {
      bytes_are =
          sym (take-append-drop (byte_count s) bytes)
          ∙ ap (λ xs. xs ++ drop (byte_count s) bytes)
          (sym (bytes_again s field n (length-take-le (byte_count s) bytes enough) small (sym parts.0)))
          ∙ ap (λ xs. to_le_bytes (width s) n ++ xs) parts.1;
      fits = number_below s n field small (sym parts.0);
    }

pub number_back : (s : Size) (bytes : List ℕ) (n : ℕ) (rest : List ℕ) → ((i : ℕ) → get_or bytes i 0 < 256) →
    number_at s bytes ≡ Some (n, rest) → Written s bytes n rest
number_back s bytes n rest in_range e = elim (cases_lt (length bytes) (byte_count s)) [
  | inl few ↦ absurd (let clash : None ≡ Some (n, rest) = sym (too_few_bytes s bytes few) ∙ e in cc)
  | inr enough ↦ number_back_of s bytes n rest in_range enough e
]

-- ---- operands

pub unsigned_below : (s : Size) (n : ℕ) → unsigned_fits s n ≡ true → n < 2 ^ (8 * byte_count s)
unsigned_below One n e = grind (arith, e)
unsigned_below Two n e = grind (arith, e)
unsigned_below Eight n e = grind (arith, e)

pub below_fits : (s : Size) (n : ℕ) → n < 2 ^ (8 * byte_count s) → unsigned_fits s n ≡ true
below_fits One n e = grind (arith, e)
below_fits Two n e = grind (arith, e)
below_fits Eight n e = grind (arith, e)

-- what two's complement gives for a signed number that fits
pub record Signed (s : Size) (z : ℤ) : Type 0 where
  pub again : cast_signed (width s) (cast_unsigned (width s) z) ≡ z
  pub below : cast_unsigned (width s) z < 2 ^ (8 * byte_count s)

pub signed_again : (s : Size) (z : ℤ) → signed_fits s z ≡ true → Signed s z
signed_again One (pos n) e = let fits : n < 2 ^ 7 = grind (arith, e) in
    record { again = to_z-of_z w8 (pos n) (record { sfits = fits }); below = omega arith }
signed_again One (negsuc n) e = let fits : n < 2 ^ 7 = grind (arith, e) in
    record { again = to_z-of_z w8 (negsuc n) (record { sfits = fits }); below = omega arith }
signed_again Two (pos n) e = let fits : n < 2 ^ 15 = grind (arith, e) in
    record { again = to_z-of_z w16 (pos n) (record { sfits = fits }); below = omega arith }
signed_again Two (negsuc n) e = let fits : n < 2 ^ 15 = grind (arith, e) in
    record { again = to_z-of_z w16 (negsuc n) (record { sfits = fits }); below = omega arith }
signed_again Eight (pos n) e = let fits : n < 2 ^ 63 = grind (arith, e) in
    record { again = to_z-of_z w64 (pos n) (record { sfits = fits }); below = omega arith }
signed_again Eight (negsuc n) e = let fits : n < 2 ^ 63 = grind (arith, e) in
    record { again = to_z-of_z w64 (negsuc n) (record { sfits = fits }); below = omega arith }

pub signed_back : (s : Size) (n : ℕ) → n < 2 ^ (8 * byte_count s) →
    (signed_fits s (cast_signed (width s) n) ≡ true) × (cast_unsigned (width s) (cast_signed (width s) n) ≡ n)
signed_back One n below = (grind (arith, below), of_z-to_z w8 n below)
signed_back Two n below = (grind (arith, below), of_z-to_z w16 n below)
signed_back Eight n below = (grind (arith, below), of_z-to_z w64 n below)

-- an operand that was written is read again
pub record Again (s : Size) (k : OperandKind) (o : Operand) : Type 0 where
  pub operand : operand_of k s (number_of s o) ≡ o
  pub below : number_of s o < 2 ^ (8 * byte_count s)

pub operand_again : (s : Size) (k : OperandKind) (o : Operand) → operand_fits s k o ≡ true → Again s k o
operand_again s kind.Register (Register n) e = record { operand = refl; below = unsigned_below s n e }
operand_again s kind.Slot (Slot n) e = record { operand = refl; below = unsigned_below s n e }
operand_again s kind.Text (Text n) e = record { operand = refl; below = unsigned_below s n e }
operand_again s kind.Function (Function n) e = record { operand = refl; below = unsigned_below s n e }
operand_again s kind.Int (Int z) e =
    record { operand = ap Int (signed_again s z e).again; below = (signed_again s z e).below }
operand_again s kind.Jump (Jump z) e =
    record { operand = ap Jump (signed_again s z e).again; below = (signed_again s z e).below }
operand_again s kind.Count (Count n) e = record { operand = refl; below = unsigned_below s n e }
operand_again s k o e = cc

-- an operand that was read fits, and is written as the same number
pub operand_back : (s : Size) (k : OperandKind) (n : ℕ) → n < 2 ^ (8 * byte_count s) →
    (operand_fits s k (operand_of k s n) ≡ true) × (number_of s (operand_of k s n) ≡ n)
operand_back s kind.Register n below = (below_fits s n below, refl)
operand_back s kind.Slot n below = (below_fits s n below, refl)
operand_back s kind.Text n below = (below_fits s n below, refl)
operand_back s kind.Function n below = (below_fits s n below, refl)
operand_back s kind.Int n below = signed_back s n below
operand_back s kind.Jump n below = signed_back s n below
operand_back s kind.Count n below = (below_fits s n below, refl)
