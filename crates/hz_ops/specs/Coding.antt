-- Instructions as bytes. The first byte is the operation's number, with 128 more in the long form; then
-- come the operands in the order of the row, each of them with its lowest byte first.
use Rattle.std.specs.Prelude.{ℕ, ◌+◌, ◌-◌, ◌%◌, ◌^◌, Bool, true, false, not, ◌&&◌, List, [], ◌∷◌, ◌++◌, length, drop}
use Rattle.std.specs.Prelude.{nat_lt, nat_le, int_lt, int_le, ℤ, pos, neg_ℤ, if◌then◌else◌, Option, Some, None}
use Rattle.std.specs.Prelude.{option_map, option_and_then}
use Rattle.std.specs.Int.{to_le_bytes, cast_signed, cast_unsigned}
use Rattle.hz_ops.specs.declared.number.Size.{Size}
use Rattle.hz_ops.specs.declared.number.Size.TheVariants.{One, Two, Eight}
use Rattle.hz_ops.specs.declared.op.Op.{Op}
use Rattle.hz_ops.specs.declared.op.OperandKind.{OperandKind}
use Rattle.hz_ops.specs.declared.op.OperandKind.TheVariants as kind
use Rattle.hz_ops.specs.declared.op.Operand.{Operand}
use Rattle.hz_ops.specs.declared.op.Operand.TheVariants.{Register, Slot, Text, Function, Int, Jump, Count}
use Rattle.hz_ops.specs.declared.instr.Instr.{Instr}
use Rattle.hz_ops.specs.Sizes.{width, number_at}
use Rattle.hz_ops.specs.Table.{number_of_op, kinds_of, op_at}

-- ---- operands

-- how many bytes an operand of this kind takes, in the long form or the short one
abbrev pub size_of : Bool → OperandKind → Size
size_of long kind.Count = One
size_of true k = Eight
size_of false kind.Register = One
size_of false kind.Int = One
size_of false k = Two

-- the operand of this kind that the number in so many bytes stands for: integers and jumps are signed
abbrev pub operand_of : OperandKind → Size → ℕ → Operand
operand_of kind.Register s n = Register n
operand_of kind.Slot s n = Slot n
operand_of kind.Text s n = Text n
operand_of kind.Function s n = Function n
operand_of kind.Int s n = Int (cast_signed (width s) n)
operand_of kind.Jump s n = Jump (cast_signed (width s) n)
operand_of kind.Count s n = Count n

-- the number in so many bytes that stands for this operand
abbrev pub number_of : Size → Operand → ℕ
number_of s (Register n) = n
number_of s (Slot n) = n
number_of s (Text n) = n
number_of s (Function n) = n
number_of s (Int z) = cast_unsigned (width s) z
number_of s (Jump z) = cast_unsigned (width s) z
number_of s (Count n) = n

-- n is below 2 ^ k, where k is the number of bits
abbrev pub unsigned_fits : Size → ℕ → Bool
unsigned_fits One n = nat_lt n (2 ^ 8)
unsigned_fits Two n = nat_lt n (2 ^ 16)
unsigned_fits Eight n = nat_lt n (2 ^ 64)

-- z is from -2 ^ (k - 1) to 2 ^ (k - 1) - 1
abbrev pub signed_fits : Size → ℤ → Bool
signed_fits One z = int_le (neg_ℤ (pos (2 ^ 7))) z && int_lt z (pos (2 ^ 7))
signed_fits Two z = int_le (neg_ℤ (pos (2 ^ 15))) z && int_lt z (pos (2 ^ 15))
signed_fits Eight z = int_le (neg_ℤ (pos (2 ^ 63))) z && int_lt z (pos (2 ^ 63))

-- the operand is of this kind, and its number has room in so many bytes
abbrev pub operand_fits : Size → OperandKind → Operand → Bool
operand_fits s kind.Register (Register n) = unsigned_fits s n
operand_fits s kind.Slot (Slot n) = unsigned_fits s n
operand_fits s kind.Text (Text n) = unsigned_fits s n
operand_fits s kind.Function (Function n) = unsigned_fits s n
operand_fits s kind.Int (Int z) = signed_fits s z
operand_fits s kind.Jump (Jump z) = signed_fits s z
operand_fits s kind.Count (Count n) = unsigned_fits s n
operand_fits s k o = false

-- ---- reading

-- the operand of this kind in front, and what is behind it
abbrev pub operand_at : Bool → OperandKind → List ℕ → Option (Operand × List ℕ)
operand_at long k bytes =
    option_map (λ n. (operand_of k (size_of long k) n.0, n.1)) (number_at (size_of long k) bytes)

-- the operands of these kinds in front, and what is behind them
abbrev pub operands_at : Bool → List OperandKind → List ℕ → Option (List Operand × List ℕ)
operands_at long [] bytes = Some ([], bytes)
operands_at long (k ∷ ks) bytes =
    option_and_then
    (λ o. option_map (λ r. (o.0 ∷ r.0, r.1)) (operands_at long ks o.1))
    (operand_at long k bytes)

-- the instruction of these operands
abbrev pub instr_of : Op → Bool → List Operand → Instr
instr_of op long os = record { op = op; long = long; args = record { items = os } }

-- the instruction of this operation whose operands are in front of `rest`, and its length, where it
-- begins with `total` bytes before the end
abbrev pub with_operation : Bool → ℕ → List ℕ → Option Op → Option (Instr × ℕ)
with_operation long total rest None = None
with_operation long total rest (Some op) =
    option_map
    (λ r. (instr_of op long r.0, total - length r.1))
    (operands_at long (kinds_of op) rest)

-- the instruction in front, and its length
abbrev pub front : List ℕ → Option (Instr × ℕ)
front [] = None
front (b ∷ rest) = with_operation (nat_le 128 b) (length rest + 1) rest (op_at (b % 128))

-- the instruction at this place, and its length in bytes; none where no whole instruction stands there
abbrev pub decode_at : List ℕ → ℕ → Option (Instr × ℕ)
decode_at bytes at = front (drop at bytes)

-- ---- writing

abbrev pub operand_bytes : Bool → List OperandKind → List Operand → List ℕ
operand_bytes long [] os = []
operand_bytes long (k ∷ ks) [] = []
operand_bytes long (k ∷ ks) (o ∷ os) =
    to_le_bytes (width (size_of long k)) (number_of (size_of long k) o) ++ operand_bytes long ks os

abbrev pub first_byte : Bool → Op → ℕ
first_byte long op = number_of_op op + (if long then 128 else 0)

-- the bytes of an instruction
abbrev pub spelling : Instr → List ℕ
spelling i = first_byte i.long i.op ∷ operand_bytes i.long (kinds_of i.op) i.args.items

-- the bytes of instructions in a row
abbrev pub spellings : List Instr → List ℕ
spellings [] = []
spellings (i ∷ is) = spelling i ++ spellings is

-- these are as many operands as kinds, each of its kind, and with room in its bytes
abbrev pub operands_fit : Bool → List OperandKind → List Operand → Bool
operands_fit long [] [] = true
operands_fit long [] (o ∷ os) = false
operands_fit long (k ∷ ks) [] = false
operands_fit long (k ∷ ks) (o ∷ os) = operand_fits (size_of long k) k o && operands_fit long ks os

-- the operands have the shape of the operation, and each fits the form
abbrev pub fits_of : Instr → Bool
fits_of i = operands_fit i.long (kinds_of i.op) i.args.items

-- in the short form where the operands fit it, else in the long form
abbrev pub shortest_of : Op → List Operand → Instr
shortest_of op os = instr_of op (not (operands_fit false (kinds_of op) os)) os
