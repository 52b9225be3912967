-- The table of instructions: a row for each operation, with its number and the kinds of its operands.
use Rattle.std.specs.Prelude.{ℕ, List, [], ◌∷◌, ◌==◌, if◌then◌else◌, Option, Some, None}
use Rattle.hz_ops.specs.declared.op.Op.{Op}
use Rattle.hz_ops.specs.declared.op.Op.TheVariants.{LoadUndefined, LoadNull, LoadTrue, LoadFalse, LoadEmpty, LoadInt}
use Rattle.hz_ops.specs.declared.op.Op.TheVariants.{LoadString, Move, CheckInit, ThrowConst, LoadGlobal, TypeofGlobal}
use Rattle.hz_ops.specs.declared.op.Op.TheVariants.{StoreGlobal, DeclareGlobal, Add, Sub, Mul, Div, Rem, Pow, And, Or}
use Rattle.hz_ops.specs.declared.op.Op.TheVariants.{Xor, Shl, Sar, Shr, Quot, Neg, BitNot, Not, ToNumber, Typeof, Inc}
use Rattle.hz_ops.specs.declared.op.Op.TheVariants.{Dec, ToText, Equal, StrictEqual, Less, LessEqual, Greater}
use Rattle.hz_ops.specs.declared.op.Op.TheVariants.{GreaterEqual, Jump, JumpTrue, JumpFalse, JumpNullish}
use Rattle.hz_ops.specs.declared.op.Op.TheVariants.{JumpUndefined, JumpIs, Return, Throw, Call}
use Rattle.hz_ops.specs.declared.op.OperandKind.{OperandKind}
use Rattle.hz_ops.specs.declared.op.OperandKind.TheVariants.{Register, Text, Int, Jump as JumpKind, Count}

pub record Row : Type 0 where
  pub number : ℕ
  pub kinds : List OperandKind

abbrev pub row_of : Op → Row
row_of LoadUndefined = record { number = 1; kinds = Register ∷ [] }
row_of LoadNull = record { number = 2; kinds = Register ∷ [] }
row_of LoadTrue = record { number = 3; kinds = Register ∷ [] }
row_of LoadFalse = record { number = 4; kinds = Register ∷ [] }
row_of LoadEmpty = record { number = 5; kinds = Register ∷ [] }
row_of LoadInt = record { number = 6; kinds = Register ∷ Int ∷ [] }
row_of LoadString = record { number = 7; kinds = Register ∷ Text ∷ [] }
row_of Move = record { number = 8; kinds = Register ∷ Register ∷ [] }
row_of CheckInit = record { number = 21; kinds = Register ∷ Text ∷ [] }
row_of ThrowConst = record { number = 22; kinds = Text ∷ [] }
row_of LoadGlobal = record { number = 23; kinds = Register ∷ Text ∷ [] }
row_of TypeofGlobal = record { number = 24; kinds = Register ∷ Text ∷ [] }
row_of StoreGlobal = record { number = 25; kinds = Text ∷ Register ∷ [] }
row_of DeclareGlobal = record { number = 26; kinds = Text ∷ [] }
row_of Add = record { number = 27; kinds = Register ∷ Register ∷ Register ∷ [] }
row_of Sub = record { number = 28; kinds = Register ∷ Register ∷ Register ∷ [] }
row_of Mul = record { number = 29; kinds = Register ∷ Register ∷ Register ∷ [] }
row_of Div = record { number = 30; kinds = Register ∷ Register ∷ Register ∷ [] }
row_of Rem = record { number = 31; kinds = Register ∷ Register ∷ Register ∷ [] }
row_of Pow = record { number = 32; kinds = Register ∷ Register ∷ Register ∷ [] }
row_of And = record { number = 33; kinds = Register ∷ Register ∷ Register ∷ [] }
row_of Or = record { number = 34; kinds = Register ∷ Register ∷ Register ∷ [] }
row_of Xor = record { number = 35; kinds = Register ∷ Register ∷ Register ∷ [] }
row_of Shl = record { number = 36; kinds = Register ∷ Register ∷ Register ∷ [] }
row_of Sar = record { number = 37; kinds = Register ∷ Register ∷ Register ∷ [] }
row_of Shr = record { number = 38; kinds = Register ∷ Register ∷ Register ∷ [] }
row_of Quot = record { number = 39; kinds = Register ∷ Register ∷ Register ∷ [] }
row_of Neg = record { number = 41; kinds = Register ∷ Register ∷ [] }
row_of BitNot = record { number = 42; kinds = Register ∷ Register ∷ [] }
row_of Not = record { number = 43; kinds = Register ∷ Register ∷ [] }
row_of ToNumber = record { number = 44; kinds = Register ∷ Register ∷ [] }
row_of Typeof = record { number = 45; kinds = Register ∷ Register ∷ [] }
row_of Inc = record { number = 46; kinds = Register ∷ Register ∷ [] }
row_of Dec = record { number = 47; kinds = Register ∷ Register ∷ [] }
row_of ToText = record { number = 49; kinds = Register ∷ Register ∷ [] }
row_of Equal = record { number = 50; kinds = Register ∷ Register ∷ Register ∷ [] }
row_of StrictEqual = record { number = 51; kinds = Register ∷ Register ∷ Register ∷ [] }
row_of Less = record { number = 52; kinds = Register ∷ Register ∷ Register ∷ [] }
row_of LessEqual = record { number = 53; kinds = Register ∷ Register ∷ Register ∷ [] }
row_of Greater = record { number = 54; kinds = Register ∷ Register ∷ Register ∷ [] }
row_of GreaterEqual = record { number = 55; kinds = Register ∷ Register ∷ Register ∷ [] }
row_of Jump = record { number = 58; kinds = JumpKind ∷ [] }
row_of JumpTrue = record { number = 59; kinds = Register ∷ JumpKind ∷ [] }
row_of JumpFalse = record { number = 60; kinds = Register ∷ JumpKind ∷ [] }
row_of JumpNullish = record { number = 61; kinds = Register ∷ JumpKind ∷ [] }
row_of JumpUndefined = record { number = 62; kinds = Register ∷ JumpKind ∷ [] }
row_of JumpIs = record { number = 63; kinds = Register ∷ Int ∷ JumpKind ∷ [] }
row_of Return = record { number = 64; kinds = Register ∷ [] }
row_of Throw = record { number = 65; kinds = Register ∷ [] }
row_of Call = record { number = 83; kinds = Register ∷ Register ∷ Register ∷ Register ∷ Count ∷ [] }

-- all operations
abbrev pub operations : List Op
operations =
    LoadUndefined ∷ LoadNull ∷ LoadTrue ∷ LoadFalse ∷ LoadEmpty ∷ LoadInt ∷ LoadString ∷ Move ∷ CheckInit ∷
    ThrowConst ∷ LoadGlobal ∷ TypeofGlobal ∷ StoreGlobal ∷ DeclareGlobal ∷ Add ∷ Sub ∷ Mul ∷ Div ∷ Rem ∷ Pow ∷ And ∷
    Or ∷ Xor ∷ Shl ∷ Sar ∷ Shr ∷ Quot ∷ Neg ∷ BitNot ∷ Not ∷ ToNumber ∷ Typeof ∷ Inc ∷ Dec ∷ ToText ∷ Equal ∷
    StrictEqual ∷ Less ∷ LessEqual ∷ Greater ∷ GreaterEqual ∷ Jump ∷ JumpTrue ∷ JumpFalse ∷ JumpNullish ∷
    JumpUndefined ∷ JumpIs ∷ Return ∷ Throw ∷ Call ∷ []

abbrev pub number_of_op : Op → ℕ
number_of_op op = (row_of op).number

abbrev pub kinds_of : Op → List OperandKind
kinds_of op = (row_of op).kinds

-- the first of these operations that has this number
abbrev pub among : ℕ → List Op → Option Op
among n [] = None
among n (op ∷ ops) = if number_of_op op == n then Some op else among n ops

-- the operation with this number
unfoldable pub op_at : ℕ → Option Op
op_at n = among n operations
