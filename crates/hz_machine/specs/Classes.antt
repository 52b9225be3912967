-- Classes of operations: a match over one of them has at most twenty arms.
use Rattle.hz_ops.specs.declared.op.Op.{Op}
use Rattle.hz_ops.specs.declared.op.Op.TheVariants as op
use Rattle.hz_machine.specs.declared.rows.dispatch.Class.{Class}
use Rattle.hz_machine.specs.declared.rows.dispatch.Class.TheVariants.{Load, Name, Number, Operator, Jump, End}

abbrev pub class_of : Op → Class
class_of op.LoadUndefined = Load
class_of op.LoadNull = Load
class_of op.LoadTrue = Load
class_of op.LoadFalse = Load
class_of op.LoadEmpty = Load
class_of op.LoadInt = Load
class_of op.Move = Load
class_of op.LoadString = Name
class_of op.CheckInit = Name
class_of op.ThrowConst = Name
class_of op.LoadGlobal = Name
class_of op.TypeofGlobal = Name
class_of op.StoreGlobal = Name
class_of op.DeclareGlobal = Name
class_of op.Sub = Number
class_of op.Mul = Number
class_of op.Div = Number
class_of op.Rem = Number
class_of op.Pow = Number
class_of op.And = Number
class_of op.Or = Number
class_of op.Xor = Number
class_of op.Shl = Number
class_of op.Sar = Number
class_of op.Shr = Number
class_of op.Quot = Number
class_of op.Jump = Jump
class_of op.JumpTrue = Jump
class_of op.JumpFalse = Jump
class_of op.JumpNullish = Jump
class_of op.JumpUndefined = Jump
class_of op.JumpIs = Jump
class_of op.Return = End
class_of op.Throw = End
class_of op.Call = End
class_of other = Operator
