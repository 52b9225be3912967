use Rattle.std.proofs.Common.{◌≡◌, ◌+◌, ◌++◌, length, take, drop, true}
use Rattle.hz_ops.specs.Coding.{operand_bytes, operands_fit}
use Rattle.hz_ops.proofs.shape.write_operands.Given as goal

-- what is written and what is to be written make the whole, and nothing behind is touched
abbrev pub invariant-loop-i : goal.invariant-loop-i
invariant-loop-i l =
    (operands_fit l.long (drop l.i l.kinds) (drop l.i l.args) ≡ true)
    × (l.at + length (operand_bytes l.long (drop l.i l.kinds) (drop l.i l.args))
    ≡ l.start + length (operand_bytes l.long l.kinds l.args))
    × (take l.at l.buf ++ operand_bytes l.long (drop l.i l.kinds) (drop l.i l.args)
    ≡ take l.start l.fn.buf ++ operand_bytes l.long l.kinds l.args)
    × (drop l.at l.buf ≡ drop l.at l.fn.buf)
