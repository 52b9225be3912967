use Rattle.std.proofs.Common.{◌≡◌, ◌≤◌, length, drop}
use Rattle.hz_ops.specs.Coding.{operands_at}
use Rattle.hz_ops.proofs.Reading.{with_front}
use Rattle.hz_ops.proofs.shape.read_operands.Given as goal

-- what is read and what is to be read make the whole
abbrev pub invariant-loop-kind : goal.invariant-loop-kind
invariant-loop-kind l =
    (with_front l.args.items (operands_at l.long (drop l.kind-index l.kinds) l.rest)
    ≡ operands_at l.long l.kinds l.fn.bytes)
    × (length l.args.items ≡ l.kind-index)
    × (length l.rest ≤ length l.fn.bytes)
