-- How a list of operands is read on.
use Rattle.std.proofs.Common.{ℕ, List, ◌++◌}
use Rattle.std.specs.Prelude.{Option, option_map}
use Rattle.hz_ops.specs.declared.op.Operand.{Operand}

-- the operands that were read before, in front of those that are read
abbrev pub with_front : List Operand → Option (List Operand × List ℕ) → Option (List Operand × List ℕ)
with_front before read = option_map (λ r. (before ++ r.0, r.1)) read
