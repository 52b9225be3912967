use Rattle.std.proofs.Common.{◌≡◌, ◌++◌, drop, option_map}
use Rattle.hz_ops.specs.code.Operands.{values_in}
use Rattle.hz_machine.proofs.rows.ends.values_in.Given as goal

-- what is found and what is to be found make the whole
abbrev pub invariant-loop-held : goal.invariant-loop-held
invariant-loop-held l =
    option_map (λ vs. l.values.items ++ vs) (values_in (drop l.held-index l.row)) ≡ values_in l.row
