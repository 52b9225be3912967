use Rattle.std.proofs.Common.{◌≡◌, replicate}
use Rattle.hz_value.specs.declared.values.Value.TheVariants as value
use Rattle.hz_ops.specs.declared.held.Held.TheVariants as held
use Rattle.hz_machine.proofs.start.fresh_registers.Given as goal

abbrev pub invariant-loop : goal.invariant-loop
invariant-loop l = l.registers.items ≡ replicate l.counter (held.Value value.Undefined)
