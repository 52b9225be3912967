use Rattle.std.proofs.Common.{◌≡◌, map, replicate}
use Rattle.hz_ops.specs.Contents as content
use Rattle.hermes.specs.first.Rows.{content_of}
use Rattle.hermes.proofs.first.run.code.entered.Given as goal

abbrev pub invariant-loop : goal.invariant-loop
invariant-loop l = map content_of l.registers.items ≡ replicate l.counter content.Undefined
