use Rattle.std.proofs.Common.{◌≡◌, take, length}
use Rattle.hz_ops.specs.Contents.{print_name}
use Rattle.hermes.proofs.first.run.rows.is_print.Given as goal

abbrev pub invariant-loop-i : goal.invariant-loop-i
invariant-loop-i l = (length l.name ≡ 5) × (take l.i l.name ≡ take l.i print_name)
