use Rattle.std.proofs.Common.{◌≡◌, ◌++◌, take}
use Rattle.std.specs.Prelude.{flat_map}
use Rattle.hermes.specs.first.Generated.{addend_code}
use Rattle.hermes.proofs.first.generate.sums.push_addends.Given as goal

abbrev pub invariant-loop-addend : goal.invariant-loop-addend
invariant-loop-addend l = l.code.items ≡ l.initial.code.items ++ flat_map addend_code (take l.addend-index l.addends)
