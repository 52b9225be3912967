use Rattle.std.proofs.Common.{◌≡◌, ◌++◌, take}
use Rattle.std.specs.Prelude.{flat_map}
use Rattle.hermes.specs.first.Generated.{factor_code}
use Rattle.hermes.proofs.first.generate.sums.push_factors.Given as goal

abbrev pub invariant-loop-number : goal.invariant-loop-number
invariant-loop-number l = l.code.items
    ≡ l.initial.code.items ++ flat_map (factor_code l.to) (take l.number-index l.factors)
