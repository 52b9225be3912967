use Rattle.std.proofs.Common.{◌≡◌, ◌+◌, ◌≤◌, min, drop}
use Rattle.hz_list.specs.declared.limits.TheConstants.{MAX_SAFE}
use Rattle.hz_tree.specs.tokens.Numbers.{value_from}
use Rattle.hz_scan.proofs.numbers.value.Given as goal

abbrev pub invariant-loop-b : goal.invariant-loop-b
invariant-loop-b l =
    (min (value_from l.radix l.value (drop l.b-index l.digits)) (MAX_SAFE + 1)
    ≡ min (value_from l.radix 0 l.digits) (MAX_SAFE + 1)) × (l.value ≤ MAX_SAFE + 1)
