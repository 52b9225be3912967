use Rattle.std.proofs.Common.{◌≡◌, take, map}
use Rattle.hz_resolve.specs.Numbered.{uses_of}
use Rattle.hz_resolve.specs.Passes.{has_slot_of}
use Rattle.hz_resolve.proofs.passes.slot_tests.Given as goal

abbrev pub invariant-loop-number : goal.invariant-loop-number
invariant-loop-number l = l.tests.items ≡ map (has_slot_of l.table) (take l.number (uses_of l.table))
