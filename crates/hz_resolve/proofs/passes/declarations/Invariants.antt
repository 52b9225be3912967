use Rattle.std.proofs.Common.{◌≡◌, take, map}
use Rattle.hz_resolve.specs.Numbered.{uses_of}
use Rattle.hz_resolve.specs.Passes.{found_of}
use Rattle.hz_resolve.proofs.passes.declarations.Given as goal

abbrev pub invariant-loop-number : goal.invariant-loop-number
invariant-loop-number l = l.found.items ≡ map (found_of l.table) (take l.number (uses_of l.table))
