use Rattle.std.proofs.Common.{◌≡◌, take, map}
use Rattle.hz_resolve.specs.Numbered.{uses_of}
use Rattle.hz_resolve.specs.Passes.{place_of_use}
use Rattle.hz_resolve.proofs.places.all_places.Given as goal

abbrev pub invariant-loop-number : goal.invariant-loop-number
invariant-loop-number l = l.places.items ≡ map (place_of_use l.table) (take l.number (uses_of l.table))
