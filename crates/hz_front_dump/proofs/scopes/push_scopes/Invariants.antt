use Rattle.std.proofs.Common.{◌≡◌, ◌++◌, take}
use Rattle.std.specs.List.{flat_map, enumerate_from}
use Rattle.hz_resolve.specs.Places.{place_at}
use Rattle.hz_front_dump.specs.Dump.{scope_lines}
use Rattle.hz_front_dump.proofs.scopes.push_scopes.Given as goal

abbrev pub invariant-loop-i : goal.invariant-loop-i
invariant-loop-i l =
    l.text.items
    ≡ l.initial.text.items ++ flat_map (scope_lines (place_at l.layout l.k)) (take l.i (enumerate_from 0 l.scopes))
