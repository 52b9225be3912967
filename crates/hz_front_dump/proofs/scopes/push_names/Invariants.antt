use Rattle.std.proofs.Common.{◌≡◌, ◌++◌, take}
use Rattle.std.specs.List.{flat_map, enumerate_from}
use Rattle.hz_resolve.specs.Places.{place_at}
use Rattle.hz_front_dump.specs.Dump.{name_line}
use Rattle.hz_front_dump.proofs.scopes.push_names.Given as goal

abbrev pub invariant-loop-n : goal.invariant-loop-n
invariant-loop-n l =
    l.text.items
    ≡ l.initial.text.items ++ flat_map (name_line (place_at l.layout l.k l.i)) (take l.n (enumerate_from 0 l.names))
