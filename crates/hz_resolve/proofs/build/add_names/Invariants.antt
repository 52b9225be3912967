use Rattle.std.proofs.Common.{◌≡◌, ◌++◌, ◌-◌, take, map, length}
use Rattle.hz_resolve.specs.Numbered.{use_in}
use Rattle.hz_resolve.specs.Views.{known_use}
use Rattle.hz_resolve.proofs.build.add_names.Given as goal

abbrev pub invariant-loop-name : goal.invariant-loop-name
invariant-loop-name l =
    map known_use l.names.items
    ≡ map known_use l.initial.names.items ++ map (use_in l.scope.scope) (take l.i l.scope.scope.names)

abbrev pub decreases-loop-name : goal.decreases-loop-name
decreases-loop-name l = length l.scope.scope.names - l.i
