use Rattle.std.proofs.Common.{◌≡◌, take}
use Rattle.std.specs.List.{filter}
use Rattle.hz_scopes.specs.Naming.{used_names, with_names, shows}
use Rattle.hz_scopes.proofs.naming.add_here.Given as goal

abbrev pub invariant-loop-place : goal.invariant-loop-place
invariant-loop-place l =
    l.table
    ≡ with_names (used_names (filter (shows l.binds l.arguments l.declared.inner) (take l.place l.here.inner)))
    l.initial.table
