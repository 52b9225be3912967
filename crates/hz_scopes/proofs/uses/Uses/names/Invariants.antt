use Rattle.std.proofs.Common.{◌≡◌, drop, map, take}
use Rattle.hz_scopes.proofs.UsesLemmas.{first_names}
use Rattle.hz_scopes.proofs.uses.Uses.names.Given as goal

abbrev pub invariant-loop-place : goal.invariant-loop-place
invariant-loop-place l =
    map (λ name. name.now) l.names.items ≡ first_names (drop l.start (take l.place l.self-inside.entries.items))
