use Rattle.std.proofs.Common.{◌≡◌, take, map}
use Rattle.hz_resolve.specs.Numbered.{uses_of, scopes_of}
use Rattle.hz_resolve.specs.Views.{known_use}
use Rattle.hz_resolve.proofs.build.all_names.Given as goal

abbrev pub invariant-loop-scope : goal.invariant-loop-scope
invariant-loop-scope l = map known_use l.names.items ≡ uses_of (scopes_of (take l.scope-index l.scopes))
