use Rattle.std.proofs.Common.{◌≡◌, ◌++◌, map, take, true}
use Rattle.hz_scopes.specs.Entries.{texts_of}
use Rattle.hz_scopes.proofs.naming.use_free.Given as goal

abbrev pub invariant-loop-name : goal.invariant-loop-name
invariant-loop-name l =
    l.uses ≡ record l.initial.uses {
      inner = l.initial.uses.inner
          ++ map (λ name. record { name = name; inner = true }) (texts_of (take l.name-index l.names));
    }
