use Rattle.std.proofs.Common.{◌≡◌, take}
use Rattle.hz_scopes.specs.Entries.{texts_of}
use Rattle.hz_scopes.specs.Naming.{used_names, with_names}
use Rattle.hz_scopes.proofs.naming.add_free.Given as goal

abbrev pub invariant-loop-name : goal.invariant-loop-name
invariant-loop-name l = l.table ≡ with_names (used_names (texts_of (take l.name-index l.names))) l.initial.table
