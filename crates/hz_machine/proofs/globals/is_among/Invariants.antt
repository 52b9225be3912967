use Rattle.std.proofs.Common.{◌≡◌, bytes_eq, drop}
use Rattle.std.specs.List.{list_any}
use Rattle.hz_machine.specs.Globals.{texts_of}
use Rattle.hz_machine.proofs.globals.is_among.Given as goal

abbrev pub invariant-loop-text : goal.invariant-loop-text
invariant-loop-text l =
    list_any (bytes_eq l.name) (texts_of (drop l.text-index l.names)) ≡ list_any (bytes_eq l.name) (texts_of l.names)
