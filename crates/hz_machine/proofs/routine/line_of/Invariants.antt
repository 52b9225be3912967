use Rattle.std.proofs.Common.{◌≡◌, ◌++◌, drop}
use Rattle.std.specs.List.{join_with_byte}
use Rattle.hz_machine.specs.Kept.{store_of}
use Rattle.hz_machine.specs.Routines.{texts_of}
use Rattle.hz_machine.proofs.Lines.{behind}
use Rattle.hz_machine.proofs.routine.line_of.Given as goal

abbrev pub invariant-loop-value : goal.invariant-loop-value
invariant-loop-value l =
    l.line.items ++ behind (texts_of (store_of l.kept) (drop l.value-index l.rest))
    ≡ join_with_byte 32 (texts_of (store_of l.kept) l.fn.arguments)
