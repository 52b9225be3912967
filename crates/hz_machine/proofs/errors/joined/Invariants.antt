use Rattle.std.proofs.Common.{◌≡◌, ◌++◌, take}
use Rattle.hz_machine.proofs.errors.joined.Given as goal

abbrev pub invariant-loop-byte : goal.invariant-loop-byte
invariant-loop-byte l = l.whole.items ≡ l.initial.whole.items ++ take l.byte-index l.byte-items
