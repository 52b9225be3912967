use Rattle.std.proofs.Common.{◌≡◌, ◌++◌, take}
use Rattle.hz_file.proofs.appending.put_text.Given as goal

abbrev pub invariant-loop-unit : goal.invariant-loop-unit
invariant-loop-unit l = l.bytes.items ≡ l.initial.bytes.items ++ take l.unit-index l.text
