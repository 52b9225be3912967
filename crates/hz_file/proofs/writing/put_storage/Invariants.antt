use Rattle.std.proofs.Common.{◌≡◌, ◌++◌, drop}
use Rattle.std.specs.List.{concat}
use Rattle.hz_file.proofs.writing.put_storage.Given as goal

abbrev pub invariant-loop-text : goal.invariant-loop-text
invariant-loop-text l = l.bytes.items ++ concat (drop l.text-index l.texts) ≡ l.initial.bytes.items ++ concat l.texts
