use Rattle.std.proofs.Common.{◌≡◌, ◌+◌, length, drop}
use Rattle.std.specs.List.{concat}
use Rattle.hz_file.proofs.writing.units_in.Given as goal

abbrev pub invariant-loop-text : goal.invariant-loop-text
invariant-loop-text l = l.units + length (concat (drop l.text-index l.texts)) ≡ length (concat l.texts)
