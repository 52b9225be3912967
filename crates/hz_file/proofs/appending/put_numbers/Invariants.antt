use Rattle.std.proofs.Common.{◌≡◌, ◌++◌, drop}
use Rattle.hz_file.specs.Image.{numbers}
use Rattle.hz_file.proofs.appending.put_numbers.Given as goal

abbrev pub invariant-loop-n : goal.invariant-loop-n
invariant-loop-n l = l.bytes.items ++ numbers 8 (drop l.n-index l.list) ≡ l.initial.bytes.items ++ numbers 8 l.list
