use Rattle.std.proofs.Common.{◌≡◌, ◌++◌, take}
use Rattle.hermes.proofs.first.run.line.push_view.Given as goal

abbrev pub invariant-loop-i : goal.invariant-loop-i
invariant-loop-i l = l.line.items ≡ l.initial.line.items ++ take l.i l.text
