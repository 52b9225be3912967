use Rattle.std.proofs.Common.{◌≡◌, ◌++◌, reverse, length}
use Rattle.hz_cursor.specs.Marks.{dropped}
use Rattle.hz_cursor.proofs.tally.drop_all.Given as goal

abbrev pub invariant-loop-bracket : goal.invariant-loop-bracket
invariant-loop-bracket l =
    l.marks.items ++ dropped (reverse l.opened.items) ≡ l.initial.marks.items ++ dropped
    (reverse l.initial.opened.items)

abbrev pub decreases-loop-bracket : goal.decreases-loop-bracket
decreases-loop-bracket l = length l.opened.items
