use Rattle.std.proofs.Common.{◌≡◌, [], reverse, length}
use Rattle.hz_cursor.proofs.AnswerLemmas.{back}
use Rattle.hz_cursor.proofs.arrows.flags_of.Given as goal

abbrev pub invariant-loop-mark : goal.invariant-loop-mark
invariant-loop-mark l =
    back (reverse l.marks.items) (reverse l.flags.items) (reverse l.pending.items)
    ≡ back (reverse l.initial.marks.items) [] []

abbrev pub decreases-loop-mark : goal.decreases-loop-mark
decreases-loop-mark l = length l.marks.items
