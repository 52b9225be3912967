use Rattle.std.proofs.Common.{length}
use Rattle.hz_cursor.proofs.ReadLemmas.{Underway}
use Rattle.hz_cursor.proofs.reading.read_tokens.Given as goal

abbrev pub invariant-loop-tally : goal.invariant-loop-tally
invariant-loop-tally l = Underway l.source l.store l.tally l.left

abbrev pub decreases-loop-tally : goal.decreases-loop-tally
decreases-loop-tally l = length l.left
