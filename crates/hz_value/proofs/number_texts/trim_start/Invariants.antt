use Rattle.std.proofs.Common.{◌≡◌, length}
use Rattle.hz_value.specs.NumberTexts.{trim_front}
use Rattle.hz_value.proofs.number_texts.trim_start.Given as goal

-- only blanks were left out
abbrev pub invariant-loop-left : goal.invariant-loop-left
invariant-loop-left l = trim_front l.left ≡ trim_front l.fn.units

abbrev pub decreases-loop-left : goal.decreases-loop-left
decreases-loop-left l = length l.left
