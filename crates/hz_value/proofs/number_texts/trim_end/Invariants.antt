use Rattle.std.proofs.Common.{◌≡◌, ◌≤◌, length, reverse}
use Rattle.hz_value.specs.NumberTexts.{trim_front}
use Rattle.hz_value.proofs.number_texts.trim_end.Given as goal

-- only blanks were left out
abbrev pub invariant-loop-left : goal.invariant-loop-left
invariant-loop-left l = record {
  same : trim_front (reverse l.left) ≡ trim_front (reverse l.fn.units);
  shorter : length l.left ≤ length l.fn.units;
}

abbrev pub decreases-loop-left : goal.decreases-loop-left
decreases-loop-left l = length l.left
