use Rattle.std.proofs.Common.{◌≡◌, ◌≤◌, length}
use Rattle.std.specs.List.{list_any}
use Rattle.hz_file.specs.Layout.{wide_units}
use Rattle.hz_file.specs.Rules.{is_past_ascii}
use Rattle.hz_file.proofs.rules.texts.has_past_ascii.Given as goal

abbrev pub invariant-loop-left : goal.invariant-loop-left
invariant-loop-left l =
    (list_any is_past_ascii (wide_units l.left) ≡ list_any is_past_ascii (wide_units l.fn.text))
    × (length l.left ≤ length l.fn.text)

abbrev pub decreases-loop-left : goal.decreases-loop-left
decreases-loop-left l = length l.left
