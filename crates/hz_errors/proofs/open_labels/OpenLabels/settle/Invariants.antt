use Rattle.std.proofs.Common.{◌≡◌, length}
use Rattle.hz_errors.specs.OpenNames.{settled_names}
use Rattle.hz_errors.proofs.open_labels.OpenLabels.settle.Given as goal

abbrev pub invariant-loop-self : goal.invariant-loop-self
invariant-loop-self l = settled_names l.on_loop l.self ≡ settled_names l.on_loop l.initial.self

abbrev pub decreases-loop-self : goal.decreases-loop-self
decreases-loop-self l = length l.self.fresh
