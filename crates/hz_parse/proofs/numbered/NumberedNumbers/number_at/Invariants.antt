use Rattle.std.proofs.Common.{◌-◌}
use Rattle.hz_tree.specs.sources.Refusals.{functions as functions_in}
use Rattle.hz_parse.proofs.Numbering.{Between}
use Rattle.hz_parse.proofs.numbered.NumberedNumbers.number_at.Given as goal

abbrev pub invariant-loop-low : goal.invariant-loop-low
invariant-loop-low l = Between (functions_in l.fn.self.index.now.source) l.fn.place l.low l.high

abbrev pub decreases-loop-low : goal.decreases-loop-low
decreases-loop-low l = l.high - l.low
