use Rattle.std.proofs.Common.{ℕ, List}
use Rattle.hz_tree.specs.grammar.Look.{Terminal}
use Rattle.hz_middle.specs.Place.{left}
use Rattle.hz_parts.specs.declared.parts.Parts.{Parts as Stacks}
use Rattle.hz_parse.specs.Turns.{Going, measure}
use Rattle.hz_parse.proofs.turns.finish.Given as goal

abbrev pub invariant-loop-symbol : goal.invariant-loop-symbol
invariant-loop-symbol g l =
    (last : List Terminal) (whole : Stacks) (total : ℕ) → Going l.fn.reader l.fn.place l.fn.steps last whole
    total → Going l.reader l.place l.steps last whole total

abbrev pub decreases-loop-symbol : goal.decreases-loop-symbol
decreases-loop-symbol g l = measure l.reader.symbols l.reader.marks (left l.place)
