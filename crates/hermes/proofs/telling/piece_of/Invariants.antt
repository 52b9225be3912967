-- The piece, with the text of the units that are left, is the whole text; where nothing is in the piece, all are left.
use Rattle.std.proofs.Common.{◌≡◌, ◌<◌, ◌⊎◌, [], ◌++◌, length}
use Rattle.hermes.specs.Printing.{utf8}
use Rattle.hermes.proofs.telling.piece_of.Given as goal

abbrev pub invariant-loop-c : goal.invariant-loop-c
invariant-loop-c l =
    (utf8 l.fn.units ≡ l.piece.bytes ++ utf8 l.rest)
    × (((l.piece.bytes ≡ []) × (l.rest ≡ l.fn.units)) ⊎ (length l.rest < length l.fn.units))

abbrev pub decreases-loop-c : goal.decreases-loop-c
decreases-loop-c l = length l.rest
