use Rattle.std.proofs.Common.{◌≡◌, true, length}
use Rattle.hz_cuts.specs.Rows.{is_close, left_at_close, some_symbol}
use Rattle.hz_parse.proofs.passing.drop_to_close.Given as goal

abbrev pub invariant-loop-symbol : goal.invariant-loop-symbol
invariant-loop-symbol l =
    (left_at_close l.symbols ≡ left_at_close l.fn.symbols) × (some_symbol is_close l.symbols ≡ true)

abbrev pub decreases-loop-symbol : goal.decreases-loop-symbol
decreases-loop-symbol l = length l.symbols
