-- What reads of a stream's first bytes give, where the stream tells what it has left.
use Rattle.std.specs.Prelude.{◌≡◌, ℕ, Bool, true, false, List, ◌++◌, take, Option, Some, None}
use Rattle.std.specs.Io.KnownBytes.{Consumes}

-- the first `most` of the bytes before and what was left behind them, or all where there are fewer
abbrev pub IsFront : List ℕ → Option (List ℕ) → ℕ → List ℕ → Type 0
IsFront before None most bytes = Unit {0}
IsFront before (Some left) most bytes = bytes ≡ take most (before ++ left)

-- a piece came behind the bytes before, as the last one or not
abbrev pub ReadsPiece : List ℕ → List ℕ → Option (List ℕ) → Option (List ℕ) → ℕ → Bool → Type 0
ReadsPiece before now left rest most true = IsFront before left most now
ReadsPiece before now left rest most false = (piece : List ℕ) × (now ≡ before ++ piece) × Consumes left rest piece
