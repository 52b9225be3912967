-- How far a punctuator goes.
use Rattle.std.specs.Prelude.{◌≢◌, ◌<◌, ◌≤◌, ℕ}

-- a spelling of this length goes on only where a byte stands, which is not 0
abbrev pub Reaches : (len second third fourth : ℕ) → Type 0
Reaches len second third fourth = (1 ≤ len) × (len ≤ 4) × (1 < len → second ≢ 0) × (2 < len → third ≢ 0)
    × (3 < len → fourth ≢ 0)
