-- The units of string literals as far as a comparison with bytes needs them.
use Rattle.std.specs.Prelude.{ℕ, min, ◌&&◌, if◌then◌else◌, ◌==◌, nat_lt, List, [], ◌∷◌, Option, Some, None}

-- the first unit, or 256 where it is no byte
abbrev pub low_unit : List ℕ → Option ℕ
low_unit [] = None
low_unit (u ∷ more) = Some (min u 256)

-- what is wanted behind a part with this first unit, or None where another one is wanted
abbrev pub wanted_behind : List ℕ → (low : Option ℕ) → Option (List ℕ)
wanted_behind wanted None = Some wanted
wanted_behind [] (Some low) = None
wanted_behind (b ∷ more) (Some low) = if nat_lt low 256 && b == low then Some more else None
