-- The least of the errors that were found so far.
use Rattle.std.specs.Prelude.{ℕ, List, Option}
use Rattle.hz_tree.specs.sources.Least.{lesser, least_of}

-- with these errors beside it
abbrev pub noted : {K : Type 0} → (K → ℕ) → List (K × ℕ) → Option (K × ℕ) → Option (K × ℕ)
noted order errors least = lesser order least (least_of order errors)
