-- Where functions start.
use Rattle.std.specs.Prelude.{◌≡◌, ℕ, suc, ◌≤◌, List, [], ◌∷◌, map}
use Rattle.hz_tree.specs.declared.index.FunctionInfo.{FunctionInfo}

-- the numbers rise, the first one from this one on
abbrev pub Rises : (from : ℕ) → List ℕ → Type 0
Rises from [] = Unit {0}
Rises from (x ∷ xs) = (from ≤ x) × Rises (suc x) xs

-- the script starts at 0, and the other functions one behind the other
abbrev pub StartsRise : List FunctionInfo → Type 0
StartsRise [] = Unit {0}
StartsRise (script ∷ others) = (script.start ≡ 0) × Rises 0 (map (λ f. f.start) others)
