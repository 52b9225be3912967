-- A script as a module.
use Rattle.std.specs.Prelude.{ℕ, List, [], ◌∷◌}
use Rattle.hz_ops.specs.Activations.{Module}

-- the module whose only function has this code
abbrev pub script : List ℕ → List (List ℕ) → ℕ → Module
script code texts registers = record { functions = record { code = code; registers = registers } ∷ []; texts = texts }
