-- Spellings by their first byte.
use Rattle.std.specs.Prelude.{ℕ, ◌==◌, List, filter, slice_index}
use Rattle.hz_tree.specs.declared.class.Class.{Class}
use Rattle.hz_tree.specs.tokens.Text.{Text}

abbrev pub beginning : (first : ℕ) → List (Text × Class) → List (Text × Class)
beginning first spellings = filter (λ s. slice_index s.0 0 == first) spellings
