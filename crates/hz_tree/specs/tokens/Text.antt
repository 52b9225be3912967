-- A source from some place on, and what repeats at its front.
use Rattle.std.specs.Prelude.{ℕ, zero, suc, ◌+◌, ◌-◌, Bool, true, false, ◌&&◌, ◌||◌, if◌then◌else◌, ◌==◌, List, []}
use Rattle.std.specs.Prelude.{◌∷◌, slice_index}
use Rattle.hz_tree.specs.declared.front.Stretch.{Stretch}

-- Bytes. A text reads as 0 past its end.
abbrev pub Text : Type 0
Text = List ℕ

abbrev pub reads_at : ℕ → List ℕ → Text → Bool
reads_at place [] z = true
reads_at place (b ∷ spelling) z = slice_index z place == b && reads_at (suc place) spelling z

-- the text begins with the spelling, which holds no 0
abbrev pub begins : List ℕ → Text → Bool
begins spelling z = reads_at 0 spelling z

abbrev pub none : Stretch
none = record { len = 0; marked = false }

abbrev pub plain : ℕ → Stretch
plain n = record { len = n; marked = false }

abbrev pub joined : Stretch → Stretch → Stretch
joined a b = record { len = a.len + b.len; marked = a.marked || b.marked }

-- The parts at the front of the text, each behind the one before it, up to where none stands.
-- `left` counts the bytes of the last one that are still to be passed.
abbrev pub run_from : (Text → Stretch) → ℕ → Text → Stretch
run_from part left [] = none
run_from part (suc left) (b ∷ z) = run_from part left z
run_from part zero (b ∷ z) =
    let p = part (b ∷ z) in if p.len == 0 then none else joined p (run_from part (p.len - 1) z)

-- All of them as one: the length is their sum, and it is marked where one of them is.
unfoldable pub run : (Text → Stretch) → Text → Stretch
run part z = run_from part 0 z
