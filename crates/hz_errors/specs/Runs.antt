-- The levels of entries as parts of one list of places.
use Rattle.std.specs.Prelude.{◌≡◌, ◌<◌, ℕ, zero, suc, ◌-◌, ◌≤◌, min, List, [], ◌∷◌, slice_index, slice_set}
use Rattle.hz_errors.specs.declared.entries.Run.{Run}
use Rattle.hz_errors.specs.Levels.{Entry}

-- the last `len` places before `end`, the last one first
abbrev pub run_levels : (len end : ℕ) → (places : List ℕ) → List ℕ
run_levels zero end places = []
run_levels (suc len) end places = slice_index places (end - 1) ∷ run_levels len (end - 1) places

abbrev pub shown : List Run → (places : List ℕ) → List Entry
shown [] places = []
shown (run ∷ below) places =
    record { at = run.at; levels = run_levels run.len run.end places } ∷ shown below places

-- each run ends before the one above it begins, and the first one before the limit
abbrev pub AreStacked : (limit : ℕ) → List Run → Type 0
AreStacked limit [] = Unit {0}
AreStacked limit (run ∷ below) =
    (run.end ≤ limit) × (run.len ≤ run.end) × AreStacked (run.end - run.len) below

-- the places below `end` are the same
abbrev pub KeepsBelow : (end : ℕ) → (places places' : List ℕ) → Type 0
KeepsBelow end places places' = (k : ℕ) → k < end → slice_index places' k ≡ slice_index places k

-- The last places before `end` are lowered to the last ones before `other`, as many as `count`.
abbrev pub lowered : (count end other : ℕ) → List ℕ → List ℕ
lowered zero end other places = places
lowered (suc count) end other places =
    let before = lowered count end other places in
    slice_set before (end - 1 - count)
    (min (slice_index before (end - 1 - count)) (slice_index before (other - 1 - count)))
