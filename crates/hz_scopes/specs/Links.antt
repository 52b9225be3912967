-- The places of uses in a list of uses.
use Rattle.std.specs.Prelude.{◌≡◌, ◌<◌, ℕ, Bool, true, false, not, ◌&&◌, ◌||◌, nat_le, if◌then◌else◌, List, [], ◌∷◌}
use Rattle.std.specs.Prelude.{length}
use Rattle.std.specs.Prelude.{map, Option, Some, None}
use Rattle.std.specs.List.{filter}
use Rattle.std.specs.Str.{bytes_eq}
use Rattle.hz_tree.specs.tokens.Text.{Text}
use Rattle.hz_tree.specs.trees.FunctionScopes.{Used, used_within}
use Rattle.hz_scopes.specs.Layers.{Layers}
use Rattle.hz_scopes.specs.declared.uses.Use.{Use}

abbrev pub used_of : Use → Used
used_of u = record { name = u.name.now; inner = u.inner }

-- the uses that were not taken out
abbrev pub left_of : List Use → List Used
left_of uses = map used_of (filter (λ u. not u.taken) uses)

abbrev pub without : Text → List Used → List Used
without name used = filter (λ u. not (bytes_eq u.name name)) used

-- The place of the last use of a name that was not taken out. Here and below the list goes from the last use to the
-- first.
abbrev pub last_place : Text → List Use → Option ℕ
last_place name [] = None
last_place name (u ∷ before) =
    if not u.taken && bytes_eq u.name.now name then Some (length before) else last_place name before

-- each use knows the place of the one before it of the same name
abbrev pub IsLinked : List Use → Type 0
IsLinked [] = Unit {0}
IsLinked (u ∷ before) = (u.taken ≡ false → u.previous ≡ last_place u.name.now before) × IsLinked before

-- It is the first of its name from this place on. Each use knows the last one before it.
abbrev pub is_first : (start : ℕ) → Use → Bool
is_first start u = not u.taken && elim u.previous [ None ↦ true | Some place ↦ not (nat_le start place) ]

-- and `places` knows the last of each name
abbrev pub IsIndexed : List Use → (Text → Option ℕ) → Type 0
IsIndexed uses places = ((name : Text) → places name ≡ last_place name uses) × IsLinked uses

-- what is left when one use of a name is taken out
pub record IsOneLess (name : Text) (inner : Bool) (old new : Layers Used) : Type 0 where
  pub others : without name new.inner ≡ without name old.inner
  pub found : (inner || used_within new.inner name) ≡ used_within old.inner name
  pub fewer : length new.inner < length old.inner
  pub outer : new.outer ≡ old.outer

abbrev pub TakesOne : Text → Option Bool → (old new : Layers Used) → Type 0
TakesOne name None old new =
    (new ≡ old) × (without name old.inner ≡ old.inner) × (used_within old.inner name ≡ false)
TakesOne name (Some inner) old new = IsOneLess name inner old new
