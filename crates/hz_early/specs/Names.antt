-- The places of names in a list of names.
use Rattle.std.specs.Prelude.{◌≡◌, ℕ, if◌then◌else◌, List, [], ◌∷◌, length, map, Option, Some, None}
use Rattle.std.specs.Str.{bytes_eq}
use Rattle.hz_tree.specs.tokens.Text.{Text}
use Rattle.hz_early.specs.declared.names.Entry.{Entry}

-- the names of the entries
abbrev pub names_of : List Entry → List Text
names_of entries = map (λ e. e.name.now) entries

-- The place of the last entry of a name. Here and below the list goes from the last entry to the first.
abbrev pub last_place : Text → List Entry → Option ℕ
last_place name [] = None
last_place name (e ∷ before) = if bytes_eq e.name.now name then Some (length before) else last_place name before

-- each entry knows the place of the entry before it of the same name
abbrev pub IsLinked : List Entry → Type 0
IsLinked [] = Unit {0}
IsLinked (e ∷ before) = (e.previous ≡ last_place e.name.now before) × IsLinked before

-- and `places` knows the last of each name
abbrev pub IsIndexed : List Entry → (Text → Option ℕ) → Type 0
IsIndexed entries places = ((name : Text) → places name ≡ last_place name entries) × IsLinked entries
