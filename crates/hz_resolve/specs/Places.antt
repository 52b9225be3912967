-- The places of names, function by function and scope by scope.
use Rattle.std.specs.Prelude.{◌≡◌, ℕ, List, Option, option_and_then, slice_get}
use Rattle.hz_tree.specs.declared.place.Place.{Place}
use Rattle.hz_tree.specs.trees.FunctionScopes.{FunctionScopes}
use Rattle.hz_tree.specs.trees.Layout.{layout}

abbrev pub Places : Type 0
Places = List (List (List Place))

-- the place of the name with the number n among those of scope i of function k
abbrev pub place_at : Places → (k i n : ℕ) → Option Place
place_at places k i n =
    option_and_then (λ (f : List (List Place)). option_and_then (λ (s : List Place). slice_get s n) (slice_get f i))
    (slice_get places k)

-- these are the places that the layout of the functions has
abbrev pub ArePlacesOf : List FunctionScopes → Places → Type 0
ArePlacesOf fs places = (k i n : ℕ) → place_at places k i n ≡ layout fs k i n
