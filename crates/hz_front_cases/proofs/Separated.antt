-- Texts that are written one behind the other are separated as their elements say.
use Rattle.std.proofs.Common.{◌≡◌, ◌≤◌, ◌+◌, refl, ap, sym, ◌∙◌, ℕ, List}
use Rattle.std.proofs.Common.{[], ◌∷◌, ◌++◌, map, take, length, Some, slice_get, string_bytes}
use Rattle.std.specs.Prelude.{String}
use Rattle.std.specs.List.{flat_map, join_by}
use Rattle.std.proofs.lemmas.List.{map-append, take_more, take_all}
use Rattle.std.proofs.lemmas.Option.{slice_get_within, get_or_from_slice_get}
use Rattle.hz_tree.specs.tokens.Text.{Text}
use Rattle.hz_front_cases.specs.Answers.{separated}

later_words : {X : Type 0} (word : X → Text) (between : Text) (xs : List X)
    → flat_map (λ x. between ++ word x) xs ≡ flat_map (λ w. between ++ w) (map word xs)
later_words word between [] = refl
later_words word between (x ∷ xs) = ap (λ more. (between ++ word x) ++ more) (later_words word between xs)

separated_words : {X : Type 0} (word : X → Text) (between : Text) (xs : List X)
    → join_by word between xs ≡ separated between (map word xs)
separated_words word between [] = refl
separated_words word between (x ∷ xs) = ap (λ more. word x ++ more) (later_words word between xs)

-- all words are there
pub all_words : {Y X : Type 0} (word : X → Text) (between : Text) (words : List (String Y)) (xs : List X) (k : ℕ)
    → map string_bytes words ≡ map word (take k xs) → length xs ≤ k
    → join_by string_bytes between words ≡ separated between (map word xs)
all_words word between words xs k same all =
    separated_words string_bytes between words ∙ ap (separated between) (same ∙ ap (map word) (take_all k xs all))

-- one more word
pub one_more_word : {Y X : Type 0} (word : X → Text) (words : List (String Y)) (made : String Y)
    → (xs : List X) (k : ℕ) (x : X)
    → map string_bytes words ≡ map word (take k xs) → slice_get xs k ≡ Some x → string_bytes made ≡ word x
    → map string_bytes (words ++ made ∷ []) ≡ map word (take (k + 1) xs)
one_more_word word words made xs k x same found says =
    let more : take (k + 1) xs ≡ take k xs ++ x ∷ [] =
    take_more xs k x (slice_get_within xs k x found)
    ∙ ap (λ y. take k xs ++ y ∷ []) (get_or_from_slice_get xs k x x found) in
    map-append string_bytes words (made ∷ [])
    ∙ ap (λ front. front ++ string_bytes made ∷ []) same
    ∙ ap (λ w. map word (take k xs) ++ w ∷ []) says
    ∙ sym (ap (map word) more ∙ map-append word (take k xs) (x ∷ []))

pub map_twice : {X Y : Type 0} (word : Y → Text) (f : X → Y) (xs : List X)
    → map (λ x. word (f x)) xs ≡ map word (map f xs)
map_twice word f [] = refl
map_twice word f (x ∷ xs) = ap (λ more. word (f x) ∷ more) (map_twice word f xs)
