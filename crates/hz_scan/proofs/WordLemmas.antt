-- A word is looked up among the reserved words with its first letter.
use Rattle.std.proofs.Common.{◌≡◌, ℕ, Bool, true, false, ◌||◌, ◌&&◌, cond, ◌==◌, List, [], ◌∷◌, filter, refl, ap, sym}
use Rattle.std.proofs.Common.{◌∙◌, arith}
use Rattle.std.proofs.lemmas.Bool.Decides.{nat_tests}
use Rattle.std.proofs.lemmas.Slice.Eq.{bytes_eq-Decides}
use Rattle.std.specs.List.{list_any, list_all}
use Rattle.std.specs.Str.{bytes_eq}

pub other_word : (w word : List ℕ) → (w ≡ word → ⊥) → bytes_eq w word ≡ false
other_word w word other =
    elim (bytes_eq w word) as (λ t. bytes_eq w word ≡ t → t ≡ false) [
      | true ↦ λ e. absurd (other ((bytes_eq-Decides w word).0 e))
      | false ↦ λ e. refl
    ] refl

-- a test that the word does not pass tells it from each word that does
tells_apart : (p : List ℕ → Bool) (w word : List ℕ) → p w ≡ true → p word ≡ false → bytes_eq w word ≡ false
tells_apart p w word passes fails = other_word w word (λ same. let clash : true ≡ false = sym passes ∙ ap p same
    ∙ fails in cc)

pub both_true : (a b : Bool) → (a && b) ≡ true → (a ≡ true) × (b ≡ true)
both_true true true h = (refl, refl)
both_true true false h = absurd (cc)
both_true false b h = absurd (cc)

pub none_among : (p : List ℕ → Bool) (words : List (List ℕ)) (word : List ℕ) → list_all p words ≡ true → p word ≡ false
    → list_any (λ w. bytes_eq w word) words ≡ false
none_among p [] word all fails = refl
none_among p (w ∷ words) word all fails =
    let split : (p w ≡ true) × (list_all p words ≡ true) = both_true (p w) (list_all p words) all in
    rw (tells_apart p w word split.0 fails) (none_among p words word split.1 fails)

-- only the words to which a test gives the same number can be this word
pub alike : (key : List ℕ → ℕ) (n : ℕ) (words : List (List ℕ)) (word : List ℕ) → key word ≡ n
    → list_any (λ w. bytes_eq w word) (filter (λ w. key w == n) words) ≡ list_any (λ w. bytes_eq w word) words
alike key n [] word is = refl
alike key n (w ∷ words) word is =
    elim (key w == n) as (λ t. (key w == n) ≡ t
    → list_any (λ v. bytes_eq v word) (cond t (w ∷ filter (λ v. key v == n) words) (filter (λ v. key v == n) words))
    ≡ (bytes_eq w word || list_any (λ v. bytes_eq v word) words)) [
      | true ↦ λ e. ap (λ t. bytes_eq w word || t) (alike key n words word is)
      | false ↦ λ e.
          let other : bytes_eq w word ≡ false = other_word w word (λ same. grind (arith, nat_tests, ap key same)) in
          rw other (alike key n words word is)
    ] refl
