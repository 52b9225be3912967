-- A text is looked up among the spellings with its first byte.
use Rattle.std.proofs.Common.{◌≡◌, ℕ, Bool, true, false, cond, ◌==◌, List, [], ◌∷◌, slice_index, refl, ap, sym, ◌∙◌}
use Rattle.std.proofs.Common.{arith}
use Rattle.std.proofs.lemmas.Bool.Decides.{nat_tests}
use Rattle.std.specs.List.{list_all}
use Rattle.std.specs.Str.{bytes_eq}
use Rattle.hz_tree.specs.declared.class.Class.{Class}
use Rattle.hz_tree.specs.tokens.Text.{Text}
use Rattle.hz_tree.specs.grammar.Classes.{spelled}
use Rattle.hz_scan.specs.Spelling.{beginning}
use Rattle.hz_scan.proofs.WordLemmas.{other_word, both_true}

abbrev first : Text → ℕ
first text = slice_index text 0

pub alike : (n : ℕ) (spellings : List (Text × Class)) (other : Class) (text : Text) → first text ≡ n
    → spelled (beginning n spellings) other text ≡ spelled spellings other text
alike n [] other text is = refl
alike n (s ∷ more) other text is =
    elim (first s.0 == n) as (λ t. (first s.0 == n) ≡ t
    → spelled (cond t (s ∷ beginning n more) (beginning n more)) other text
    ≡ cond (bytes_eq s.0 text) s.1 (spelled more other text)) [
      | true ↦ λ e. ap (λ c. cond (bytes_eq s.0 text) s.1 c) (alike n more other text is)
      | false ↦ λ e.
          let differs : bytes_eq s.0 text ≡ false = other_word s.0 text
          (λ same. grind (arith, nat_tests, ap first same)) in
          rw differs (alike n more other text is)
    ] refl

-- where a test on the first byte holds of all spellings and not of the text
pub none_alike : (p : ℕ → Bool) (spellings : List (Text × Class)) (other : Class) (text : Text)
    → list_all (λ s. p (first s.0)) spellings ≡ true → p (first text) ≡ false → spelled spellings other text ≡ other
none_alike p [] other text all fails = refl
none_alike p (s ∷ more) other text all fails =
    let split : (p (first s.0) ≡ true) × (list_all (λ s. p (first s.0)) more ≡ true)
    = both_true (p (first s.0)) (list_all (λ s. p (first s.0)) more) all in
    let differs : bytes_eq s.0 text ≡ false
    = other_word s.0 text (λ same. let clash : true ≡ false = sym split.0 ∙ ap (λ z. p (first z)) same ∙ fails in cc) in
    rw differs (none_alike p more other text split.1 fails)
