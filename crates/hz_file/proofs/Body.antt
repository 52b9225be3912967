-- What is put one behind the other is the image.
use Rattle.std.proofs.Common.{◌≡◌, ℕ, List, [], ◌++◌, length, refl, sym, ◌∙◌, ap, append_assoc}
use Rattle.std.specs.List.{concat}
use Rattle.std.proofs.lemmas.List.{append-nil}
use Rattle.std.proofs.lemmas.List.Folds.{concat-append}
use Rattle.sha1.specs.Sha1.{sha1}
use Rattle.hz_file.specs.Image.{Program, header, function_header, numbers, entry_words, pieces, body, image, size_of}
use Rattle.hz_file.specs.Image.{sections}

regrouped : (h f e t c s : List ℕ) → [] ++ h ++ f ++ e ++ t ++ c ++ s ≡ h ++ (f ++ (e ++ (t ++ (c ++ (s ++ [])))))
regrouped h f e t c s = rw (append-nil s) (simp append_assoc)

pub body_is : (p : Program) → let h : List ℕ =
    concat (header p.strict (size_of p) p.source (length p.texts) (length p.code) (length (concat p.texts))) in
    let f : List ℕ = concat (function_header p.registers (length p.code)) in
    [] ++ h ++ f ++ numbers 4 (entry_words 0 p.texts) ++ concat p.texts ++ p.code ++ p.source ≡ body p
unfolding pieces
body_is p =
    let h : List (List ℕ) =
    header p.strict (size_of p) p.source (length p.texts) (length p.code) (length (concat p.texts)) in
    let f : List (List ℕ) = function_header p.registers (length p.code) in
    let split : concat (h ++ (f ++ sections p)) ≡ concat h ++ (concat f ++ concat (sections p)) =
    concat-append h (f ++ sections p) ∙ ap (λ (xs : List ℕ). concat h ++ xs) (concat-append f (sections p)) in
    regrouped (concat h) (concat f) (numbers 4 (entry_words 0 p.texts)) (concat p.texts) p.code p.source ∙ sym split

pub image_is : (p : Program) (front footer whole : List ℕ) → front ≡ body p → footer ≡ sha1 front →
    whole ≡ front ++ footer → whole ≡ image p
unfolding image
image_is p front footer whole is hash joined = rw (joined, hash, is) refl
