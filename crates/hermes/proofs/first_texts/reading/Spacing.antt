-- Tokens with blanks behind them, byte by byte.
use Rattle.std.proofs.Common.{◌≡◌, ℕ, true, false, ◌&&◌, List, [], ◌∷◌, ◌++◌, refl, ap, sym, ◌∙◌, subst}
use Rattle.std.specs.List.{list_all}
use Rattle.hermes.specs.first.Texts.{is_blank, Spaced}

-- No token is empty or begins with a blank; only the first matters.
abbrev pub Solid : List (List ℕ) → Type 0
Solid [] = Unit {0}
Solid ([] ∷ tokens) = ⊥
Solid ((x ∷ token) ∷ tokens) = is_blank x ≡ false

pub spaced_cons : (x b : ℕ) (part : List ℕ) (tokens : List (List ℕ)) (r : List ℕ) → Spaced ((x ∷ part) ∷ tokens) (b ∷ r)
    → (b ≡ x) × Spaced (part ∷ tokens) r
spaced_cons x b part tokens r s =
    let e : b ∷ r ≡ x ∷ (part ++ (s.0 ++ s.1)) = s.2 in (cc, (s.0, s.1, cc, s.3, s.4))

pub cons_spaced : (x : ℕ) (part : List ℕ) (tokens : List (List ℕ)) (r : List ℕ) → Spaced (part ∷ tokens) r
    → Spaced ((x ∷ part) ∷ tokens) (x ∷ r)
cons_spaced x part tokens r s = (s.0, s.1, ap (λ y. x ∷ y) s.2, s.3, s.4)

pub spaced_nil : (x : ℕ) (part : List ℕ) (tokens : List (List ℕ)) → Spaced ((x ∷ part) ∷ tokens) [] → ⊥
spaced_nil x part tokens s = let e : [] ≡ x ∷ (part ++ (s.0 ++ s.1)) = s.2 in cc

-- behind a token
pub blank_spaced : (b : ℕ) (tokens : List (List ℕ)) (r : List ℕ) → is_blank b ≡ true → Spaced ([] ∷ tokens) r
    → Spaced ([] ∷ tokens) (b ∷ r)
blank_spaced b tokens r blank s =
    let both : (is_blank b && list_all is_blank s.0) ≡ true = ap (λ x. x && list_all is_blank s.0) blank ∙ s.3 in
    (b ∷ s.0, s.1, ap (λ y. b ∷ y) s.2, both, s.4)

solid_front : (b : ℕ) (tokens : List (List ℕ)) (r : List ℕ) → Solid tokens → Spaced tokens (b ∷ r) → is_blank b ≡ false
solid_front b [] r solid s = let e : b ∷ r ≡ [] = s in cc
solid_front b ([] ∷ tokens) r solid s = absurd solid
solid_front b ((x ∷ token) ∷ tokens) r solid s = let e = spaced_cons x b token tokens r s in
    subst (λ (y : ℕ). is_blank y ≡ false) (sym e.0) solid

blank_of : (b : ℕ) (tokens : List (List ℕ)) (r blanks rest : List ℕ) → Solid tokens → is_blank b ≡ true
    → b ∷ r ≡ blanks ++ rest → list_all is_blank blanks ≡ true → Spaced tokens rest → Spaced ([] ∷ tokens) r
blank_of b tokens r [] rest solid blank e all s =
    let not_blank : is_blank b ≡ false =
    solid_front b tokens r solid (subst (λ (y : List ℕ). Spaced tokens y) (sym e) s) in
    let bad : true ≡ false = sym blank ∙ not_blank in cc
blank_of b tokens r (y ∷ ys) rest solid blank e all s =
    let head : b ≡ y = cc in
    let tail : r ≡ ys ++ rest = cc in
    let rest_blank : list_all is_blank ys ≡ true =
    sym (ap (λ x. x && list_all is_blank ys) (subst (λ (z : ℕ). is_blank z ≡ true) head blank)) ∙ all in
    (ys, rest, tail, rest_blank, s)

pub spaced_blank : (b : ℕ) (tokens : List (List ℕ)) (r : List ℕ) → Solid tokens → is_blank b ≡ true
    → Spaced ([] ∷ tokens) (b ∷ r) → Spaced ([] ∷ tokens) r
spaced_blank b tokens r solid blank s = blank_of b tokens r s.0 s.1 solid blank s.2 s.3 s.4

solid_of : (b : ℕ) (tokens : List (List ℕ)) (r blanks rest : List ℕ) → is_blank b ≡ false → b ∷ r ≡ blanks ++ rest
    → list_all is_blank blanks ≡ true → Spaced tokens rest → Spaced tokens (b ∷ r)
solid_of b tokens r [] rest solid e all s = subst (λ (y : List ℕ). Spaced tokens y) (sym e) s
solid_of b tokens r (y ∷ ys) rest solid e all s =
    let head : b ≡ y = cc in
    let first : (is_blank y && list_all is_blank ys) ≡ false =
    ap (λ x. x && list_all is_blank ys) (subst (λ (z : ℕ). is_blank z ≡ false) head solid) in
    let bad : true ≡ false = sym all ∙ first in cc

-- A byte that is no blank begins the next token.
pub spaced_solid : (b : ℕ) (tokens : List (List ℕ)) (r : List ℕ) → is_blank b ≡ false → Spaced ([] ∷ tokens) (b ∷ r)
    → Spaced tokens (b ∷ r)
spaced_solid b tokens r solid s = solid_of b tokens r s.0 s.1 solid s.2 s.3 s.4

pub solid_spaced : (tokens : List (List ℕ)) (r : List ℕ) → Spaced tokens r → Spaced ([] ∷ tokens) r
solid_spaced tokens r s = ([], r, refl, refl, s)

pub begin_spaced : (part : List ℕ) (tokens : List (List ℕ)) (r : List ℕ) → Spaced ([] ∷ tokens) r
    → Spaced (part ∷ tokens) (part ++ r)
begin_spaced part tokens r s = (s.0, s.1, ap (λ y. part ++ y) s.2, s.3, s.4)

end_of : (tokens : List (List ℕ)) (blanks rest : List ℕ) → Solid tokens → [] ≡ blanks ++ rest → Spaced tokens rest
    → tokens ≡ []
end_of [] blanks rest solid e s = refl
end_of (t ∷ tokens) (y ∷ ys) rest solid e s = cc
end_of ([] ∷ tokens) [] rest solid e s = absurd solid
end_of ((x ∷ t) ∷ tokens) [] rest solid e s =
    absurd (spaced_nil x t tokens (subst (λ (y : List ℕ). Spaced ((x ∷ t) ∷ tokens) y) (sym e) s))

pub spaced_end : (tokens : List (List ℕ)) → Solid tokens → Spaced ([] ∷ tokens) [] → tokens ≡ []
spaced_end tokens solid s = end_of tokens s.0 s.1 solid s.2 s.4
