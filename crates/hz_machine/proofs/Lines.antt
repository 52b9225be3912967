-- A printed line, made an argument at a time.
use Rattle.std.proofs.Common.{◌≡◌, ℕ, List, [], ◌∷◌, ◌++◌, sym, ap, append-nil}
use Rattle.std.proofs.Common.{◌∙◌, map, ◌-◌, ◌≤◌, length, take, drop, get_or, arith}
use Rattle.std.proofs.lemmas.List.{take_all}
use Rattle.hz_value.specs.declared.values.Value.{Value}
use Rattle.std.specs.List.{join_with_byte}

-- what comes behind other texts, with a space before each
abbrev pub behind : List (List ℕ) → List ℕ
behind [] = []
behind (t ∷ ts) = 32 ∷ (t ++ behind ts)

pub joined : (t : List ℕ) (ts : List (List ℕ)) → join_with_byte 32 (t ∷ ts) ≡ t ++ behind ts
joined t [] = sym (append-nil t)
joined t (u ∷ us) = ap (λ more. t ++ (32 ∷ more)) (joined u us)

-- the first argument, and the others behind it
pub begun : (text : Value → List ℕ) (first : Value) (rest : List Value) (line : List ℕ) →
    line ≡ text first → line ++ behind (map text rest) ≡ join_with_byte 32 (map text (first ∷ rest))
begun text first rest line e =
    ap (λ l. l ++ behind (map text rest)) e ∙ sym (joined (text first) (map text rest))

pub first_and_rest : (xs : List Value) (x : Value) → 1 ≤ length xs → x ≡ get_or xs 0 x →
    xs ≡ x ∷ take (length xs - 1) (drop 1 xs)
first_and_rest [] x some is = absurd (omega arith)
first_and_rest (y ∷ ys) x some is =
    let count : length (y ∷ ys) - 1 ≡ length ys = omega arith in
    ap (λ z. z ∷ ys) (sym is) ∙ ap (λ t. x ∷ t)
    (sym (ap (λ n. take n ys) count ∙ take_all (length ys) ys (omega arith)))
