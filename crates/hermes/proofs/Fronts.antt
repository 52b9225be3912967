-- Pieces of a stream that are read one behind the other.
use Rattle.std.proofs.Common.{◌≡◌, ◌∙◌, ℕ, ◌+◌, ◌≤◌, List, [], ◌++◌, length, take, Option, None, Some, sym, ap}
use Rattle.std.proofs.Common.{append_assoc, append-nil, refl, arith}
use Rattle.std.proofs.lemmas.List.{take_all, take-take, take-append-le, length-take-le}
use Rattle.std.proofs.Math.Seq.{take-append-add}
use Rattle.std.specs.Io.KnownBytes.{Consumes, IsAtEnd}
use Rattle.hermes.specs.Fronts.{IsFront}

pub consumes_nothing : (a : Option (List ℕ)) → Consumes a a []
consumes_nothing None = tt
consumes_nothing (Some x) = refl

pub consumes_more : (a b c : Option (List ℕ)) (xs ys : List ℕ) → Consumes a b xs → Consumes b c ys
    → Consumes a c (xs ++ ys)
consumes_more None b c xs ys p q = tt
consumes_more (Some x) None c xs ys p q = absurd p
consumes_more (Some x) (Some y) None xs ys p q = absurd q
consumes_more (Some x) (Some y) (Some z) xs ys p q = p ∙ ap (λ v. xs ++ v) q ∙ sym (append_assoc xs ys z)

-- what is read behind bytes that were taken is read of the whole
pub front_behind : (a b : Option (List ℕ)) (xs bytes : List ℕ) (most : ℕ) → Consumes a b xs → IsFront xs b most bytes
    → IsFront [] a most bytes
front_behind None b xs bytes most p q = tt
front_behind (Some x) None xs bytes most p q = absurd p
front_behind (Some x) (Some y) xs bytes most p q = q ∙ ap (take most) (sym p)

-- nothing is left
pub front_at_end : (left rest : Option (List ℕ)) (before piece : List ℕ) (n most : ℕ)
    → Consumes left rest (take n piece) → n ≡ 0 → IsAtEnd rest → length before ≤ most → IsFront before left most before
front_at_end None rest before piece n most p none end few = tt
front_at_end (Some l) None before piece n most p none end few = absurd p
front_at_end (Some l) (Some r) before piece n most p none end few =
    let empty : l ≡ [] = p ∙ ap (λ k. take k piece ++ r) none ∙ end in
    sym (ap (λ x. take most (before ++ x)) empty ∙ ap (take most) (append-nil before) ∙ take_all most before few)

-- more is left than is wanted
pub front_cut : (left rest : Option (List ℕ)) (before piece : List ℕ) (n taken most : ℕ)
    → Consumes left rest (take n piece) → taken ≤ n → n ≤ length piece → length before + taken ≡ most
    → IsFront before left most (before ++ take taken piece)
front_cut None rest before piece n taken most p few fits all = tt
front_cut (Some l) None before piece n taken most p few fits all = absurd p
front_cut (Some l) (Some r) before piece n taken most p few fits all =
    let size : length (take n piece) ≡ n = length-take-le n piece fits in
    let cut : take taken l ≡ take taken piece =
    ap (take taken) p ∙ take-append-le taken (take n piece) r (omega (arith, size, few))
    ∙ take-take taken n piece few in
    sym (ap (λ k. take k (before ++ l)) (sym all) ∙ take-append-add before l taken ∙ ap (λ x. before ++ x) cut)
