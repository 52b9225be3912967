-- Least places on each level, of several trees.
use Rattle.std.proofs.Common.{◌≡◌, ℕ, min, List, [], ◌∷◌, ◌++◌, refl, sym, ap, ◌∙◌, append_assoc, arith}
use Rattle.hz_tree.specs.errors.Limits.{least_each, Depths, all_levels, all_errors}

pub least_each-nil : (xs : List ℕ) → least_each xs [] ≡ xs
least_each-nil [] = refl
least_each-nil (x ∷ xs) = refl

pub least_each_assoc : (xs ys zs : List ℕ)
    → least_each (least_each xs ys) zs ≡ least_each xs (least_each ys zs)
least_each_assoc [] ys zs = refl
least_each_assoc (x ∷ xs) [] zs = refl
least_each_assoc (x ∷ xs) (y ∷ ys) [] = refl
least_each_assoc (x ∷ xs) (y ∷ ys) (z ∷ zs) =
    ap (λ least. least ∷ least_each (least_each xs ys) zs) (min_min x y z)
    ∙ ap (λ rest. min x (min y z) ∷ rest) (least_each_assoc xs ys zs)
  where
    min_min : (a b c : ℕ) → min (min a b) c ≡ min a (min b c)
    min_min a b c = omega arith

pub all_levels-append : (ds ds' : List Depths)
    → all_levels (ds ++ ds') ≡ least_each (all_levels ds) (all_levels ds')
all_levels-append [] ds' = refl
all_levels-append (d ∷ ds) ds' =
    ap (least_each d.levels) (all_levels-append ds ds')
    ∙ sym (least_each_assoc d.levels (all_levels ds) (all_levels ds'))

pub all_errors-append : (ds ds' : List Depths) → all_errors (ds ++ ds') ≡ all_errors ds ++ all_errors ds'
all_errors-append [] ds' = refl
all_errors-append (d ∷ ds) ds' =
    ap (λ rest. d.errors ++ rest) (all_errors-append ds ds')
    ∙ sym (append_assoc d.errors (all_errors ds) (all_errors ds'))
