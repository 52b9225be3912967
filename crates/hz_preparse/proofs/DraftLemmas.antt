-- Changes of one function in a list.
use Rattle.std.proofs.Common.{◌≡◌, ℕ, zero, suc, List, [], ◌∷◌, Some, None, refl, ap, sym, ◌∙◌, slice_get, slice_set}
use Rattle.hz_tree.specs.declared.index.FunctionInfo.{FunctionInfo}
use Rattle.hz_tree.specs.trees.Drafts.{change}

pub change-slice_set : (k : ℕ) (f : FunctionInfo → FunctionInfo) (xs : List FunctionInfo) (x : FunctionInfo)
    → slice_get xs k ≡ Some x
    → change k f xs ≡ slice_set xs k (f x)
change-slice_set k f [] x h = cc
change-slice_set zero f (y ∷ xs) x h = let e : y ≡ x = cc in ap (λ z. f z ∷ xs) e
change-slice_set (suc k) f (y ∷ xs) x h = ap (λ zs. y ∷ zs) (change-slice_set k f xs x h)

pub change-past : (k : ℕ) (f : FunctionInfo → FunctionInfo) (xs : List FunctionInfo) → slice_get xs k ≡ None
    → change k f xs ≡ xs
change-past k f [] h = refl
change-past zero f (y ∷ xs) h = cc
change-past (suc k) f (y ∷ xs) h = ap (λ zs. y ∷ zs) (change-past k f xs h)

pub changed_some : (k : ℕ) (f : FunctionInfo → FunctionInfo) (xs new : List FunctionInfo) (x y : FunctionInfo) → Some x
    ≡ slice_get xs k
    → new ≡ slice_set xs k y → y ≡ f x → new ≡ change k f xs
changed_some k f xs new x y found set is = set ∙ ap (slice_set xs k) is ∙ sym (change-slice_set k f xs x (sym found))

pub changed_none : (k : ℕ) (f : FunctionInfo → FunctionInfo) (xs : List FunctionInfo) → None ≡ slice_get xs k → xs
    ≡ change k f xs
changed_none k f xs past = sym (change-past k f xs (sym past))
