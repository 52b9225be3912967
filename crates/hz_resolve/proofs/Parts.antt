-- Where lists start that stand one behind the other.
use Rattle.std.proofs.Common.{◌≡◌, ◌∙◌, ℕ, zero, suc, ◌+◌, ◌-◌, ◌≤◌, ◌<◌, List, [], ◌∷◌, ◌++◌, length, map, take, drop}
use Rattle.std.proofs.Common.{Option, Some, None, refl, ap, sym, arith, slice_index, get_or}
use Rattle.std.proofs.lemmas.Option.{get_or_from_slice_get, slice_get_within}
use Rattle.std.specs.List.{slice_get, flat_map}
use Rattle.hz_tree.specs.trees.FunctionScopes.{FunctionScopes}
use Rattle.hz_tree.specs.trees.Layout.{first_scope}
use Rattle.hz_resolve.specs.Starts.{starts_of, function_starts}
use Rattle.hz_resolve.proofs.Declared.{take_found}

abbrev pub total : {X : Type 0} → (X → ℕ) → List X → ℕ
total size [] = 0
total size (x ∷ xs) = size x + total size xs

pub total-append : {X : Type 0} (size : X → ℕ) (xs ys : List X) → total size (xs ++ ys) ≡ total size xs + total size ys
total-append size [] ys = omega arith
total-append size (x ∷ xs) ys = omega (arith, total-append size xs ys)

pub length-starts : {X : Type 0} (size : X → ℕ) (start : ℕ) (xs : List X)
    → length (starts_of size start xs) ≡ length xs + 1
length-starts size start [] = omega arith
length-starts size start (x ∷ xs) = omega (arith, length-starts size (start + size x) xs)

pub starts_more : {X : Type 0} (size : X → ℕ) (start : ℕ) (xs : List X) (x : X)
    → starts_of size start (xs ++ x ∷ []) ≡ starts_of size start xs ++ (start + total size (xs ++ x ∷ [])) ∷ []
starts_more size start [] x =
    let e : start + size x ≡ start + (size x + 0) = omega arith in ap (λ n. start ∷ (n ∷ [])) e
starts_more size start (y ∷ xs) x =
    let e : (start + size y) + total size (xs ++ x ∷ []) ≡ start + (size y + total size (xs ++ x ∷ [])) = omega arith in
    ap (λ ns. start ∷ ns) (starts_more size (start + size y) xs x)
    ∙ ap (λ n. start ∷ (starts_of size (start + size y) xs ++ n ∷ [])) e

pub starts_at : {X : Type 0} (size : X → ℕ) (start : ℕ) (xs : List X) (k : ℕ) → k ≤ length xs
    → slice_get (starts_of size start xs) k ≡ Some (start + total size (take k xs))
starts_at size start [] zero h = let e : start ≡ start + 0 = omega arith in ap Some e
starts_at size start [] (suc k) h = absurd (omega (arith, h))
starts_at size start (x ∷ xs) zero h = let e : start ≡ start + 0 = omega arith in ap Some e
starts_at size start (x ∷ xs) (suc k) h =
    let e : (start + size x) + total size (take k xs) ≡ start + (size x + total size (take k xs)) = omega arith in
    starts_at size (start + size x) xs k (omega (arith, h)) ∙ ap Some e

-- one more start is known
pub starts_step : {X : Type 0} (size : X → ℕ) (xs : List X) (k : ℕ) (x : X) (starts : List ℕ) (sum : ℕ)
    → slice_get xs k ≡ Some x → starts ≡ starts_of size 0 (take k xs) → sum ≡ total size (take k xs)
    → (starts ++ (sum + size x) ∷ [] ≡ starts_of size 0 (take (k + 1) xs)) × (sum + size x
    ≡ total size (take (k + 1) xs))
starts_step size xs k x starts sum at are is =
    let more = take_found xs k x at in
    let now : sum + size x ≡ total size (take k xs ++ x ∷ []) =
    omega (arith, is, total-append size (take k xs) (x ∷ [])) in
    let zero_more : sum + size x ≡ 0 + total size (take k xs ++ x ∷ []) = omega (arith, now) in (
      ap (λ ns. ns ++ (sum + size x) ∷ []) are
          ∙ ap (λ n. starts_of size 0 (take k xs) ++ n ∷ []) zero_more
          ∙ sym (starts_more size 0 (take k xs) x) ∙ ap (starts_of size 0) (sym more),
      now ∙ ap (total size) (sym more),
    )

abbrev scopes_in : FunctionScopes → ℕ
scopes_in f = length f.scopes

pub first_is : (fs : List FunctionScopes) (k : ℕ) → first_scope fs k ≡ total scopes_in (take k fs)
first_is [] zero = refl
first_is [] (suc k) = refl
first_is (f ∷ fs) zero = refl
first_is (f ∷ fs) (suc k) = ap (λ n. length f.scopes + n) (first_is fs k)

pub function_start : (fs : List FunctionScopes) (starts : List ℕ) (k : ℕ) → starts ≡ function_starts fs → k < length fs
    → slice_index starts k ≡ first_scope fs k
function_start fs starts k are h =
    let at = starts_at scopes_in 0 fs k (omega (arith, h)) in
    let sum : 0 + total scopes_in (take k fs) ≡ first_scope fs k = omega (arith, first_is fs k) in
    get_or_from_slice_get starts k (first_scope fs k) 0 (ap (λ ss. slice_get ss k) are ∙ at ∙ ap Some sum)
