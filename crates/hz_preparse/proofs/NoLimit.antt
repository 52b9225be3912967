-- A script that is not refused passes no limit.
use Rattle.std.proofs.Common.{◌≡◌, ℕ, Bool, true, false, ◌||◌, cond, List, [], ◌∷◌, Option, Some, None, refl}
use Rattle.hz_tree.specs.declared.refusal.Refusal.TheVariants as refusal
use Rattle.hz_tree.specs.declared.tree.Tree.{Tree}
use Rattle.hz_tree.specs.errors.Limits.{LimitError, limit_errors}
use Rattle.hz_tree.specs.errors.Scopes.{EarlyError}
use Rattle.hz_tree.specs.errors.Sources.{early_errors, profile_errors}
use Rattle.hz_tree.specs.errors.Targets.{ProfileError}
use Rattle.hz_tree.specs.sources.EarlyErrors.{order_of_early}
use Rattle.hz_tree.specs.sources.Kinds.{order_of_profile, order_of_limit}
use Rattle.hz_tree.specs.sources.Least.{precedes, lesser, least_of}
use Rattle.hz_tree.specs.sources.Refusals.{first_refusal, is_strict, refusal_in}

some_least : {K : Type 0} (order : K → ℕ) (x : K × ℕ) (y : Option (K × ℕ)) → lesser order (Some x) y ≡ None → ⊥
some_least order x None h = cc
some_least order x (Some y) h =
    elim (precedes order y x) as (λ b. cond b (Some y) (Some x) ≡ None → ⊥) [ true ↦ λ e. cc | false ↦ λ e. cc ] h

none_least : {K : Type 0} (order : K → ℕ) (xs : List (K × ℕ)) → least_of order xs ≡ None → xs ≡ []
none_least order [] h = refl
none_least order (x ∷ xs) h = absurd (some_least order x (least_of order xs) h)

no_third : (early : Option EarlyError) (profile : Option ProfileError) (limit : Option LimitError)
    → first_refusal early profile limit ≡ None → limit ≡ None
no_third (Some x) profile limit h = cc
no_third None (Some x) limit h = cc
no_third None None (Some x) h = cc
no_third None None None h = refl

pub no_limit : (strict : Bool) (tree : Tree) → refusal_in strict tree ≡ None → limit_errors tree ≡ []
no_limit strict tree h =
    elim (strict || is_strict tree) as (λ b. cond b
    (first_refusal (least_of order_of_early (early_errors tree)) (least_of order_of_profile (profile_errors tree))
    (least_of order_of_limit (limit_errors tree))) (Some refusal.Sloppy) ≡ None → limit_errors tree ≡ []) [
      | true ↦ λ e. none_least order_of_limit (limit_errors tree) (no_third _ _ _ e)
      | false ↦ λ e. cc
    ] h
