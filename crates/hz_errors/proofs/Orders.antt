-- The least of errors does not depend on the order in which they are found.
use Rattle.std.proofs.Common.{◌≡◌, ℕ, zero, suc, Bool, true, false, ◌&&◌, ◌||◌, cond, List, [], ◌∷◌, ◌++◌, refl, sym}
use Rattle.std.proofs.Common.{ap, ◌∙◌, arith, eqb, ltb, Option, Some, None}
use Rattle.std.proofs.lemmas.Bool.Decides.{nat_tests}
use Rattle.hz_tree.specs.declared.early.EarlyKind.{EarlyKind}
use Rattle.hz_tree.specs.declared.early.EarlyKind.TheVariants as early
use Rattle.hz_tree.specs.declared.limit.LimitKind.{LimitKind}
use Rattle.hz_tree.specs.declared.limit.LimitKind.TheVariants as limit
use Rattle.hz_tree.specs.declared.profile.ProfileKind.{ProfileKind}
use Rattle.hz_tree.specs.declared.profile.ProfileKind.TheVariants as profile
use Rattle.hz_tree.specs.sources.EarlyErrors.{order_of_early}
use Rattle.hz_tree.specs.sources.Kinds.{order_of_limit, order_of_profile}
use Rattle.hz_tree.specs.sources.Least.{precedes, lesser, least_of}
use Rattle.hz_early.proofs.LeastLemmas.{lesser-none, lesser_assoc, least_of-append}
use Rattle.hz_errors.specs.Found.{noted}

-- kinds of one number are one kind
abbrev pub IsOrder : {K : Type 0} → (K → ℕ) → Type 0
IsOrder {K} order = (x y : K) → order x ≡ order y → x ≡ y

abbrev before : ℕ → ℕ → ℕ → ℕ → Bool
before p k q l = ltb p q || (eqb p q && ltb k l)

not_both : (p k q l : ℕ) → before p k q l ≡ true → before q l p k ≡ true → ⊥
not_both p k q l h i = grind (arith, nat_tests)

neither_place : (p k q l : ℕ) → before p k q l ≡ false → before q l p k ≡ false → p ≡ q
neither_place p k q l h i = grind (arith, nat_tests)

neither_kind : (p k q l : ℕ) → before p k q l ≡ false → before q l p k ≡ false → k ≡ l
neither_kind p k q l h i = grind (arith, nat_tests)

module _ {K : Type 0} (order : K → ℕ) (is_order : IsOrder order) where
  swapped : (x y : K × ℕ) (a b : Bool) → precedes order y x ≡ a → precedes order x y ≡ b
      → cond a (Some y) (Some x) ≡ cond b (Some x) (Some y)
  swapped x y true true h i = absurd (not_both y.1 (order y.0) x.1 (order x.0) h i)
  swapped x y true false h i = refl
  swapped x y false true h i = refl
  swapped x y false false h i =
      let place : x.1 ≡ y.1 = neither_place x.1 (order x.0) y.1 (order y.0) i h in
      let kind : x.0 ≡ y.0 = is_order x.0 y.0 (neither_kind x.1 (order x.0) y.1 (order y.0) i h) in
      ap (λ k. Some (k, x.1)) kind ∙ ap (λ at. Some (y.0, at)) place

  pub lesser_comm : (x y : Option (K × ℕ)) → lesser order x y ≡ lesser order y x
  lesser_comm None y = sym (lesser-none order y)
  lesser_comm (Some x) None = refl
  lesser_comm (Some x) (Some y) = swapped x y (precedes order y x) (precedes order x y) refl refl

  -- errors found one after the other
  pub noted_twice : (xs ys : List (K × ℕ)) (least : Option (K × ℕ))
      → noted order ys (noted order xs least) ≡ noted order (xs ++ ys) least
  noted_twice xs ys least =
      lesser_assoc order least (least_of order xs) (least_of order ys)
      ∙ ap (lesser order least) (sym (least_of-append order xs ys))

  -- in the one order or the other
  pub noted_swapped : (xs ys : List (K × ℕ)) (least : Option (K × ℕ))
      → noted order (xs ++ ys) least ≡ noted order (ys ++ xs) least
  noted_swapped xs ys least =
      ap (lesser order least)
      (least_of-append order xs ys ∙ lesser_comm (least_of order xs) (least_of order ys)
      ∙ sym (least_of-append order ys xs))

  pub noted_none : (least : Option (K × ℕ)) → noted order [] least ≡ least
  noted_none least = lesser-none order least

-- ---- the three orders

abbrev kind_at : {K : Type 0} → K → List K → ℕ → K
kind_at last [] n = last
kind_at last (k ∷ more) zero = k
kind_at last (k ∷ more) (suc n) = kind_at last more n

abbrev early_at : ℕ → EarlyKind
early_at =
    kind_at early.CatchClash
    (early.Target ∷ early.EvalOrArguments ∷ early.DuplicateLexical ∷ early.LexicalVarClash ∷ early.DuplicateParameter
    ∷ early.ConstWithoutValue ∷ early.BadBreak ∷ early.BadContinue ∷ early.DuplicateLabel ∷ early.DeleteName
    ∷ early.LegacyOctal ∷ early.NewTarget ∷ early.YieldInParameters ∷ early.UseStrictInBody ∷ early.ParameterClash
    ∷ [])

early_back : (k : EarlyKind) → early_at (order_of_early k) ≡ k
early_back early.Target = refl
early_back _ = refl

pub early_is_order : IsOrder order_of_early
early_is_order x y h = sym (early_back x) ∙ ap early_at h ∙ early_back y

abbrev profile_at : ℕ → ProfileKind
profile_at = kind_at profile.Pattern (profile.ScriptThis ∷ profile.Proto ∷ profile.GlobalName ∷ [])

profile_back : (k : ProfileKind) → profile_at (order_of_profile k) ≡ k
profile_back profile.ScriptThis = refl
profile_back _ = refl

pub profile_is_order : IsOrder order_of_profile
profile_is_order x y h = sym (profile_back x) ∙ ap profile_at h ∙ profile_back y

abbrev limit_at : ℕ → LimitKind
limit_at = kind_at limit.Arguments (limit.Nesting ∷ limit.Parameters ∷ [])

limit_back : (k : LimitKind) → limit_at (order_of_limit k) ≡ k
limit_back limit.Nesting = refl
limit_back _ = refl

pub limit_is_order : IsOrder order_of_limit
limit_is_order x y h = sym (limit_back x) ∙ ap limit_at h ∙ limit_back y
