-- The functions that stand in a function, by the numbers of their parents, are the outermost ones in its body.
use Rattle.std.proofs.Common.{◌≡◌, ℕ, suc, ◌+◌, ◌-◌, ◌<◌, ◌≤◌, inl, inr, List, []}
use Rattle.std.proofs.Common.{◌++◌, length, get_or, refl, ap, sym, ◌∙◌, subst, append_assoc, arith}
use Rattle.std.specs.List.{sum_by}
use Rattle.std.proofs.lemmas.Bool.{cases_lt}
use Rattle.std.proofs.lemmas.List.{length-append, get_or_append_left, get_or-append-add}
use Rattle.std.proofs.lemmas.List.Sums.{sum_by-append}
use Rattle.hz_tree.specs.declared.index.FunctionInfo.{FunctionInfo}
use Rattle.hz_tree.specs.tokens.Text.{Text}
use Rattle.hz_tree.specs.trees.Functions.{Found, found_none, found_both, found_in}
use Rattle.hz_tree.specs.trees.FunctionTrees.{inner_tokens}
use Rattle.hz_stands.specs.Nodes.{FunctionNode}
use Rattle.hz_own.proofs.Tally.{outer_tokens}

-- the tokens of the functions that stand in the one of this number
abbrev pub standing_tokens : Text → (k : ℕ) → List FunctionInfo → ℕ
standing_tokens source k fs = sum_by (inner_tokens source k) fs

-- what is found in a tree, where these are the functions in it
pub record Fits (source : Text) (found : Found) (nodes : List FunctionNode) : Type 0 where
  pub size : (parent next : ℕ) → length (found parent next) ≡ length nodes
  -- none of them stands in a function round the parent, or behind them
  pub strangers : (parent next k : ℕ) → parent < next → (k ≡ parent → ⊥)
      → (next ≤ k → k < next + length nodes → ⊥) → standing_tokens source k (found parent next) ≡ 0
  -- the outermost ones stand in the parent
  pub outer : (parent next : ℕ) → parent < next → (others : List FunctionNode)
      → standing_tokens source parent (found parent next) + outer_tokens source others
      ≡ outer_tokens source (nodes ++ others)
  -- those that stand in one of them are found in its body
  pub deeper : (parent next k j : ℕ) (d : FunctionNode) → parent < next → k ≡ next + j → j < length nodes
      → standing_tokens source k (found parent next)
      ≡ standing_tokens source k (found_in (get_or nodes j d).body k (suc k))

pub fits_none : (source : Text) → Fits source found_none []
fits_none source = record {
  size = λ parent next. refl;
  strangers = λ parent next k h i o. refl;
  outer = λ parent next h others. omega arith;
  deeper = λ parent next k j d h e i. absurd (omega arith);
}

-- ---- one behind the other

module _ (source : Text) (first second : Found) (xs ys : List FunctionNode) (a : Fits source first xs)
    (b : Fits source second ys) where
  both_sum : (parent next k : ℕ)
      → standing_tokens source k (found_both first second parent next)
      ≡ standing_tokens source k (first parent next)
      + standing_tokens source k (second parent (next + length (first parent next)))
  both_sum parent next k =
      sum_by-append (inner_tokens source k) (first parent next) (second parent (next + length (first parent next)))

  both_strangers : (parent next k : ℕ) → parent < next → (k ≡ parent → ⊥)
      → (next ≤ k → k < next + length (xs ++ ys) → ⊥)
      → standing_tokens source k (found_both first second parent next) ≡ 0
  both_strangers parent next k h i o =
      let n : length (first parent next) ≡ length xs = a.size parent next in
      let m : length (xs ++ ys) ≡ length xs + length ys = length-append xs ys in
      let one : standing_tokens source k (first parent next) ≡ 0 =
      a.strangers parent next k h i (λ p q. o p (omega (arith, q, m))) in
      let two : standing_tokens source k (second parent (next + length (first parent next))) ≡ 0 =
      b.strangers parent (next + length (first parent next)) k (omega (arith, h)) i
      (λ p q. o (omega (arith, p)) (omega (arith, q, n, m))) in
      let all = both_sum parent next k in omega (arith, all, one, two)

  both_outer : (parent next : ℕ) → parent < next → (others : List FunctionNode)
      → standing_tokens source parent (found_both first second parent next) + outer_tokens source others
      ≡ outer_tokens source ((xs ++ ys) ++ others)
  both_outer parent next h others =
      let one = a.outer parent next h (ys ++ others) in
      let two = b.outer parent (next + length (first parent next)) (omega (arith, h)) others in
      let all = both_sum parent next parent in
      let same : outer_tokens source ((xs ++ ys) ++ others) ≡ outer_tokens source (xs ++ (ys ++ others)) =
      ap (outer_tokens source) (append_assoc xs ys others) in
      omega (arith, one, two, all, same)

  abbrev Deeper : (parent next k j : ℕ) → FunctionNode → Type 0
  Deeper parent next k j d =
      standing_tokens source k (found_both first second parent next)
      ≡ standing_tokens source k (found_in (get_or (xs ++ ys) j d).body k (suc k))

  deeper_first : (parent next k j : ℕ) (d : FunctionNode) → parent < next → k ≡ next + j → j < length xs
      → Deeper parent next k j d
  deeper_first parent next k j d h e i =
      let n : length (first parent next) ≡ length xs = a.size parent next in
      let one = a.deeper parent next k j d h e i in
      let two : standing_tokens source k (second parent (next + length (first parent next))) ≡ 0 =
      b.strangers parent (next + length (first parent next)) k (omega (arith, h)) (λ q. omega (arith, q, h, e))
      (λ p q. omega (arith, p, n, e, i)) in
      let all = both_sum parent next k in
      omega (arith, all, one, two)
      ∙ ap (λ f. standing_tokens source k (found_in f.body k (suc k))) (sym (get_or_append_left xs ys d j i))

  deeper_second : (parent next k i : ℕ) (d : FunctionNode) → parent < next → k ≡ next + (length xs + i) → i < length ys
      → Deeper parent next k (length xs + i) d
  deeper_second parent next k i d h e within =
      let n : length (first parent next) ≡ length xs = a.size parent next in
      let one : standing_tokens source k (first parent next) ≡ 0 =
      a.strangers parent next k h (λ q. omega (arith, q, h, e)) (λ p q. omega (arith, q, e)) in
      let two = b.deeper parent (next + length (first parent next)) k i d (omega (arith, h)) (omega (arith, e, n))
      within in
      let all = both_sum parent next k in
      omega (arith, all, one, two)
      ∙ ap (λ f. standing_tokens source k (found_in f.body k (suc k))) (sym (get_or-append-add xs ys i d))

  both_deeper : (parent next k j : ℕ) (d : FunctionNode) → parent < next → k ≡ next + j → j < length (xs ++ ys)
      → Deeper parent next k j d
  both_deeper parent next k j d h e i = elim (cases_lt j (length xs)) [
    | inl p ↦ deeper_first parent next k j d h e p
    | inr p ↦
        let m : length (xs ++ ys) ≡ length xs + length ys = length-append xs ys in
        let here : length xs + (j - length xs) ≡ j = omega (arith, p) in
        subst (λ z. Deeper parent next k z d) here
        (deeper_second parent next k (j - length xs) d h (omega (arith, e, p)) (omega (arith, i, m, p)))
  ]

  pub fits_both : Fits source (found_both first second) (xs ++ ys)
  fits_both = record {
    size = λ parent next.
        let n = a.size parent next in
        let m = b.size parent (next + length (first parent next)) in
        length-append (first parent next) (second parent (next + length (first parent next)))
        ∙ omega (arith, n, m, length-append xs ys);
    strangers = both_strangers;
    outer = both_outer;
    deeper = both_deeper;
  }
