-- The errors of what is nested too deep, level by level.
use Rattle.std.proofs.Common.{◌≡◌, ℕ, zero, suc, ◌+◌, ◌-◌, ◌≤◌, ◌⊎◌, inl, inr, List, [], ◌∷◌, ◌++◌, length, get_or, map}
use Rattle.std.proofs.Common.{drop, Option, sym, ap, ◌∙◌, arith}
use Rattle.std.proofs.Math.ListN.{drop_of_length-le}
use Rattle.std.proofs.lemmas.List.{drop-append-le, map-append}
use Rattle.hz_tree.specs.declared.limit.LimitKind.TheVariants as limit
use Rattle.hz_tree.specs.errors.Limits.{LimitError, deeper}
use Rattle.hz_tree.specs.sources.Kinds.{order_of_limit}
use Rattle.hz_errors.specs.Found.{noted}
use Rattle.hz_errors.specs.Runs.{run_levels}
use Rattle.hz_errors.proofs.LevelActs.{noted_more}
use Rattle.hz_errors.proofs.RunLemmas.{length-levels}

abbrev nested : ℕ → LimitError
nested at = (limit.Nesting, at)

levels_last : (len end : ℕ) (places : List ℕ)
    → run_levels (suc len) end places ≡ run_levels len end places ++ get_or places (end - 1 - len) 0 ∷ []
levels_last zero end places = ap (λ n. get_or places n 0 ∷ []) (omega arith)
levels_last (suc len) end places =
    ap (λ xs. get_or places (end - 1) 0 ∷ xs)
    (levels_last len (end - 1) places
    ∙ ap (λ n. run_levels len (end - 1) places ++ get_or places n 0 ∷ []) (omega arith))

deeper_few : (xs : List ℕ) → length xs ≤ 400 → deeper xs ≡ []
deeper_few xs h = ap (map nested) (drop_of_length-le xs h)

deeper_more : (xs : List ℕ) (at : ℕ) → 400 ≤ length xs → deeper (xs ++ at ∷ []) ≡ deeper xs ++ nested at ∷ []
deeper_more xs at h =
    ap (map nested) (drop-append-le 400 xs (at ∷ []) h) ∙ map-append nested (drop 400 xs) (at ∷ [])

pub nesting_more : (len end : ℕ) (places : List ℕ) (least : Option LimitError) → 400 ≤ len
    → noted order_of_limit (nested (get_or places (end - 1 - len) 0) ∷ [])
    (noted order_of_limit (deeper (run_levels len end places)) least)
    ≡ noted order_of_limit (deeper (run_levels (len + 1) end places)) least
nesting_more len end places least h =
    let at : ℕ = get_or places (end - 1 - len) 0 in
    let long : 400 ≤ length (run_levels len end places) = omega (arith, length-levels len end places) in
    let one : suc len ≡ len + 1 = omega arith in
    noted_more (deeper (run_levels len end places)) (nested at ∷ []) least
    ∙ ap (λ errors. noted order_of_limit errors least)
    (sym (deeper_more (run_levels len end places) at long)
    ∙ ap deeper (sym (levels_last len end places) ∙ ap (λ n. run_levels n end places) one))

pub nesting_end : (k len end : ℕ) (places : List ℕ) (least : Option LimitError) → 400 ≤ k → len ≤ k
    → (k ≤ 400) ⊎ (k ≤ len)
    → noted order_of_limit (deeper (run_levels k end places)) least
    ≡ noted order_of_limit (deeper (run_levels len end places)) least
nesting_end k len end places least h i (inl j) =
    let few : length (run_levels k end places) ≤ 400 = omega (arith, length-levels k end places) in
    let fewer : length (run_levels len end places) ≤ 400 = omega (arith, length-levels len end places) in
    ap (λ errors. noted order_of_limit errors least)
    (deeper_few (run_levels k end places) few ∙ sym (deeper_few (run_levels len end places) fewer))
nesting_end k len end places least h i (inr j) =
    let same : k ≡ len = omega arith in
    ap (λ n. noted order_of_limit (deeper (run_levels n end places)) least) same
