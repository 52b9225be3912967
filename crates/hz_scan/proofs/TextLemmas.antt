-- What a run of parts makes of its first part.
use Rattle.std.proofs.Common.{◌≡◌, ℕ, zero, suc, ◌-◌, ◌≤◌, true, false, ◌==◌, [], ◌∷◌, drop, length, refl, ap, arith}
use Rattle.std.proofs.Common.{add_assoc}
use Rattle.std.proofs.Math.Bool.{or_assoc}
use Rattle.hz_tree.specs.declared.front.Stretch.{Stretch}
use Rattle.hz_tree.specs.tokens.Text.{Text, none, joined, run_from, run}

run_from-drop : (part : Text → Stretch) (n : ℕ) (z : Text) → run_from part n z ≡ run_from part 0 (drop n z)
run_from-drop part zero z = refl
run_from-drop part (suc n) [] = refl
run_from-drop part (suc n) (b ∷ z) = run_from-drop part n z

drop-cons : (n b : ℕ) (z : Text) → 1 ≤ n → drop (n - 1) z ≡ drop n (b ∷ z)
drop-cons zero b z h = absurd (omega arith)
drop-cons (suc n) b z h = let e : suc n - 1 ≡ n = omega arith in ap (λ k. drop k z) e

pub is_zero : (n : ℕ) → n ≡ 0 → (n == 0) ≡ true
is_zero n h = grind arith

pub is_positive : (n : ℕ) → 1 ≤ n → (n == 0) ≡ false
is_positive n h = grind arith

pub run_stops : (part : Text → Stretch) (z : Text) → (part z).len ≡ 0 → run part z ≡ none
unfolding run
run_stops part [] h = refl
run_stops part (b ∷ z) h = rw (is_zero (part (b ∷ z)).len h)

pub run_goes : (part : Text → Stretch) (z : Text) → 1 ≤ (part z).len → (part z).len ≤ length z
    → run part z ≡ joined (part z) (run part (drop (part z).len z))
unfolding run
run_goes part [] moves within = absurd (omega arith)
run_goes part (b ∷ z) moves within =
    rw (
      is_positive (part (b ∷ z)).len moves,
      run_from-drop part ((part (b ∷ z)).len - 1) z,
      drop-cons
          (part (b ∷ z)).len b z moves,
    )

-- What stands in front of a run takes in the run's first part.
pub joined_goes : (part : Text → Stretch) (z : Text) (front : Stretch) → 1 ≤ (part z).len → (part z).len ≤ length z
    → joined front (run part z) ≡ joined (joined front (part z)) (run part (drop (part z).len z))
joined_goes part z front moves within =
    let p = part z in
    let rest = run part (drop (part z).len z) in
    rw (
      run_goes part z moves within,
      ← add_assoc front.len p.len rest.len,
      ← or_assoc front.marked p.marked
          rest.marked,
    ) refl
