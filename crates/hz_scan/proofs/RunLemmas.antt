-- The loop over the parts at the front of a text.
use Rattle.std.proofs.Common.{◌≡◌, ◌≤◌, length, drop, refl, add-zero, ◌∙◌, ap, sym}
use Rattle.std.proofs.Math.Bool.{or-false}
use Rattle.hz_tree.specs.declared.front.Stretch.{Stretch}
use Rattle.hz_tree.specs.tokens.Text.{Text, none, joined, run}
use Rattle.hz_scan.proofs.TextLemmas.{run_stops, joined_goes}

pub joined_none : (front : Stretch) → joined front none ≡ front
joined_none front = rw (add-zero front.len, or-false front.marked) refl

pub joined_stops : (part : Text → Stretch) (z : Text) (front : Stretch) → (part z).len ≡ 0 →
    joined front (run part z) ≡ front
joined_stops part z front stops = ap (joined front) (run_stops part z stops) ∙ joined_none front

-- behind one more part
module _ (part : Text → Stretch) (z : Text) (front p : Stretch) (is : p ≡ part z) (moves : 1 ≤ p.len)
    (within : p.len ≤ length z) where
  pub goes_on : (whole : Stretch) → joined front (run part z) ≡ whole
      → joined (joined front p) (run part (drop p.len z)) ≡ whole
  goes_on whole so_far =
      let known : joined front (run part z) ≡ joined (joined front (part z)) (run part (drop (part z).len z)) =
      joined_goes part z front (rw (← is) moves) (rw (← is) within) in
      rw is (sym known ∙ so_far)
