-- What is left of a stack of symbols behind the end of a function.
use Rattle.std.proofs.Common.{◌≡◌, Bool, true, false, ◌||◌, List, [], ◌∷◌, ◌++◌, refl}
use Rattle.hz_tree.specs.declared.signal.Signal.TheVariants as tell
use Rattle.hz_tree.specs.declared.symbol.Symbol.{Symbol}
use Rattle.hz_tree.specs.declared.symbol.Symbol.TheVariants as s
use Rattle.hz_cuts.specs.Rows.{is_close, some_symbol, left_by, left_at_close}

true_false : true ≡ false → ⊥
true_false h = cc

step_left : (closes : Bool) (more others left : List Symbol) (some : Bool) → (closes || some) ≡ false
    → (some ≡ false → left ≡ others) → left_by closes more left ≡ others
step_left true more others left some h next = absurd (true_false h)
step_left false more others left some h next = next h

pub middle_left : (middle others : List Symbol) → some_symbol is_close middle ≡ false
    → left_at_close (middle ++ s.Tell tell.Close ∷ others) ≡ others
middle_left [] others h = refl
middle_left (x ∷ xs) others h =
    step_left (is_close x) (xs ++ s.Tell tell.Close ∷ others) others (left_at_close (xs ++ s.Tell tell.Close ∷ others))
    (some_symbol is_close xs) h (middle_left xs others)
