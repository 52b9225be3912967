-- Registers as a list: what is read behind a write.
use Rattle.std.proofs.Common.{◌≡◌, ◌≢◌, ℕ, zero, suc, ◌<◌, List, [], ◌∷◌, length, refl, ap, arith}
use Rattle.std.specs.Prelude.{Some, slice_get, slice_set, replicate}
use Rattle.hz_ops.specs.Contents.{Content, Undefined}
use Rattle.hz_ops.specs.Activations.{Module, register_count, Activation, entered, written}

pub slice_get-set_same : {A : Type 0} (xs : List A) (i : ℕ) (x : A) → i < length xs →
    slice_get (slice_set xs i x) i ≡ Some x
slice_get-set_same [] i x within = absurd (omega arith)
slice_get-set_same (y ∷ xs) zero x within = refl
slice_get-set_same (y ∷ xs) (suc i) x within = slice_get-set_same xs i x (omega arith)

pub slice_get-set_other : {A : Type 0} (xs : List A) (i j : ℕ) (x : A) → j ≢ i →
    slice_get (slice_set xs i x) j ≡ slice_get xs j
slice_get-set_other [] i j x other = refl
slice_get-set_other (y ∷ xs) zero zero x other = absurd (other refl)
slice_get-set_other (y ∷ xs) zero (suc j) x other = refl
slice_get-set_other (y ∷ xs) (suc i) zero x other = refl
slice_get-set_other (y ∷ xs) (suc i) (suc j) x other = slice_get-set_other xs i j x (λ e. other (ap suc e))

pub slice_get-replicate : {A : Type 0} (n i : ℕ) (x : A) → i < n → slice_get (replicate n x) i ≡ Some x
slice_get-replicate zero i x within = absurd (omega arith)
slice_get-replicate (suc n) zero x within = refl
slice_get-replicate (suc n) (suc i) x within = slice_get-replicate n i x (omega arith)

-- at entry each register holds undefined
pub held_at_entry : (m : Module) (f r : ℕ) → r < register_count m f →
    slice_get (entered m f).registers r ≡ Some Undefined
held_at_entry m f r within = slice_get-replicate (register_count m f) r Undefined within

-- the register that was written holds what was written, and each other one what it held
pub held_behind : (next r : ℕ) (x : Content) (a : Activation) → r < length a.registers →
    slice_get (written next r x a).registers r ≡ Some x
held_behind next r x a within = slice_get-set_same a.registers r x within

pub others_held : (next r q : ℕ) (x : Content) (a : Activation) → q ≢ r →
    slice_get (written next r x a).registers q ≡ slice_get a.registers q
others_held next r q x a other = slice_get-set_other a.registers r q x other
