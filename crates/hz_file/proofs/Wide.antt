-- The units of a wide text by their bytes.
use Rattle.std.proofs.Common.{◌≡◌, ◌<◌, ℕ, zero, suc, ◌+◌, ◌*◌, ◌/◌, Bool, true, List, [], ◌∷◌, length, slice_get}
use Rattle.std.proofs.Common.{Some, refl, ap, arith}
use Rattle.hz_file.specs.Layout.{field, wide_units, units_of}

pub length_wide : (bytes : List ℕ) → length (wide_units bytes) ≡ length bytes / 2
length_wide [] = refl
length_wide (low ∷ []) = refl
length_wide (low ∷ high ∷ rest) = omega (arith, length_wide rest)

wide_is : (bytes : List ℕ) (i : ℕ) → 2 * i + 1 < length bytes →
    slice_get (wide_units bytes) i ≡ Some (field 2 bytes (2 * i))
unfolding field
wide_is [] i within = absurd (omega arith)
wide_is (low ∷ []) i within = absurd (omega arith)
wide_is (low ∷ high ∷ rest) zero within = ap Some (omega arith)
wide_is (low ∷ high ∷ rest) (suc i) within =
    let step : 2 * suc i ≡ suc (suc (2 * i)) = omega arith in
    rw step (wide_is rest i (omega arith))

-- what is shown of a text, by its width and its bytes
pub wide_at : (bytes : List ℕ) (wide : Bool) (i at : ℕ) → wide ≡ true → at ≡ 2 * i → 2 * i + 1 < length bytes →
    slice_get (units_of wide bytes) i ≡ Some (field 2 bytes at)
wide_at bytes wide i at is place within = rw (is, place) (wide_is bytes i within)

pub wide_length : (bytes : List ℕ) (wide : Bool) → wide ≡ true → length (units_of wide bytes) ≡ length bytes / 2
wide_length bytes wide is = rw is (length_wide bytes)
