-- Lemmas on a run of digits that is read from the left.
use Rattle.std.proofs.Common.{◌≡◌, ℕ, ◌+◌, ◌*◌, ◌<◌, ◌≤◌, true, List, nat_lt, take, get_or, length, sym, None, arith}
use Rattle.std.proofs.lemmas.List.Folds.{list_all_more}
use Rattle.std.proofs.lemmas.Int.Digits.{digits_value_more}
use Rattle.std.proofs.lemmas.Str.Parse.{digits_value-take-le}
use Rattle.std.specs.Char.{digit_value}
use Rattle.std.specs.Str.Parse.{digits_value}
use Rattle.hz_list.specs.declared.limits.TheConstants.{MAX_SAFE}
use Rattle.hz_value.specs.NumberTexts.{are_digits, natural_of}

-- one more digit
pub are_digits_more : (radix : ℕ) (us : List ℕ) (i : ℕ) → i < length us → are_digits radix (take i us) ≡ true →
    digit_value (get_or us i 0) < radix → are_digits radix (take (i + 1) us) ≡ true
are_digits_more radix us i within before digit =
    grind (arith, list_all_more (λ u. nat_lt (digit_value u) radix) us i 0 within)

pub digits_value_step : (radix value digit : ℕ) (us : List ℕ) (i : ℕ) → i < length us →
    value ≡ digits_value radix (take i us) → digit ≡ digit_value (get_or us i 0) →
    value * radix + digit ≡ digits_value radix (take (i + 1) us)
digits_value_step radix value digit us i within before last =
    rw (before, last) (sym (digits_value_more radix us i within))

-- a front that writes too large a number makes the whole too large
pub natural_too_large : (radix value : ℕ) (us : List ℕ) (i : ℕ) → 1 ≤ radix →
    value ≡ digits_value radix (take i us) → MAX_SAFE < value → natural_of radix us ≡ None
natural_too_large radix value us i some is large = grind (arith, digits_value-take-le radix us i some)
