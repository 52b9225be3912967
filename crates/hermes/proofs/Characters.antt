-- The characters that the units of a text spell, one after the other.
use Rattle.std.proofs.Common.{◌≡◌, ℕ, ◌≤◌, List, [], ◌∷◌, ◌&&◌, true, false, length, drop, get_or, refl, unwrap_or}
use Rattle.std.proofs.Common.{◌==◌, arith}
use Rattle.std.specs.Char.Utf16.{is_high_surrogate, is_low_surrogate, lone_unit_char, surrogate_pair_char, utf16_chars}
use Rattle.std.specs.Char.Utf16.{utf16_lossy_chars}
use Rattle.hermes.specs.Printing.{utf8}

pub last_unit : (us : List ℕ) → length us ≡ 1
    → utf16_lossy_chars us ≡ unwrap_or (lone_unit_char (get_or us 0 0)) 0xFFFD ∷ utf16_lossy_chars (drop 1 us)
unfolding utf16_chars
last_unit [] one = absurd (omega arith)
last_unit (u ∷ []) one = refl
last_unit (u ∷ v ∷ us) one = absurd (omega arith)

pub unit_in_front : (us : List ℕ) → 2 ≤ length us
    → (is_high_surrogate (get_or us 0 0) && is_low_surrogate (get_or us 1 0)) ≡ false
    → utf16_lossy_chars us ≡ unwrap_or (lone_unit_char (get_or us 0 0)) 0xFFFD ∷ utf16_lossy_chars (drop 1 us)
unfolding utf16_chars
unit_in_front [] two apart = absurd (omega arith)
unit_in_front (u ∷ []) two apart = absurd (omega arith)
unit_in_front (u ∷ v ∷ us) two apart = rw apart refl

pub pair_in_front : (us : List ℕ) → 2 ≤ length us
    → (is_high_surrogate (get_or us 0 0) && is_low_surrogate (get_or us 1 0)) ≡ true
    → utf16_lossy_chars us ≡ surrogate_pair_char (get_or us 0 0) (get_or us 1 0) ∷ utf16_lossy_chars (drop 2 us)
unfolding utf16_chars
pair_in_front [] two pair = absurd (omega arith)
pair_in_front (u ∷ []) two pair = absurd (omega arith)
pair_in_front (u ∷ v ∷ us) two pair = rw pair refl

pub text_at_end : (us : List ℕ) → (length us == 0) ≡ true → utf8 us ≡ []
unfolding utf16_chars
text_at_end [] end = refl
text_at_end (u ∷ us) end = absurd (grind arith)
