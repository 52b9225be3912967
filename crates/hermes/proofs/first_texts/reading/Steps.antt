-- The steps of the reader, as its functions state them.
use Rattle.std.proofs.Common.{◌≡◌, ℕ, ◌+◌, ◌-◌, ◌*◌, ◌<◌, ◌≤◌, ◌≢◌, Bool, true, false, ◌==◌, if◌then◌else◌, List, []}
use Rattle.std.proofs.Common.{◌∷◌, ◌++◌, length, take, drop, slice_index, slice_range, refl, ap, ◌⊎◌, inl, inr, sym}
use Rattle.std.proofs.Common.{◌∙◌, subst, arith, Option, Some, None, Result, Ok, Err}
use Rattle.std.specs.Int.{IsInRange}
use Rattle.std.proofs.lemmas.List.{length-drop, length-take-le, get_or-drop, take_more, nil_from_length}
use Rattle.hz_list.specs.declared.limits.TheConstants.{MAX_SAFE}
use Rattle.hermes.specs.first.Texts.{is_number, is_text_byte}
use Rattle.hermes.specs.first.Reading.{operator_byte, Rest, RestToken, RestText, RestNumber, Moves, Halts, IsState}
use Rattle.hermes.specs.first.Reading.{Stepped}
use Rattle.hermes.proofs.first_texts.reading.Arguments.{text_opens, number_moves, first_number_opens, sum_ends}
use Rattle.hermes.proofs.first_texts.reading.Arguments.{operator_moves}
use Rattle.hermes.proofs.first_texts.reading.Digits.{digit_moves, zero_halts, large_halts, text_ends, text_moves}
use Rattle.hermes.proofs.first_texts.reading.Digits.{text_halts, text_full}
use Rattle.hermes.specs.declared.first.language.Sum.{Sum}
use Rattle.hermes.specs.declared.first.language.Argument.{Argument}
use Rattle.hermes.specs.declared.first.language.Argument.TheVariants as argument
use Rattle.hermes.specs.declared.first.language.FirstFault.{FirstFault}
use Rattle.hermes.specs.declared.first.language.FirstFault.TheVariants as fault
use Rattle.hermes.specs.declared.first.state.Operator.{Operator}
use Rattle.hermes.specs.declared.first.state.Next.{Next}
use Rattle.hermes.specs.declared.first.state.Next.TheVariants as next
use Rattle.hermes.specs.declared.first.state.State.{State}
use Rattle.hermes.specs.declared.first.state.State.TheVariants as state

abbrev Left : Type 1
Left = List ℕ → List Argument → Type 0

chosen : (old : Left) (source : List ℕ) (at b : ℕ) (done : List Argument) (new : State) (fits : Bool) →
    (fits ≡ true → IsState (at + 1) new × Moves old (Rest source (at + 1) new done) b) → (fits ≡ false → Halts old b) →
    Stepped old source at b done (if fits then Ok new else Err (fault.NotYet at))
chosen old source at b done new true moves halts = moves refl
chosen old source at b done new false moves halts = (refl, halts refl)

pub advance_step : (old : Left) (source : List ℕ) (at b x : ℕ) (done : List Argument) (new : State)
    (result : Result State FirstFault) →
    result ≡ (if b == x then Ok new else Err (fault.NotYet at)) → IsState (at + 1) new
    → Moves old (Rest source (at + 1) new done) x → (b ≢ x → Halts old b) →
    Stepped old source at b done result
advance_step old source at b x done new result e valid moves halts =
    subst (Stepped old source at b done) (sym e) (chosen old source at b done new (b == x)
    (λ same. (valid, subst (λ (y : ℕ). Moves old (Rest source (at + 1) new done) y) (equal same) moves))
    (λ other. halts (unequal other)))
  where
    equal : (b == x) ≡ true → x ≡ b
    equal same = grind (arith, same)

    unequal : (b == x) ≡ false → b ≢ x
    unequal other e = grind (arith, other, e)

nothing_yet : (xs : List ℕ) (n : ℕ) → slice_range xs n n ≡ []
nothing_yet xs n = let none : n - n ≡ 0 = omega arith in ap (λ (k : ℕ). take k (drop n xs)) none

-- at an argument
pub quote_opens : (source : List ℕ) (at b : ℕ) (done : List Argument) → b ≡ 34
    → Moves (RestToken [] next.Argument done) (RestText (slice_range source (at + 1) (at + 1)) done) b
quote_opens source at b done e =
    subst (λ (y : ℕ). Moves (RestToken [] next.Argument done) (RestText (slice_range source (at + 1) (at + 1)) done) y)
    (sym e)
    (subst (λ (t : List ℕ). Moves (RestToken [] next.Argument done) (RestText t done) 34)
    (sym (nothing_yet source (at + 1))) (text_opens done))

digit_in : (b d : ℕ) → d < 10 → b ≡ 48 + d → IsInRange 48 57 b
digit_in b d small e = (omega arith, omega arith)

digit_value_is : (b d : ℕ) → b ≡ 48 + d → b - 48 ≡ d
digit_value_is b d e = omega arith

pub digit_number : (d : ℕ) → d < 10 → is_number d ≡ true
digit_number d small = grind (arith, small)

pub digit_opens : (b d : ℕ) (done : List Argument) → d < 10 → b ≡ 48 + d
    → Moves (RestToken [] next.Argument done) (RestNumber None d done) b
digit_opens b d done small e =
    subst (λ (v : ℕ). Moves (RestToken [] next.Argument done) (RestNumber None v done) b) (digit_value_is b d e)
    (first_number_opens done b (digit_in b d small e))

pub digit_goes_on : (s : Sum) (op : Operator) (b d : ℕ) (done : List Argument) → d < 10 → b ≡ 48 + d
    → Moves (RestToken [] (next.Number s op) done) (RestNumber (Some (s, op)) d done) b
digit_goes_on s op b d done small e =
    subst (λ (v : ℕ). Moves (RestToken [] (next.Number s op) done) (RestNumber (Some (s, op)) v done) b)
    (digit_value_is b d e) (number_moves s op done b (digit_in b d small e))

-- behind a number
pub sum_closes : (s : Sum) (b : ℕ) (done new : List Argument) → b ≡ 41 → new ≡ done ++ argument.Sum s ∷ []
    → Moves (RestToken [] (next.Operator s) done) (RestToken [] next.End new) b
sum_closes s b done new e f =
    subst (λ (y : ℕ). Moves (RestToken [] (next.Operator s) done) (RestToken [] next.End new) y) (sym e)
    (subst (λ (ys : List Argument). Moves (RestToken [] (next.Operator s) done) (RestToken [] next.End ys) 41) (sym f)
    (sum_ends s done))

pub sum_goes_on : (s : Sum) (op : Operator) (b : ℕ) (done : List Argument) → b ≡ operator_byte op
    → Moves (RestToken [] (next.Operator s) done) (RestToken [] (next.Number s op) done) b
sum_goes_on s op b done e = subst
    (λ (y : ℕ). Moves (RestToken [] (next.Operator s) done) (RestToken [] (next.Number s op) done) y) (sym e)
    (operator_moves s op done)

-- in a text
pub text_length : (source : List ℕ) (start at : ℕ) → start ≤ at → at ≤ length source
    → length (slice_range source start at) ≡ at - start
text_length source start at low high =
    length-take-le (at - start) (drop start source) (omega (arith, length-drop start source))

more_text : (source : List ℕ) (start at : ℕ) → start ≤ at → at < length source
    → slice_range source start (at + 1) ≡ slice_range source start at ++ slice_index source at ∷ []
more_text source start at low high =
    let size : length (drop start source) ≡ length source - start = length-drop start source in
    let longer : (at + 1) - start ≡ (at - start) + 1 = omega arith in
    let place : start + (at - start) ≡ at = omega arith in
    ap (λ (k : ℕ). take k (drop start source)) longer
    ∙ take_more (drop start source) (at - start) 0 (omega arith)
    ∙ ap (λ (y : ℕ). take (at - start) (drop start source) ++ y ∷ [])
    (get_or-drop start source (at - start) 0 ∙ ap (λ (k : ℕ). slice_index source k) place)

pub text_closes : (source : List ℕ) (start at : ℕ) (done new : List Argument) → start ≤ at → at ≤ start + 254
    → at < length source → slice_index source at ≡ 34 →
    new ≡ done ++ argument.Text (slice_range source start at) ∷ []
    → Moves (RestText (slice_range source start at) done) (RestToken [] next.Close new) (slice_index source at)
text_closes source start at done new low short high e f =
    let size : length (slice_range source start at) ≡ at - start = text_length source start at low (omega arith) in
    subst (λ (y : ℕ). Moves (RestText (slice_range source start at) done) (RestToken [] next.Close new) y) (sym e)
    (subst (λ (ys : List Argument). Moves (RestText (slice_range source start at) done) (RestToken [] next.Close ys) 34)
    (sym f)
    (text_ends (slice_range source start at) done (omega arith)))

pub text_goes_on : (source : List ℕ) (start at : ℕ) (done : List Argument) → start ≤ at → at < length source
    → slice_index source at ≢ 34 → is_text_byte (slice_index source at) ≡ true →
    Moves (RestText (slice_range source start at) done) (RestText (slice_range source start (at + 1)) done)
    (slice_index source at)
text_goes_on source start at done low high other good =
    subst (λ (t : List ℕ). Moves (RestText (slice_range source start at) done) (RestText t done)
    (slice_index source at)) (sym (more_text source start at low high))
    (text_moves (slice_range source start at) done (slice_index source at) other good)

pub text_stops : (source : List ℕ) (start at : ℕ) (done : List Argument) → start ≤ at → at < length source
    → slice_index source at ≢ 34 → (254 ≤ at - start) ⊎ (is_text_byte (slice_index source at) ≡ false) →
    Halts (RestText (slice_range source start at) done) (slice_index source at)
text_stops source start at done low high other why =
    elim why [
      | inl full ↦ let size : length (slice_range source start at) ≡ at - start =
          text_length source start at low (omega arith) in
          text_full (slice_range source start at) done (slice_index source at) other (omega arith)
      | inr bad ↦ text_halts (slice_range source start at) done (slice_index source at) other bad
    ]

-- in a number
pub no_zero_in_front : (before : Option (Sum × Operator)) (value d : ℕ) (done : List Argument) → d < 10 → value ≡ 0
    → Halts (RestNumber before value done) (48 + d)
no_zero_in_front before value d done small e =
    subst (λ (v : ℕ). Halts (RestNumber before v done) (48 + d)) (sym e)
    (zero_halts before done (48 + d) (digit_in (48 + d) d small refl))

pub too_large : (before : Option (Sum × Operator)) (value d : ℕ) (done : List Argument) → is_number value ≡ true
    → d < 10 → MAX_SAFE < value * 10 + d → Halts (RestNumber before value done) (48 + d)
too_large before value d done h small large =
    let same : 48 + d - 48 ≡ d = digit_value_is (48 + d) d refl in
    large_halts before value done (48 + d) h (digit_in (48 + d) d small refl) (omega arith)

pub digit_longer : (before : Option (Sum × Operator)) (value d : ℕ) (done : List Argument) → is_number value ≡ true
    → d < 10 → (value ≡ 0 → ⊥) → value * 10 + d ≤ MAX_SAFE →
    (is_number (value * 10 + d) ≡ true)
    × Moves (RestNumber before value done) (RestNumber before (value * 10 + d) done) (48 + d)
digit_longer before value d done h small some fits =
    let same : 48 + d - 48 ≡ d = digit_value_is (48 + d) d refl in
    let positive : 0 < value = grind (arith, some) in (
      grind (arith, fits),
      subst (λ (v : ℕ). Moves (RestNumber before value done) (RestNumber before (value * 10 + v) done) (48 + d)) same
          (digit_moves before value done (48 + d) h (digit_in (48 + d) d small refl) positive (omega arith)),
    )

pub text_step_at : (source : List ℕ) (start at : ℕ) (done : List Argument) (good : Bool)
    (result : Result State FirstFault) → start ≤ at → at < start + 254 → at < length source →
    slice_index source at ≢ 34 → good ≡ is_text_byte (slice_index source at)
    → result ≡ (if good then Ok (state.Text start) else Err (fault.NotYet at)) →
    Stepped (RestText (slice_range source start at) done) source at (slice_index source at) done result
text_step_at source start at done good result low short high other tells e =
    subst (Stepped (RestText (slice_range source start at) done) source at (slice_index source at) done) (sym e)
    (chosen (RestText (slice_range source start at) done) source at (slice_index source at) done (state.Text start) good
    (λ yes. ((omega arith, omega arith), text_goes_on source start at done low high other (sym tells ∙ yes)))
    (λ no. text_stops source start at done low high other (inr (sym tells ∙ no))))

pub at_next : (source : List ℕ) (at b : ℕ) (done new : List Argument) (after other : Next)
    (result : Result State FirstFault) → after ≡ other →
    Stepped (RestToken [] other done) source at b new result → Stepped (RestToken [] after done) source at b new result
at_next source at b done new after other result e =
    subst (λ (k : Next). Stepped (RestToken [] k done) source at b new result) (sym e)

pub at_digit : (old : Left) (source : List ℕ) (at b d : ℕ) (done : List Argument) (result : Result State FirstFault)
    → b ≡ 48 + d →
    Stepped old source at (48 + d) done result → Stepped old source at b done result
at_digit old source at b d done result e = subst (λ (y : ℕ). Stepped old source at y done result) (sym e)

-- What is left may be said in another way.
pub step_from : (old other : Left) (source : List ℕ) (at b : ℕ) (done : List Argument)
    (result : Result State FirstFault) →
    ((r : List ℕ) (calls : List Argument) → old (b ∷ r) calls → other (b ∷ r) calls)
    → ((r : List ℕ) (calls : List Argument) → other (b ∷ r) calls → old (b ∷ r) calls) →
    Stepped other source at b done result → Stepped old source at b done result
step_from old other source at b done (Ok new) to from x = (
  x.0,
  record {
    on = λ r calls y. x.1.on r calls (to r calls y);
    back =
        λ r calls y. from r calls (x.1.back r calls y);
  },
)
step_from old other source at b done (Err (fault.NotYet n)) to from x = (x.0, λ r calls y. x.1 r calls (to r calls y))
step_from old other source at b done (Err fault.Memory) to from x = tt

pub at_state : (source : List ℕ) (at b : ℕ) (done new : List Argument) (now other : State)
    (result : Result State FirstFault) → now ≡ other →
    Stepped (Rest source at other done) source at b new result
    → Stepped (Rest source at now done) source at b new result
at_state source at b done new now other result e =
    subst (λ (s : State). Stepped (Rest source at s done) source at b new result) (sym e)

pub at_part : (source : List ℕ) (at b : ℕ) (done new : List Argument) (part : List ℕ) (after : Next)
    (result : Result State FirstFault) → length part < 1 →
    Stepped (RestToken [] after done) source at b new result
    → Stepped (RestToken part after done) source at b new result
at_part source at b done new part after result short =
    subst (λ (p : List ℕ). Stepped (RestToken p after done) source at b new result)
    (sym (nil_from_length part (omega arith)))
