-- The first byte of a text: a quote begins the directive, and in strict code a call may stand in front.
use Rattle.std.proofs.Common.{◌≡◌, ◌≢◌, ℕ, ◌<◌, Bool, true, false, List, [], ◌∷◌, ◌++◌, length, slice_index, flat_map}
use Rattle.std.proofs.Common.{codes, refl, ap, sym, ◌∙◌, subst, arith, Ok, Err, ◌⊎◌, inl, inr}
use Rattle.std.specs.List.{list_all}
use Rattle.hermes.specs.first.Texts.{directive, argument_tokens, call_tokens, Spaced, is_argument, Spells, IsFirst}
use Rattle.hermes.specs.first.Texts.{IsStuck}
use Rattle.hermes.specs.first.Reading.{RestToken, Rest, Whole, Moves, Halts, IsState, Stepped, IsRead, Reads}
use Rattle.hermes.proofs.first_texts.reading.Spacing.{spaced_cons, cons_spaced, spaced_nil, spaced_solid}
use Rattle.hermes.proofs.first_texts.reading.Tokens.{call_opens, opened}
use Rattle.hermes.proofs.first_texts.reading.Reached.{next_take, halted_by}
use Rattle.hermes.specs.declared.first.language.Argument.{Argument}
use Rattle.hermes.specs.declared.first.language.FirstFault.{FirstFault}
use Rattle.hermes.specs.declared.first.language.FirstFault.TheVariants as fault
use Rattle.hermes.specs.declared.first.state.Next.TheVariants as next
use Rattle.hermes.specs.declared.first.state.State.{State}

abbrev pub behind_quote : List ℕ
behind_quote = codes "use strict" ++ 34 ∷ 59 ∷ []

quoted : (strict : Bool) (calls : List Argument) (r : List ℕ) → list_all is_argument calls ≡ true
    → Spells strict calls (34 ∷ r) → RestToken behind_quote next.Call [] r calls
quoted strict calls r parts (inl s) = (
  flat_map call_tokens calls,
  (calls, refl, parts, refl),
  (spaced_cons 34 34 behind_quote (flat_map call_tokens calls) r s).1,
)
quoted strict calls r parts (inr s) =
    let bad : 34 ≡ 112 = (call_opens calls [] (flat_map call_tokens calls) calls 34 r refl parts refl s.1).0 in
    absurd (omega (arith, bad))

unquoted : (strict : Bool) (calls : List Argument) (r : List ℕ) → RestToken behind_quote next.Call [] r calls
    → IsFirst strict calls (34 ∷ r)
unquoted strict calls r x =
    let f = x.1 in
    let tokens : x.0 ≡ flat_map call_tokens calls = f.3
    ∙ ap (λ (y : List Argument). flat_map call_tokens y) (sym f.1) in
    let spelled : Spaced (directive ∷ x.0) (34 ∷ r) = cons_spaced 34 behind_quote x.0 r x.2 in
    record {
      parts = ap (λ (y : List Argument). list_all is_argument y) f.1 ∙ f.2;
      spelled = inl (subst (λ (y : List (List ℕ)). Spaced (directive ∷ y) (34 ∷ r)) tokens spelled);
    }

pub directive_moves : (strict : Bool) (b : ℕ) → b ≡ 34 → Moves (Whole strict) (RestToken behind_quote next.Call []) b
directive_moves strict b e =
    subst (λ (y : ℕ). Moves (Whole strict) (RestToken behind_quote next.Call []) y) (sym e) (record {
      on = λ r calls x. quoted strict calls r x.parts x.spelled;
      back = λ r calls x. unquoted strict calls r x;
    })

bare : (strict : Bool) (calls : List Argument) (b : ℕ) (r : List ℕ) → b ≢ 34 → list_all is_argument calls ≡ true
    → Spells strict calls (b ∷ r) → (strict ≡ true) × (b ≡ 112) × RestToken (codes "rint") next.Open [] r calls
bare strict calls b r other parts (inl s) =
    absurd (other (spaced_cons 34 b behind_quote (flat_map call_tokens calls) r s).0)
bare strict calls b r other parts (inr s) =
    let x = call_opens calls [] (flat_map call_tokens calls) calls b r refl parts refl s.1 in (s.0, x.0, x.1)

print_moves : (strict : Bool) → strict ≡ true → Moves (Whole strict) (RestToken (codes "rint") next.Open []) 112
print_moves strict e = record {
  on = λ r calls x. (bare strict calls 112 r (λ bad. omega (arith, bad)) x.parts x.spelled).2;
  back = λ r calls x.
      let y = opened [] r calls x in
      let f = y.1 in
      let tokens : y.0 ≡ flat_map call_tokens calls = f.3
      ∙ ap (λ (z : List Argument). flat_map call_tokens z) (sym f.1) in
      let spelled : Spaced y.0 (112 ∷ r) = spaced_solid 112 y.0 r refl y.2 in
      record {
        parts = ap (λ (z : List Argument). list_all is_argument z) f.1 ∙ f.2;
        spelled = inr (e, subst (λ (z : List (List ℕ)). Spaced z (112 ∷ r)) tokens spelled);
      };
}

pub call_moves : (strict : Bool) (b : ℕ) → strict ≡ true → b ≡ 112
    → Moves (Whole strict) (RestToken (codes "rint") next.Open []) b
call_moves strict b e f = subst (λ (y : ℕ). Moves (Whole strict) (RestToken (codes "rint") next.Open []) y) (sym f)
    (print_moves strict e)

no_print : (strict : Bool) (b : ℕ) → ((b ≡ 112) × (strict ≡ false)) ⊎ (b ≢ 112) → strict ≡ true → b ≡ 112 → ⊥
no_print strict b (inl x) e f = let bad : true ≡ false = sym e ∙ x.1 in cc
no_print strict b (inr x) e f = x f

pub nothing_begins : (strict : Bool) (b : ℕ) → b ≢ 34 → ((b ≡ 112) × (strict ≡ false)) ⊎ (b ≢ 112)
    → Halts (Whole strict) b
nothing_begins strict b other none r calls x =
    let y = bare strict calls b r other x.parts x.spelled in no_print strict b none y.0 y.1

-- the first step leads on, or none does
pub first_read : (strict : Bool) (source : List ℕ) (now : State) → 0 < length source → IsState 1 now
    → Moves (Whole strict) (Rest source 1 now []) (slice_index source 0) → IsRead strict source 1 now []
first_read strict source now some valid moves = record {
  valid = valid;
  on = λ r calls x. moves.on r calls (subst (IsFirst strict calls) (next_take source 0 r some) x);
  back = λ r calls x. subst (IsFirst strict calls) (sym (next_take source 0 r some)) (moves.back r calls x);
}

nothing_yet : (strict : Bool) → IsFirst strict [] directive
nothing_yet strict = record { parts = refl; spelled = inl ([], [], refl, refl, refl) }

pub first_failed : (strict : Bool) (source : List ℕ) (why : FirstFault) → 0 < length source
    → Stepped (Whole strict) source 0 (slice_index source 0) [] (Err why) → Reads strict source (Err why)
first_failed strict source (fault.NotYet n) some x =
    subst (IsStuck strict source) (sym x.0)
    (halted_by strict source 0 (Whole strict) some ([], directive, nothing_yet strict) (λ r calls y. y) x.1)
first_failed strict source fault.Memory some x = tt

-- a text without bytes
no_bytes : (strict : Bool) (calls : List Argument) → Spells strict calls [] → (strict ≡ true) × (calls ≡ [])
no_bytes strict calls (inl s) = absurd (spaced_nil 34 behind_quote (flat_map call_tokens calls) s)
no_bytes strict [] (inr s) = (s.0, refl)
no_bytes strict (a ∷ calls) (inr s) =
    absurd (spaced_nil 112 (codes "rint")
    ((40 ∷ []) ∷ ((argument_tokens a ++ (41 ∷ []) ∷ (59 ∷ []) ∷ []) ++ flat_map call_tokens calls)) s.1)

nothing_left : (strict : Bool) → strict ≡ true → Reads strict [] (Ok [])
nothing_left strict e = (
  record { parts = refl; spelled = inr (e, refl) },
  λ calls x. (no_bytes strict calls x.spelled).1,
)

pub nothing_read : (strict : Bool) (found : List Argument) → strict ≡ true → found ≡ [] → Reads strict [] (Ok found)
nothing_read strict found e f = subst (λ (x : List Argument). Reads strict [] (Ok x)) (sym f) (nothing_left strict e)

pub nothing_refused : (strict : Bool) → strict ≡ false → Reads strict [] (Err (fault.NotYet 0))
nothing_refused strict e = record {
  unspelled = λ calls x. let bad : true ≡ false = sym (no_bytes strict calls x.spelled).0 ∙ e in cc;
  within = omega arith;
  begins = ([], directive, nothing_yet strict);
  longest = λ n more within x. absurd (omega (arith, more, within));
}
