-- A routine that works on the same values in worlds that agree does the same.
use Rattle.std.proofs.Common.{◌≡◌, refl, ap, ◌∙◌, ℕ, zero, suc, List, [], ◌∷◌, map, drop, length, Option, Some, None}
use Rattle.std.specs.Prelude.{slice_get, ⊤}
use Rattle.std.specs.List.{join_with_byte}
use Rattle.hz_value.specs.declared.values.Value.{Value}
use Rattle.hz_value.specs.operators.Conversions.{to_text}
use Rattle.hz_value.specs.system.Acts.{Reply}
use Rattle.hz_value.specs.system.Routines.{RoutineActivation, line_of, text_or_empty}
use Rattle.hz_value.specs.world.Store.{Store, content_of}
use Rattle.hz_value.specs.world.World.{World}
use Rattle.hz_ecma.specs.agreement.Contents.{SameValue, SameValues}
use Rattle.hz_ecma.specs.agreement.Replies.{SameReply}

abbrev pub SameAnswer : Store → Store → Option Reply → Option Reply → Type 0
SameAnswer s s1 None None = ⊤
SameAnswer s s1 (Some c) (Some c1) = SameReply s s1 c c1
SameAnswer s s1 c c1 = ⊥

pub record SameRoutine (s s1 : Store) (r r1 : RoutineActivation) : Type 0 where
  pub routine : r.routine ≡ r1.routine
  pub place : r.place ≡ r1.place
  pub values : SameValues s s1 r.values r1.values
  pub reply : SameAnswer s s1 r.reply r1.reply

abbrev pub SameMaybe : Store → Store → Option Value → Option Value → Type 0
SameMaybe s s1 None None = ⊤
SameMaybe s s1 (Some v) (Some v1) = SameValue s s1 v v1
SameMaybe s s1 v v1 = ⊥

module _ (s s1 : Store) where
  pub same_get : (vs vs1 : List Value) (k : ℕ) → SameValues s s1 vs vs1
      → SameMaybe s s1 (slice_get vs k) (slice_get vs1 k)
  same_get [] [] k h = tt
  same_get (v ∷ vs) (v1 ∷ vs1) zero h = h.0
  same_get (v ∷ vs) (v1 ∷ vs1) (suc k) h = same_get vs vs1 k h.1
  same_get [] (v1 ∷ vs1) k h = absurd h
  same_get (v ∷ vs) [] k h = absurd h

  pub same_rest : (vs vs1 : List Value) → SameValues s s1 vs vs1 → SameValues s s1 (drop 1 vs) (drop 1 vs1)
  same_rest [] [] h = tt
  same_rest (v ∷ vs) (v1 ∷ vs1) h = h.1
  same_rest [] (v1 ∷ vs1) h = absurd h
  same_rest (v ∷ vs) [] h = absurd h

  pub same_length : (vs vs1 : List Value) → SameValues s s1 vs vs1 → length vs ≡ length vs1
  same_length [] [] h = refl
  same_length (v ∷ vs) (v1 ∷ vs1) h = ap suc (same_length vs vs1 h.1)
  same_length [] (v1 ∷ vs1) h = absurd h
  same_length (v ∷ vs) [] h = absurd h

  same_texts : (vs vs1 : List Value) → SameValues s s1 vs vs1
      → map (λ v. text_or_empty (to_text (content_of s v))) vs
      ≡ map (λ v. text_or_empty (to_text (content_of s1 v))) vs1
  same_texts [] [] h = refl
  same_texts (v ∷ vs) (v1 ∷ vs1) h =
      ap (λ c. text_or_empty (to_text c) ∷ map (λ x. text_or_empty (to_text (content_of s x))) vs) h.0.content
      ∙ ap (λ ts. text_or_empty (to_text (content_of s1 v1)) ∷ ts) (same_texts vs vs1 h.1)
  same_texts [] (v1 ∷ vs1) h = absurd h
  same_texts (v ∷ vs) [] h = absurd h

-- the line that they print
pub same_line : (w w1 : World) (vs vs1 : List Value) → SameValues w.store w1.store vs vs1
    → line_of w vs ≡ line_of w1 vs1
same_line w w1 vs vs1 h = ap (λ ts. join_with_byte 32 ts) (same_texts w.store w1.store vs vs1 h)
