-- A source of which no more was read than shows that it is too long.
use Rattle.std.proofs.Common.{◌≡◌, ◌∙◌, ◌<◌, ◌≤◌, ◌+◌, ℕ, List, [], length, take, Option, Some, None, MatchBool, nat_lt}
use Rattle.std.proofs.Common.{Bool, true, false, refl, sym, ap, subst, inl, inr, arith}
use Rattle.std.proofs.lemmas.List.{take_all, length-take, length-take-le}
use Rattle.hz_io.specs.Contents.{Contents, ReadsFile, Told}
use Rattle.hermes.specs.declared.first.language.Argument.{Argument}
use Rattle.hz_tree.specs.declared.refusal.Refusal.{Refusal}
use Rattle.hz_tree.specs.declared.refusal.Refusal.TheVariants as refusal
use Rattle.hz_tree.specs.declared.refusal.Refusal.TheVariants.{TooLong}
use Rattle.hz_tree.specs.sources.Refusals.{max_length, refusal_of}
use Rattle.hermes.specs.declared.status.Status.{Status}
use Rattle.hermes.specs.declared.status.Status.TheVariants as status
use Rattle.hermes.specs.first.Texts.{IsAccepted, IsRefused, IsStuck}
use Rattle.hermes.specs.Printing.{Prints}
use Rattle.hermes.specs.Outcomes.{IsRunnable, IsRefusedFor, Outcome, OutcomeAt, OutcomeOf}

-- a source that is too long is refused as that
too_long : (strict : Bool) (s : List ℕ) → max_length < length s → refusal_of s strict ≡ Some TooLong
unfolding refusal_of
too_long strict s long =
    let e : nat_lt max_length (length s) ≡ true = grind (arith, long) in rw e refl

-- n bytes are read at most, one more than a source may have
module _ (strict : Bool) (n : ℕ) (is : n ≡ max_length + 1) where
  -- a source of which fewer come is those bytes
  all_of : (s : List ℕ) → length (take n s) < n → take n s ≡ s
  all_of s short = take_all n s (grind (arith, length-take n s, short))

  accepted : (s : List ℕ) (calls : List Argument) → IsAccepted strict (take n s) calls → IsAccepted strict s calls
  accepted s calls r =
      subst (λ (x : List ℕ). IsAccepted strict x calls) (all_of s (omega (arith, is, r.0))) r

  -- by whether what was read is too long
  refused_by : (s : List ℕ) (at : ℕ) (long : Bool) → nat_lt 4095 (length (take n s)) ≡ long
      → MatchBool long (at ≡ 4095) (IsStuck strict (take n s) at) → IsRefused strict s at
  refused_by s at true e r =
      let e2 : nat_lt 4095 (length s) ≡ true = grind (arith, length-take n s, e, is) in
      subst (λ (b : Bool). MatchBool b (at ≡ 4095) (IsStuck strict s at)) (sym e2) r
  refused_by s at false e r =
      let same : take n s ≡ s = all_of s (grind (arith, e, is)) in
      let e2 : nat_lt 4095 (length s) ≡ false = ap (λ (x : List ℕ). nat_lt 4095 (length x)) (sym same) ∙ e in
      subst (λ (b : Bool). MatchBool b (at ≡ 4095) (IsStuck strict s at)) (sym e2)
      (subst (λ (x : List ℕ). IsStuck strict x at) same r)

  refused : (s : List ℕ) (at : ℕ) → IsRefused strict (take n s) at → IsRefused strict s at
  refused s at r = refused_by s at (nat_lt 4095 (length (take n s))) refl r

  -- what is read of a source is refused as the source is
  same_by : (s : List ℕ) (short : Bool) → nat_lt (length s) n ≡ short
      → refusal_of (take n s) strict ≡ refusal_of s strict
  same_by s true e =
      let few : length s < n = grind (arith, e) in
      ap (λ (x : List ℕ). refusal_of x strict) (take_all n s (omega (arith, few)))
  same_by s false e =
      let many : n ≤ length s = grind (arith, e) in
      let cut : length (take n s) ≡ n = length-take-le n s many in
      too_long strict (take n s) (omega (arith, cut, is)) ∙ sym (too_long strict s (omega (arith, many, is)))

  same_refusal : (s : List ℕ) → refusal_of (take n s) strict ≡ refusal_of s strict
  same_refusal s = same_by s (nat_lt (length s) n) refl

  runnable : (s : List ℕ) (calls : List Argument) → IsRunnable strict (take n s) calls → IsRunnable strict s calls
  runnable s calls r = record {
    unrefused = sym (same_refusal s) ∙ r.unrefused;
    accepted = accepted s calls r.accepted;
  }

  refused_for : (s : List ℕ) (why : Refusal) → IsRefusedFor strict (take n s) why → IsRefusedFor strict s why
  refused_for s (refusal.NotYet at) r = (sym (same_refusal s) ∙ r.0, refused s at r.1)
  refused_for s refusal.TooLong r = sym (same_refusal s) ∙ r
  refused_for s (refusal.NotUtf8 at) r = sym (same_refusal s) ∙ r
  refused_for s (refusal.Syntax at) r = sym (same_refusal s) ∙ r
  refused_for s (refusal.Outside kind at) r = sym (same_refusal s) ∙ r
  refused_for s refusal.Sloppy r = sym (same_refusal s) ∙ r
  refused_for s (refusal.Early kind at) r = sym (same_refusal s) ∙ r
  refused_for s (refusal.Profile kind at) r = sym (same_refusal s) ∙ r
  refused_for s (refusal.Limit kind at) r = sym (same_refusal s) ∙ r

  whole : (end : Status) (s : List ℕ) (old new : Told) → Outcome end strict (take n s) old new
      → Outcome end strict s old new
  whole status.Done s old new (calls, r, e, a) = (calls, runnable s calls r, e, a)
  whole (status.Left reason) s old new (calls, r, e, a) = (calls, runnable s calls r, e, a)
  whole (status.Refused why) s old new (r, k) = (refused_for s why r, k)
  whole status.ReadFault s old new k = k
  whole status.WriteFault s old new (calls, r, a) = (calls, runnable s calls r, a)
  whole status.Memory s old new (inl (calls, r, a)) = inl (calls, runnable s calls r, a)
  whole status.Memory s old new (inr k) = inr k
  whole (status.Usage word) s old new none = none
  whole (status.Uncaught description) s old new none = none

  -- What was read of a file says of the whole source what it says.
  pub read_whole : (held : Option Contents) (name bytes : List ℕ) (end : Status) (old new : Told)
      → ReadsFile held name n bytes → Outcome end strict bytes old new → OutcomeOf held name strict end old new
  read_whole None name bytes end old new reads outcome = (bytes, outcome)
  read_whole (Some held) name bytes end old new (s, there, e) outcome =
      subst (λ (x : Option (List ℕ)). OutcomeAt x strict end old new) (sym there)
      (whole end s old new (subst (λ (x : List ℕ). Outcome end strict x old new) e outcome))

-- by what the file is, where no source was read
pub unread_at : (strict : Bool) (held : Option (List ℕ)) (old new : Told) → Prints old new []
    → OutcomeAt held strict status.ReadFault old new × OutcomeAt held strict status.Memory old new
unread_at strict None old new k = ((inl refl, k), (inr refl, k))
unread_at strict (Some s) old new k = (k, inr k)

pub unread : (strict : Bool) (held : Option Contents) (name : List ℕ) (old new : Told) → Prints old new []
    → OutcomeOf held name strict status.ReadFault old new × OutcomeOf held name strict status.Memory old new
unread strict None name old new k = ((name, k), (name, inr k))
unread strict (Some held) name old new k = unread_at strict (held name) old new k
