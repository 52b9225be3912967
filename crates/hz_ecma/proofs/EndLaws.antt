-- Two runs of which each step forward of the one is matched by one of the other end alike.
use Rattle.std.proofs.Common.{◌≡◌, ◌≤◌, ◌+◌, ◌-◌, arith, refl, sym, ap, subst, ◌∙◌, ℕ, zero, suc, nat_lt, Bool, true}
use Rattle.std.proofs.Common.{false}
use Rattle.std.proofs.lemmas.Bool.{ltb-true, ltb-false}
use Rattle.hz_value.specs.system.System.{Meaning, System, Ended, Ending}
use Rattle.hz_value.specs.system.Step.{system_step}
use Rattle.hz_value.specs.system.Runs.{after}
use Rattle.hz_value.proofs.RunLaws.{ended_stays}

-- the two have run on, and either may go on for n acts or both have stopped
pub data Moved {A B : Type 0} (Alive : ℕ → System A → System B → Type 0) (Stopped : System A → System B → Type 0)
    (n : ℕ) (s : System A) (s1 : System B) : Type 0 where
  Lives : Alive n s s1 → Moved Alive Stopped n s s1
  Stops : Stopped s s1 → Moved Alive Stopped n s s1

-- each takes a step or more, and then they stand so
pub record Ahead {A B : Type 0} (m : Meaning A) (m1 : Meaning B) (Then : System A → System B → Type 0)
    (s : System A) (s1 : System B) : Type 0 where
  pub steps : ℕ
  pub other_steps : ℕ
  pub is : Then (after m (suc steps) s) (after m1 (suc other_steps) s1)

pub after_sum : {A : Type 0} (m : Meaning A) (a b : ℕ) (s : System A) → after m (a + b) s ≡ after m b (after m a s)
after_sum m zero b s =
    let e : zero + b ≡ b = omega arith in
    ap (λ k. after m k s) e
after_sum m (suc a) b s =
    let e : suc a + b ≡ suc (a + b) = omega arith in
    ap (λ k. after m k s) e ∙ after_sum m a b (system_step m s)

-- one that has ended is so later
ended_later : {A : Type 0} (m : Meaning A) (a b : ℕ) (s : System A) (e : Ending) → a ≤ b
    → (after m a s).state ≡ Ended e → after m b s ≡ after m a s
ended_later m a b s e le is =
    let more : b ≡ a + (b - a) = omega (arith, le) in
    ap (λ k. after m k s) more ∙ after_sum m a (b - a) s ∙ ended_stays m (b - a) (after m a s) e is

module _ (A B : Type 0) (m : Meaning A) (m1 : Meaning B) (Alive : ℕ → System A → System B → Type 0)
    (Stopped : System A → System B → Type 0)
    (runs : (n : ℕ) (s : System A) (s1 : System B) (e : Ending) → Alive n s s1 → s.state ≡ Ended e → ⊥)
    (stopped : (s : System A) (s1 : System B) → Stopped s s1 → (e : Ending) × (s.state ≡ Ended e))
    (go : (n : ℕ) (s : System A) (s1 : System B) → Alive (suc n) s s1 → Ahead m m1 (Moved Alive Stopped n) s s1)
  where
    abbrev pub Found : ℕ → System A → System B → Type 0
    Found j s s1 = (k : ℕ) × Stopped (after m j s) (after m1 k s1)

    stops_where : (j i i1 : ℕ) (s : System A) (s1 : System B) (e : Ending) → (after m j s).state ≡ Ended e
        → (b : Bool) → nat_lt i j ≡ b → Stopped (after m i s) (after m1 i1 s1) → Found j s s1
    stops_where j i i1 s s1 e is true lt h = (
      i1,
      subst (λ x. Stopped x (after m1 i1 s1))
          (sym (ended_later m i j s (stopped _ _ h).0 (omega (arith, ltb-true i j lt)) (stopped _ _ h).1)) h,
    )
    stops_where j i i1 s s1 e is false lt h = (
      i1,
      subst (λ x. Stopped x (after m1 i1 s1)) (ended_later m j i s e (omega (arith, ltb-false i j lt)) is) h,
    )

    -- where the first has ended within n steps, both have stopped
    pub ends_to : (n j : ℕ) (s : System A) (s1 : System B) (e : Ending) → j ≤ n → Alive n s s1
        → (after m j s).state ≡ Ended e → Found j s s1
    ends_to zero zero s s1 e le h is = absurd (runs zero s s1 e h is)
    ends_to zero (suc j) s s1 e le h is = absurd (omega (arith, le))
    ends_to (suc n) zero s s1 e le h is = absurd (runs (suc n) s s1 e h is)
    ends_to (suc n) (suc j) s s1 e le h is =
        behind (go n s s1 h).steps (go n s s1 h).other_steps (go n s s1 h).is
        (λ i s2 s3 le1 h1 is1. ends_to n i s2 s3 e le1 h1 is1)
      where
        on : (i i1 : ℕ) → Alive n (after m (suc i) s) (after m1 (suc i1) s1)
            → ((k : ℕ) (s2 : System A) (s3 : System B) → k ≤ n → Alive n s2 s3 → (after m k s2).state ≡ Ended e
            → Found k s2 s3) → (b : Bool) → nat_lt i j ≡ b → Found (suc j) s s1
        on i i1 h1 more false lt =
            absurd (runs n _ _ e h1
            (ap (λ x. x.state) (ended_later m (suc j) (suc i) s e (omega (arith, ltb-false i j lt)) is) ∙ is))
        on i i1 h1 more true lt =
            let rest : suc j ≡ suc i + (j - i) = omega (arith, ltb-true i j lt) in
            let same : after m (suc j) s ≡ after m (j - i) (after m (suc i) s) =
            ap (λ k. after m k s) rest ∙ after_sum m (suc i) (j - i) s in
            let found : Found (j - i) (after m (suc i) s) (after m1 (suc i1) s1) =
            more (j - i) (after m (suc i) s) (after m1 (suc i1) s1) (omega (arith, le)) h1
            (ap (λ x. x.state) (sym same) ∙ is) in (
              suc i1 + found.0,
              subst (λ x. Stopped x (after m1 (suc i1 + found.0) s1)) (sym same)
                  (subst (λ x. Stopped (after m (j - i) (after m (suc i) s)) x)
                  (sym (after_sum m1 (suc i1) found.0 s1)) found.1),
            )

        behind : (i i1 : ℕ) → Moved Alive Stopped n (after m (suc i) s) (after m1 (suc i1) s1)
            → ((k : ℕ) (s2 : System A) (s3 : System B) → k ≤ n → Alive n s2 s3 → (after m k s2).state ≡ Ended e
            → Found k s2 s3) → Found (suc j) s s1
        behind i i1 (Lives h1) more = on i i1 h1 more (nat_lt i j) refl
        behind i i1 (Stops h1) more = stops_where (suc j) (suc i) (suc i1) s s1 e is (nat_lt (suc i) (suc j)) refl h1
