-- What one step makes of the outcome.
use Rattle.std.proofs.Common.{◌≡◌, suc, true, false, if◌then◌else◌, List, [], ◌∷◌, ◌++◌, Ok, Err, refl, ap, sym, ◌∙◌}
use Rattle.std.proofs.Common.{subst}
use Rattle.hz_tree.specs.declared.class.Class.{Class}
use Rattle.hz_tree.specs.declared.nonterminal.Nonterminal.{Nonterminal}
use Rattle.hz_tree.specs.declared.outside.BadKind.{BadKind}
use Rattle.hz_tree.specs.declared.signal.Signal.{Signal}
use Rattle.hz_tree.specs.declared.symbol.Symbol.{Symbol}
use Rattle.hz_tree.specs.declared.symbol.Symbol.TheVariants as s
use Rattle.hz_tree.specs.grammar.Classes.{fits}
use Rattle.hz_tree.specs.grammar.Table.{Step, pushes, fails, step}
use Rattle.hz_tree.specs.grammar.Look.{Terminal, look, stuck}
use Rattle.hz_tree.specs.grammar.Signals.{Event, event}
use Rattle.hz_tree.specs.reading.Reading.{Got, Stuck, takes, place_ahead, told_ahead}
use Rattle.hz_tree.specs.sources.Refusals.{refusal_at}
use Rattle.hz_tree.specs.reading.Stack.{Verdict, Through, At, Lost, ends, before, work}
use Rattle.hz_laws.proofs.StackLaws.{ends_pushes, ends_fails, ends_take, ends_other, ends_no_token, ends_tell}
use Rattle.hz_laws.proofs.MoveLaws.{work_pushes, work_take, work_tell}
use Rattle.hz_rows.specs.declared.stop.Stop.TheVariants as stop
use Rattle.hz_rows.specs.Pushed.{Pushed}
use Rattle.hz_preparse.specs.Heard.{Heard, happens}
use Rattle.hz_preparse.specs.Outcome.{outcome, refused}
use Rattle.hz_preparse.specs.declared.fault.PreFault.TheVariants.{Refused, Memory}
use Rattle.hz_preparse.specs.Step.{Done, TakesToken, Expands, Goes, StepsPast}

-- ---- tokens

pub take_goes : (wanted : Class) (xs : List Symbol) (ts new : List Terminal) (x : Terminal) (d : Heard)
    → takes wanted ts ≡ Got x new
    → Goes (s.Take wanted ∷ xs) ts d xs new d
take_goes wanted xs [] new x d h = cc
take_goes wanted xs (y ∷ ts) new x d h =
    elim (fits wanted y.class) as (λ b. fits wanted y.class ≡ b
    → (if b then Got y ts else Stuck (stuck (look (y ∷ ts))) (y ∷ ts)) ≡ Got x new
    → Goes (s.Take wanted ∷ xs) (y ∷ ts) d xs new d) [
      | true ↦ λ f e. (let same : ts ≡ new = cc in record {
        same = ap (outcome d) (ap (ends xs) (sym same) ∙ sym (ends_take wanted xs y ts f));
        less = work_take wanted xs y ts f ∙ ap (λ us. suc (work xs us)) same;
      })
      | false ↦ λ f e. cc
    ] refl h

pub take_refuses : (wanted : Class) (xs : List Symbol) (ts : List Terminal) (cause : BadKind) (d : Heard)
    → takes wanted ts ≡ Stuck cause ts
    → outcome d (ends (s.Take wanted ∷ xs) ts) ≡ refused (refusal_at cause (place_ahead ts))
take_refuses wanted xs [] cause d h = let e = ends_no_token wanted xs in ap (outcome d) (e ∙ ap (λ c. At c []) cc)
take_refuses wanted xs (y ∷ ts) cause d h =
    elim (fits wanted y.class) as (λ b. fits wanted y.class ≡ b
    → (if b then Got y ts else Stuck (stuck (look (y ∷ ts))) (y ∷ ts)) ≡ Stuck cause (y ∷ ts)
    → outcome d (ends (s.Take wanted ∷ xs) (y ∷ ts)) ≡ refused (refusal_at cause (place_ahead (y ∷ ts)))) [
      | true ↦ λ f e. cc
      | false ↦ λ f e. (let same : stuck (look (y ∷ ts)) ≡ cause = cc in
          ap (outcome d) (ends_other wanted xs y ts f ∙ ap (λ c. At c (y ∷ ts)) same))
    ] refl h

-- ---- nonterminals

pub read_goes : (m : Nonterminal) (right xs new : List Symbol) (ts : List Terminal) (d : Heard) → step m (look ts)
    ≡ pushes right → new ≡ right ++ xs
    → Goes (s.Read m ∷ xs) ts d new ts d
read_goes m right xs new ts d h e = record {
  same = ap (outcome d) (ap (λ ys. ends ys ts) e ∙ sym (ends_pushes m right xs ts h));
  less = work_pushes m right xs ts h ∙ ap (λ ys. suc (work ys ts)) (sym e);
}

pub read_refuses : (m : Nonterminal) (cause : BadKind) (xs : List Symbol) (ts : List Terminal) (d : Heard)
    → step m (look ts) ≡ fails cause
    → outcome d (ends (s.Read m ∷ xs) ts) ≡ refused (refusal_at cause (place_ahead ts))
read_refuses m cause xs ts d h = ap (outcome d) (ends_fails m cause xs ts h)

-- ---- events

happened : (d : Heard) (event : Event) (v : Verdict) → outcome d (before (event ∷ []) v) ≡ outcome (happens d event) v
happened d event (Through more rest) = refl
happened d event (At cause ts) = refl
happened d event Lost = refl

tell_goes : (signal : Signal) (xs : List Symbol) (ts : List Terminal) (d new : Heard)
    → new ≡ happens d (event signal (told_ahead ts)) → Goes (s.Tell signal ∷ xs) ts d xs ts new
tell_goes signal xs ts d new h = record {
  same = ap (λ e. outcome e (ends xs ts)) h ∙ sym (ap (outcome d) (ends_tell signal xs ts)
      ∙ happened d (event signal (told_ahead ts)) (ends xs ts));
  less = work_tell signal xs ts;
}

pub tell_steps : (symbol : Symbol) (signal : Signal) (xs : List Symbol) (ts : List Terminal) (d new : Heard)
    → symbol ≡ s.Tell signal → new ≡ happens d (event signal (told_ahead ts)) → Goes (symbol ∷ xs) ts d xs ts new
tell_steps symbol signal xs ts d new e h =
    subst (λ x. Goes (x ∷ xs) ts d xs ts new) (sym e) (tell_goes signal xs ts d new h)

-- ---- expanding

pub pushed_ok : (st : Step) (done : Unit {0}) (old new : List Symbol) → Pushed st (Ok done) old new
    → (right : List Symbol) × ((st ≡ pushes right) × (new ≡ right ++ old))
pushed_ok (pushes right) done old new h = (right, (refl, h))
pushed_ok (fails cause) done old new h = absurd h

pub pushed_refused : (st : Step) (found : BadKind) (old new : List Symbol)
    → Pushed st (Err (stop.Refused found)) old new → st ≡ fails found
pushed_refused (pushes right) found old new h = absurd h
pushed_refused (fails cause) found old new h = ap fails (sym h.0)

-- ---- steps

pub take_steps : (symbol : Symbol) (wanted : Class) (r : Done) (xs : List Symbol) (ts new : List Terminal) (d : Heard)
    → symbol ≡ s.Take wanted
    → TakesToken wanted ts r new → StepsPast symbol xs ts d r xs new d
take_steps symbol wanted r xs ts new d e h = subst (λ x. StepsPast x xs ts d r xs new d) (sym e) (go r h)
  where
    go : (r : Done) → TakesToken wanted ts r new → StepsPast (s.Take wanted) xs ts d r xs new d
    go (Ok done) h = take_goes wanted xs ts new h.0 d h.1
    go (Err (Refused refusal)) h = take_refuses wanted xs ts h.0 d h.1.0 ∙ ap refused (sym h.1.1)
    go (Err Memory) h = tt

pub read_steps : (symbol : Symbol) (m : Nonterminal) (r : Done) (xs new : List Symbol) (ts : List Terminal) (d : Heard)
    → symbol ≡ s.Read m
    → Expands m ts xs r new → StepsPast symbol xs ts d r new ts d
read_steps symbol m r xs new ts d e h = subst (λ x. StepsPast x xs ts d r new ts d) (sym e) (go r h)
  where
    go : (r : Done) → Expands m ts xs r new → StepsPast (s.Read m) xs ts d r new ts d
    go (Ok done) h = read_goes m h.0 xs new ts d h.1.0 h.1.1
    go (Err (Refused refusal)) h = read_refuses m h.0 xs ts d h.1.0 ∙ ap refused (sym h.1.1)
    go (Err Memory) h = tt
