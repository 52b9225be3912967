-- What follows once a state is reached: it can be completed, and where no step leads on the source is stuck.
use Rattle.std.proofs.Common.{◌≡◌, ℕ, suc, ◌+◌, ◌-◌, ◌<◌, ◌≤◌, ◌≢◌, Bool, true, false, ◌==◌, List, [], ◌∷◌, ◌++◌}
use Rattle.std.proofs.Common.{length, take, drop, flat_map, slice_index, slice_range, refl, ap, sym, ◌∙◌, subst}
use Rattle.std.proofs.Common.{append_assoc, decimal, arith, Option, Some, None, Result, Ok, Err, IfOk, ◌⊎◌, inl, inr}
use Rattle.std.proofs.lemmas.List.{append-nil, take_more, drop_more, take-append-drop, take_all, take-take, drop-take}
use Rattle.hermes.specs.first.Texts.{call_tokens, argument_tokens, Spaced, is_number, IsFirst, IsOnly, Begins, IsStuck}
use Rattle.hermes.specs.first.Texts.{weight}
use Rattle.hermes.specs.first.Reading.{Step, step_tokens, operator_byte, steps_of, steps_with, later_steps, Follow}
use Rattle.hermes.specs.first.Reading.{FollowSum, Rest, RestToken, RestText, RestNumber, Moves, Halts, IsState, Stepped}
use Rattle.hermes.specs.first.Reading.{IsRead, is_between, Reads}
use Rattle.hermes.proofs.first_texts.reading.Spacing.{spaced_nil, spaced_end, begin_spaced}
use Rattle.hermes.proofs.first_texts.reading.SumSteps.{some_sum, sum_tokens_are}
use Rattle.hermes.proofs.first_texts.reading.Tokens.{sum_solid, follow_solid, open_moves, close_moves, end_moves}
use Rattle.hermes.proofs.first_texts.reading.Arguments.{text_opens, number_moves, sum_ends}
use Rattle.hermes.proofs.first_texts.reading.Digits.{text_ends, done_number}
use Rattle.hermes.proofs.first_texts.reading.Steps.{text_length}
use Rattle.hermes.proofs.first_texts.reading.Weights.{weighs}
use Rattle.hermes.specs.declared.first.language.Sum.{Sum}
use Rattle.hermes.specs.declared.first.language.Argument.{Argument}
use Rattle.hermes.specs.declared.first.language.Argument.TheVariants as argument
use Rattle.hermes.specs.declared.first.language.FirstFault.{FirstFault}
use Rattle.hermes.specs.declared.first.language.FirstFault.TheVariants as fault
use Rattle.hermes.specs.declared.first.state.Operator.{Operator}
use Rattle.hermes.specs.declared.first.state.Next.{Next}
use Rattle.hermes.specs.declared.first.state.Next.TheVariants as next
use Rattle.hermes.specs.declared.first.state.State.{State}
use Rattle.hermes.specs.declared.first.state.State.TheVariants as state

-- Some bytes complete each state.
abbrev Ends : (List ℕ → List Argument → Type 0) → Type 0
Ends left = (r : List ℕ) × (calls : List Argument) × left r calls

back_over : (old new : List ℕ → List Argument → Type 0) (b : ℕ) → Moves old new b → Ends new → Ends old
back_over old new b m x = (b ∷ x.0, x.1, m.back x.0 x.1 x.2)

call_end : (done : List Argument) → RestToken [] next.Call done [] done
call_end done = ([], ([], sym (append-nil done), refl, refl), ([], [], refl, refl, refl))

call_ends : (done : List Argument) → Ends (RestToken [] next.Call done)
call_ends done = ([], done, call_end done)

end_ends : (done : List Argument) → Ends (RestToken [] next.End done)
end_ends done = back_over _ _ 59 (end_moves done) (call_ends done)

close_ends : (done : List Argument) → Ends (RestToken [] next.Close done)
close_ends done = back_over _ _ 41 (close_moves done) (end_ends done)

in_text_ends : (text : List ℕ) (done : List Argument) → length text ≤ 254 → Ends (RestText text done)
in_text_ends text done short =
    back_over _ _ 34 (text_ends text done short) (close_ends (done ++ argument.Text text ∷ []))

argument_ends : (done : List Argument) → Ends (RestToken [] next.Argument done)
argument_ends done = back_over _ _ 34 (text_opens done) (in_text_ends [] done (omega arith))

open_ends : (done : List Argument) → Ends (RestToken [] next.Open done)
open_ends done = back_over _ _ 40 (open_moves done) (argument_ends done)

operator_ends : (s : Sum) (done : List Argument) → Ends (RestToken [] (next.Operator s) done)
operator_ends s done = back_over _ _ 41 (sum_ends s done) (end_ends (done ++ argument.Sum s ∷ []))

sum_before : (before : Option (Sum × Operator)) (n : ℕ) → (s : Sum) × (steps_of s ≡ steps_with before n)
sum_before None n = some_sum n []
sum_before (Some p) n = some_sum p.0.first.first (later_steps p.0 ++ (p.1, n) ∷ [])

value_ends : (before : Option (Sum × Operator)) (value : ℕ) (done : List Argument) → is_number value ≡ true
    → Ends (RestNumber before value done)
value_ends before value done h =
    let s = sum_before before value in
    let x = operator_ends s.0 done in
    (x.0, x.1, done_number before value s.0 done h s.1 x.0 x.1 x.2)

number_ends : (s : Sum) (op : Operator) (done : List Argument) → Ends (RestToken [] (next.Number s op) done)
number_ends s op done = back_over _ _ 48 (number_moves s op done 48 (omega arith, omega arith))
    (value_ends (Some (s, op)) 0 done refl)

behind_ends : (after : Next) (done : List Argument) → Ends (RestToken [] after done)
behind_ends next.Call done = call_ends done
behind_ends next.Open done = open_ends done
behind_ends next.Argument done = argument_ends done
behind_ends next.Close done = close_ends done
behind_ends next.End done = end_ends done
behind_ends (next.Operator s) done = operator_ends s done
behind_ends (next.Number s op) done = number_ends s op done

token_ends : (part : List ℕ) (after : Next) (done : List Argument) → Ends (RestToken part after done)
token_ends part after done =
    let x = behind_ends after done in
    (part ++ x.0, x.1, (x.2.0, x.2.1, begin_spaced part x.2.0 x.0 x.2.2))

some_end : (source : List ℕ) (at : ℕ) (now : State) (done : List Argument) → at ≤ length source → IsState at now
    → Ends (Rest source at now done)
some_end source at (state.Token part after) done within valid = token_ends part.now after done
some_end source at (state.Text start) done within valid =
    let size : length (slice_range source start at) ≡ at - start = text_length source start at valid.0 within in
    in_text_ends (slice_range source start at) done (omega (arith, valid))
some_end source at (state.Number before value) done within valid = value_ends before value done valid

-- one byte on
pub next_take : (source : List ℕ) (at : ℕ) (r : List ℕ) → at < length source
    → take (at + 1) source ++ r ≡ take at source ++ (slice_index source at ∷ r)
next_take source at r high =
    ap (λ (y : List ℕ). y ++ r) (take_more source at 0 high)
    ∙ append_assoc (take at source) (slice_index source at ∷ []) r

pub read_next : (strict : Bool) (source : List ℕ) (at : ℕ) (now new : State) (done more : List Argument)
    → at < length source → IsRead strict source at now done →
    IsState (at + 1) new → Moves (Rest source at now done) (Rest source (at + 1) new more) (slice_index source at)
    → IsRead strict source (at + 1) new more
read_next strict source at now new done more high read valid moves = record {
  valid = valid;
  on = λ r calls x. moves.on r calls
      (read.on (slice_index source at ∷ r) calls (subst (IsFirst strict calls) (next_take source at r high) x));
  back = λ r calls x. subst (IsFirst strict calls) (sym (next_take source at r high))
      (read.back (slice_index source at ∷ r) calls (moves.back r calls x));
}

-- no step leads on
split_at : (source : List ℕ) (at : ℕ) → at < length source
    → take at source ++ (slice_index source at ∷ drop (at + 1) source) ≡ source
split_at source at high = ap (λ (y : List ℕ). take at source ++ y) (sym (drop_more source at 0 high))
    ∙ take-append-drop at source

longer_take : (source : List ℕ) (at k : ℕ) → at < length source
    → take (at + suc k) source ≡ take at source ++ (slice_index source at ∷ take k (drop (at + 1) source))
longer_take source at k high =
    let front : take at (take (at + suc k) source) ≡ take at source = take-take at (at + suc k) source (omega arith) in
    let back : drop at (take (at + suc k) source) ≡ slice_index source at ∷ take k (drop (at + 1) source) =
    drop-take at (suc k) source ∙ ap (λ (y : List ℕ). take (suc k) y) (drop_more source at 0 high) in
    sym (take-append-drop at (take (at + suc k) source))
    ∙ ap (λ (y : List ℕ). y ++ drop at (take (at + suc k) source)) front
    ∙ ap (λ (y : List ℕ). take at source ++ y) back

-- where the bytes that go on from here are those of `old`, and none that begin with the next byte are
pub halted_by : (strict : Bool) (source : List ℕ) (at : ℕ) (old : List ℕ → List Argument → Type 0) → at < length source
    → Begins strict (take at source)
    → ((r : List ℕ) (calls : List Argument) → IsFirst strict calls (take at source ++ r) → old r calls)
    → Halts old (slice_index source at) → IsStuck strict source at
halted_by strict source at old high begins on halts = record {
  unspelled = λ calls x. halts (drop (at + 1) source) calls
      (on (slice_index source at ∷ drop (at + 1) source) calls
      (subst (IsFirst strict calls) (sym (split_at source at high)) x));
  within = omega arith;
  begins = begins;
  longest = λ n more within x.
      let size : n ≡ at + suc (n - at - 1) = omega arith in
      let k : ℕ = n - at - 1 in
      let spelled : take n source ++ x.1
      ≡ take at source ++ (slice_index source at ∷ (take k (drop (at + 1) source) ++ x.1)) =
      ap (λ (m : ℕ). take m source ++ x.1) size
      ∙ ap (λ (y : List ℕ). y ++ x.1) (longer_take source at k high)
      ∙ append_assoc (take at source) (slice_index source at ∷ take k (drop (at + 1) source)) x.1 in
      halts (take k (drop (at + 1) source) ++ x.1) x.0
      (on (slice_index source at ∷ (take k (drop (at + 1) source) ++ x.1)) x.0
      (subst (IsFirst strict x.0) spelled x.2));
}

pub halted : (strict : Bool) (source : List ℕ) (at : ℕ) (now : State) (done : List Argument) → at < length source
    → IsRead strict source at now done → Halts (Rest source at now done) (slice_index source at)
    → IsStuck strict source at
halted strict source at now done high read halts =
    let x = some_end source at now done (omega arith) read.valid in
    halted_by strict source at (Rest source at now done) high (x.1, x.0, read.back x.0 x.1 x.2) read.on halts

-- at the end of the source
whole_take : (source : List ℕ) (n : ℕ) → n ≡ length source → take n source ++ [] ≡ source
whole_take source n e = append-nil (take n source) ∙ take_all n source (omega arith)

pub unfinished : (strict : Bool) (source : List ℕ) (n : ℕ) (now : State) (done : List Argument) → n ≡ length source
    → IsRead strict source n now done →
    ((calls : List Argument) → Rest source n now done [] calls → ⊥) → IsStuck strict source n
unfinished strict source n now done size read none = record {
  unspelled = λ calls x. none calls
      (read.on [] calls (subst (IsFirst strict calls) (sym (whole_take source n size)) x));
  within = omega arith;
  begins = let x = some_end source n now done (omega arith) read.valid in (x.1, x.0, read.back x.0 x.1 x.2);
  longest = λ m more within x. absurd (omega arith);
}

sum_goes_on : (more : List Step) (tokens rest : List (List ℕ)) (rest' : List (List ℕ))
    → tokens ≡ flat_map step_tokens more ++ rest → rest ≡ (41 ∷ []) ∷ rest' → tokens ≡ [] → ⊥
sum_goes_on [] tokens rest rest' e f none = cc
sum_goes_on (u ∷ more) tokens rest rest' e f none =
    let head : tokens ≡ (operator_byte u.0 ∷ []) ∷ decimal u.1 ∷ (flat_map step_tokens more ++ rest) = e in cc

argument_goes_on : (a : Argument) (tokens rest : List (List ℕ)) → tokens ≡ argument_tokens a ++ rest → tokens ≡ [] → ⊥
argument_goes_on (argument.Text t) tokens rest e none = cc
argument_goes_on (argument.Sum s) tokens rest e none =
    let head : tokens ≡ decimal s.first.first ∷ (flat_map step_tokens (later_steps s) ++ rest) = e
    ∙ ap (λ (y : List (List ℕ)). y ++ rest) (sum_tokens_are s) in cc

goes_on : (after : Next) (done : List Argument) (tokens : List (List ℕ)) (calls : List Argument) → after ≢ next.Call
    → Follow after done tokens calls → tokens ≡ [] → ⊥
goes_on next.Call done tokens calls other f none = other refl
goes_on next.Open done tokens calls other f none = let e : tokens ≡ (40 ∷ []) ∷ f.0 = f.1 in cc
goes_on next.Argument done tokens calls other f none = argument_goes_on f.0 tokens f.1 f.3 none
goes_on next.Close done tokens calls other f none = let e : tokens ≡ (41 ∷ []) ∷ f.0 = f.1 in cc
goes_on next.End done tokens calls other f none = let e : tokens ≡ (59 ∷ []) ∷ f.0 = f.1 in cc
goes_on (next.Operator s) done tokens calls other f none = sum_goes_on f.1 tokens f.2 f.6.0 f.5 f.6.1 none
goes_on (next.Number s op) done tokens calls other f none = let e : tokens ≡ decimal f.0 ∷ f.1 = f.3 in cc

part_goes_on : (part : List ℕ) (after : Next) (done : List Argument) (calls : List Argument)
    → (part ≡ [] → after ≢ next.Call) → RestToken part after done [] calls → ⊥
part_goes_on [] after done calls other x =
    goes_on after done x.0 calls (other refl) x.1 (spaced_end x.0 (follow_solid after done x.0 calls x.1) x.2)
part_goes_on (y ∷ part) after done calls other x = spaced_nil y part x.0 x.2

text_goes_on : (more : List ℕ) (tokens : List (List ℕ)) → Spaced ((more ++ 34 ∷ []) ∷ tokens) [] → ⊥
text_goes_on [] tokens s = spaced_nil 34 [] tokens s
text_goes_on (y ∷ more) tokens s = spaced_nil y (more ++ 34 ∷ []) tokens s

value_goes_on : (more : List ℕ) (steps : List Step) (done : List Argument) (tokens : List (List ℕ))
    (calls : List Argument) → FollowSum steps done tokens calls → Spaced (more ∷ tokens) [] → ⊥
value_goes_on [] steps done tokens calls f s =
    sum_goes_on f.1 tokens f.2 f.6.0 f.5 f.6.1 (spaced_end tokens (sum_solid f.1 tokens f.2 f.6.0 f.5 f.6.1) s)
value_goes_on (y ∷ more) steps done tokens calls f s = spaced_nil y more tokens s

nothing_left : (part : List ℕ) → (length part == 0) ≡ false → part ≡ [] → ⊥
nothing_left [] h e = cc
nothing_left (y ∷ part) h e = cc

pub not_between : (source : List ℕ) (at : ℕ) (now : State) (done : List Argument) (calls : List Argument)
    → is_between now ≡ false → Rest source at now done [] calls → ⊥
not_between source at (state.Token part next.Call) done calls h x =
    part_goes_on part.now next.Call done calls (λ e. absurd (nothing_left part.now h e)) x
not_between source at (state.Token part next.Open) done calls h x =
    part_goes_on part.now next.Open done calls (λ e f. cc) x
not_between source at (state.Token part next.Argument) done calls h x =
    part_goes_on part.now next.Argument done calls (λ e f. cc) x
not_between source at (state.Token part next.Close) done calls h x =
    part_goes_on part.now next.Close done calls (λ e f. cc) x
not_between source at (state.Token part next.End) done calls h x =
    part_goes_on part.now next.End done calls (λ e f. cc) x
not_between source at (state.Token part (next.Operator s)) done calls h x =
    part_goes_on part.now (next.Operator s) done calls (λ e f. cc) x
not_between source at (state.Token part (next.Number s op)) done calls h x =
    part_goes_on part.now (next.Number s op) done calls (λ e f. cc) x
not_between source at (state.Text start) done calls h x = text_goes_on x.0 x.1 x.5
not_between source at (state.Number before value) done calls h x =
    value_goes_on x.1 (steps_with before x.0) done x.2 calls x.5 x.6

-- the calls are all there
no_more : (more : List Argument) → flat_map call_tokens more ≡ [] → more ≡ []
no_more [] e = refl
no_more (a ∷ more) e = cc

nothing : (part : List ℕ) → (length part == 0) ≡ true → part ≡ []
nothing [] h = refl
nothing (y ∷ part) h = absurd (bad (length part) h)
  where
    bad : (n : ℕ) → (suc n == 0) ≡ true → ⊥
    bad n h = grind (arith, h)

pub between : (strict : Bool) (source : List ℕ) (n : ℕ) (now : State) (done : List Argument) → n ≡ length source
    → is_between now ≡ true → IsRead strict source n now done → Reads strict source (Ok done)
between strict source n (state.Token part next.Call) done size h read =
    let empty : part.now ≡ [] = nothing part.now h in
    let here : RestToken part.now next.Call done [] done =
    subst (λ (p : List ℕ). RestToken p next.Call done [] done) (sym empty) (call_end done) in (
      subst (IsFirst strict done) (whole_take source n size) (read.back [] done here),
      λ calls x.
          let y = read.on [] calls (subst (IsFirst strict calls) (sym (whole_take source n size)) x) in
          let spaced : Spaced ([] ∷ y.0) [] = subst (λ (p : List ℕ). Spaced (p ∷ y.0) []) empty y.2 in
          let none : y.0 ≡ [] = spaced_end y.0 (follow_solid next.Call done y.0 calls y.1) spaced in
          let end : y.1.0 ≡ [] = no_more y.1.0 (sym y.1.3 ∙ none) in
          y.1.1 ∙ ap (λ (more : List Argument). done ++ more) end ∙ append-nil done,
    )
between strict source n (state.Token part next.Open) done size h read = cc
between strict source n (state.Token part next.Argument) done size h read = cc
between strict source n (state.Token part next.Close) done size h read = cc
between strict source n (state.Token part next.End) done size h read = cc
between strict source n (state.Token part (next.Operator s)) done size h read = cc
between strict source n (state.Token part (next.Number s op)) done size h read = cc
between strict source n (state.Text start) done size h read = cc
between strict source n (state.Number before value) done size h read = cc

pub failed : (strict : Bool) (source : List ℕ) (at : ℕ) (now : State) (done new : List Argument) (why : FirstFault)
    → at < length source → IsRead strict source at now done →
    Stepped (Rest source at now done) source at (slice_index source at) new (Err why) → Reads strict source (Err why)
failed strict source at now done new (fault.NotYet n) high read x =
    subst (IsStuck strict source) (sym x.0) (halted strict source at now done high read x.1)
failed strict source at now done new fault.Memory high read x = tt

-- What reading gives is settled by the source.
pub found_of : (strict : Bool) (source : List ℕ) (result : Result (List Argument) FirstFault)
    → Reads strict source result → IfOk result (λ calls. IsFirst strict calls source)
found_of strict source (Ok calls) x = x.0
found_of strict source (Err why) x = tt

pub alone_of : (strict : Bool) (source : List ℕ) (result : Result (List Argument) FirstFault)
    → Reads strict source result → IfOk result (λ calls. IsOnly strict calls source)
alone_of strict source (Ok calls) x = x.1
alone_of strict source (Err why) x = tt

pub only_of : (strict : Bool) (source : List ℕ) (result : Result (List Argument) FirstFault) (calls : List Argument)
    → Reads strict source result → IsFirst strict calls source → (result ≡ Ok calls) ⊎ (result ≡ Err fault.Memory)
only_of strict source (Ok found) calls x f = inl (ap (λ (y : List Argument). Ok y) (sym (x.1 calls f)))
only_of strict source (Err (fault.NotYet at)) calls x f = absurd (x.unspelled calls f)
only_of strict source (Err fault.Memory) calls x f = inr refl

pub stuck_of : (strict : Bool) (source : List ℕ) (result : Result (List Argument) FirstFault) (at : ℕ)
    → Reads strict source result → result ≡ Err (fault.NotYet at) → IsStuck strict source at
stuck_of strict source result at x e = let P : Result (List Argument) FirstFault → Type 0 = Reads strict source in
    subst P e x

one_place : (strict : Bool) (source : List ℕ) (m n : ℕ) → IsStuck strict source m → IsStuck strict source n → m < n → ⊥
one_place strict source m n x y less = x.longest n less y.within y.begins

same_place : (strict : Bool) (source : List ℕ) (m n : ℕ) → IsStuck strict source m → IsStuck strict source n → m ≡ n
same_place strict source m n x y =
    let above : m < n → ⊥ = one_place strict source m n x y in
    let below : n < m → ⊥ = one_place strict source n m y x in
    grind (arith, above, below)

pub place_of : (strict : Bool) (source : List ℕ) (result : Result (List Argument) FirstFault) (at : ℕ)
    → Reads strict source result → IsStuck strict source at
    → (result ≡ Err (fault.NotYet at)) ⊎ (result ≡ Err fault.Memory)
place_of strict source (Ok found) at x y = absurd (y.unspelled found x.0)
place_of strict source (Err (fault.NotYet n)) at x y =
    inl (ap (λ (m : ℕ). Err (fault.NotYet m)) (same_place strict source n at x y))
place_of strict source (Err fault.Memory) at x y = inr refl

pub weight_of_read : (strict : Bool) (source : List ℕ) (result : Result (List Argument) FirstFault)
    → Reads strict source result → IfOk result (λ calls. weight calls ≤ length source)
weight_of_read strict source (Ok calls) x = weighs strict calls source x.0
weight_of_read strict source (Err why) x = tt
