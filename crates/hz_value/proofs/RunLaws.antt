-- Laws of runs: a system that has ended stays, no step raises the turns, and the events only grow.
use Rattle.std.proofs.Common.{◌≡◌, ℕ, zero, suc, Bool, true, false, List, [], ◌∷◌, ◌++◌, Option, Some, None, refl}
use Rattle.std.proofs.Common.{sym, ap, ◌∙◌, if◌then◌else◌, nat_lt, slice_index_or}
use Rattle.std.proofs.lemmas.List.{append-nil, append_assoc}
use Rattle.hz_value.specs.declared.leaving.Left.TheVariants as left
use Rattle.hz_value.specs.declared.values.Value.{Value}
use Rattle.hz_value.specs.operators.Messages.{NotFunction}
use Rattle.hz_value.specs.world.Errors.{new_error}
use Rattle.hz_value.specs.world.World.{World, Line, Units, TooLong, raised}
use Rattle.hz_value.specs.system.Acts.{Reply, Normal, Thrown, Act, Call, Enter, Return, Throw, Start, Yield, Resume}
use Rattle.hz_value.specs.system.Acts.{Print, WantLine, Turn, Spent, Leave, Bad, Next, Goes, Does}
use Rattle.hz_value.specs.system.System.{Meaning, System, State, Running, Ended, Frame, Source, Routine, Script}
use Rattle.hz_value.specs.system.System.{Called, Entered, Resumed, Event, Printed, Asked, Ending, frame_step, role_of}
use Rattle.hz_value.specs.system.System.{statement_in_hand}
use Rattle.hz_value.specs.system.Step.{system_step, stepped, moved, acted, replied, running, turn_to, depth_to}
use Rattle.hz_value.specs.system.Step.{call_to, started, yielded, awake, resumed, line_to, frame_of, behind_end}
use Rattle.hz_value.specs.system.Step.{with_event, max_calls, left_at, number_in}
use Rattle.hz_value.specs.system.Runs.{after, Ends, Continues}

-- ---- an end

pub stays : {A : Type 0} (m : Meaning A) (s : System A) (e : Ending) → s.state ≡ Ended e → system_step m s ≡ s
stays m s e is = ap (stepped m s) is

pub ended_stays : {A : Type 0} (m : Meaning A) (n : ℕ) (s : System A) (e : Ending) → s.state ≡ Ended e →
    after m n s ≡ s
ended_stays m zero s e is = refl
ended_stays m (suc n) s e is = ap (after m n) (stays m s e is) ∙ ended_stays m n s e is

same_end : {A : Type 0} (m : Meaning A) (a b : ℕ) (s : System A) (e e1 : Ending) → (after m a s).state ≡ Ended e →
    (after m b s).state ≡ Ended e1 → after m a s ≡ after m b s
same_end m zero b s e e1 first second = sym (ended_stays m b s e first)
same_end m (suc a) zero s e e1 first second = ended_stays m (suc a) s e1 second
same_end m (suc a) (suc b) s e e1 first second = same_end m a b (system_step m s) e e1 first second

same_ending : {A : Type 0} (x : State A) (e e1 : Ending) → x ≡ Ended e → x ≡ Ended e1 → e ≡ e1
same_ending x e e1 first second = (cc)

pub one_outcome : {A : Type 0} (m : Meaning A) (s : System A) (events events1 : List Event) (e e1 : Ending) →
    Ends m s events e → Ends m s events1 e1 → (events ≡ events1) × (e ≡ e1)
one_outcome m s events events1 e e1 first second =
    let same : after m first.steps s ≡ after m second.steps s = same_end m first.steps second.steps s e e1
    first.state second.state in (
      sym first.events_then ∙ ap (λ t. t.events) same ∙ second.events_then,
      same_ending (after m second.steps s).state e e1 (ap (λ t. t.state) (sym same) ∙ first.state) second.state,
    )

-- ---- what keeps the events

replied_events : {A : Type 0} (m : Meaning A) (s : System A) (w : World) (fs : List (Frame A)) (c : Reply) →
    (replied m s w fs c).events ≡ s.events
replied_events m s w [] c = refl
replied_events m s w (f ∷ fs) c = refl

chosen_events : {A : Type 0} (s : System A) (b : Bool) (x y : System A) → x.events ≡ s.events →
    y.events ≡ s.events → (if b then x else y).events ≡ s.events
chosen_events s true x y ex ey = ex
chosen_events s false x y ex ey = ey

turn_events : {A : Type 0} (s : System A) (w : World) (go : World → System A) (n : ℕ) → ((w1 : World) →
    (go w1).events ≡ s.events) → (turn_to s w go n).events ≡ s.events
turn_events s w go zero kept = refl
turn_events s w go (suc n) kept = kept (record w { turns = n })

depth_events : {A : Type 0} (s : System A) (place : ℕ) (go : World → System A) (w : World) → ((w1 : World) →
    (go w1).events ≡ s.events) → (depth_to s place go w).events ≡ s.events
depth_events s place go w kept =
    chosen_events s (nat_lt w.calls max_calls) (go (record w { calls = suc w.calls })) (left_at s w place
    left.TooDeep) (kept (record w { calls = suc w.calls })) refl

call_events : {A : Type 0} (m : Meaning A) (s : System A) (place : ℕ) (fs : List (Frame A)) (w : World) (f : Option
    (Frame A)) → (call_to m s place fs w f).events ≡ s.events
call_events m s place fs w None = replied_events m s (raised place NotFunction w) fs (Thrown (new_error w.store))
call_events m s place fs w (Some f) =
    turn_events s w (depth_to s place (λ w1. running s w1 f fs)) w.turns
    (λ w1. depth_events s place (λ w2. running s w2 f fs) w1 (λ w2. refl))

started_events : {A : Type 0} (m : Meaning A) (s : System A) (f : Frame A) (fs : List (Frame A)) (w : World) (o :
    Option ℕ) → (started m s f fs w o).events ≡ s.events
started_events m s (Source role a) [] w o = refl
started_events m s (Source role a) (f ∷ fs) w o = refl
started_events m s (Routine role r) fs w o = refl

yielded_events : {A : Type 0} (m : Meaning A) (s : System A) (f : Frame A) (fs : List (Frame A)) (w : World) (v :
    Value) → (yielded m s f fs w v).events ≡ s.events
yielded_events m s (Source (Resumed g) a) [] w v = refl
yielded_events m s (Source (Resumed g) a) (f ∷ fs) w v = refl
yielded_events m s (Source Script a) fs w v = refl
yielded_events m s (Source Called a) fs w v = refl
yielded_events m s (Source Entered a) fs w v = refl
yielded_events m s (Routine role r) fs w v = refl

awake_events : {A : Type 0} (m : Meaning A) (s : System A) (fs : List (Frame A)) (g : ℕ) (c : Reply) (a : Option A)
    (w : World) → (awake m s fs g c a w).events ≡ s.events
awake_events m s fs g c (Some a) w = refl
awake_events m s fs g c None w = refl

resumed_events : {A : Type 0} (m : Meaning A) (s : System A) (place : ℕ) (fs : List (Frame A)) (w : World) (g : ℕ)
    (c : Reply) → (resumed m s place fs w g c).events ≡ s.events
resumed_events m s place fs w g c =
    turn_events s w (depth_to s place (awake m s fs g c (slice_index_or s.suspended (number_in w g) None))) w.turns
    (λ w1. depth_events s place (awake m s fs g c (slice_index_or s.suspended (number_in w g) None)) w1
    (λ w2. awake_events m s fs g c (slice_index_or s.suspended (number_in w g) None) w2))

line_events : {A : Type 0} (m : Meaning A) (s : System A) (place : ℕ) (fs : List (Frame A)) (w : World) (ls : List
    Line) → (line_to m s place fs w ls).events ≡ s.events
line_events m s place [] w [] = refl
line_events m s place (f ∷ fs) w [] = refl
line_events m s place [] w (Units t ∷ ls) = refl
line_events m s place (f ∷ fs) w (Units t ∷ ls) = refl
line_events m s place fs w (TooLong ∷ ls) = refl

-- ---- the events grow

unchanged : {A : Type 0} (s s1 : System A) → s1.events ≡ s.events → Continues s s1
unchanged s s1 e = record { more = []; events = e ∙ sym (append-nil s.events) }

one_more : {A : Type 0} (s s1 : System A) (e : Event) → s1.events ≡ s.events ++ e ∷ [] → Continues s s1
one_more s s1 e is = record { more = e ∷ []; events = is }

acted_continues : {A : Type 0} (m : Meaning A) (s : System A) (place : ℕ) (f : Frame A) (fs : List (Frame A)) (w :
    World) (act : Act) → Continues s (acted m s place f fs w act)
acted_continues m s place f fs w (Call callee this arguments) =
    unchanged s (call_to m s place (f ∷ fs) w (frame_of m w callee this arguments)) (call_events m s place (f ∷ fs)
    w (frame_of m w callee this arguments))
acted_continues m s place f fs w (Enter routine values) = unchanged s (acted m s place f fs w (Enter routine
    values)) refl
acted_continues m s place f fs w (Return v) =
    unchanged s (replied m s (behind_end (role_of f) w) fs (Normal v)) (replied_events m s (behind_end (role_of f)
    w) fs (Normal v))
acted_continues m s place f fs w (Throw v) =
    unchanged s (replied m s (behind_end (role_of f) w) fs (Thrown v)) (replied_events m s (behind_end (role_of f)
    w) fs (Thrown v))
acted_continues m s place f fs w (Start o) = unchanged s (started m s f fs w o) (started_events m s f fs w o)
acted_continues m s place f fs w (Yield v) = unchanged s (yielded m s f fs w v) (yielded_events m s f fs w v)
acted_continues m s place f fs w (Resume g c) = unchanged s (resumed m s place (f ∷ fs) w g c) (resumed_events m s
    place (f ∷ fs) w g c)
acted_continues m s place f fs w (Print line) = one_more s (acted m s place f fs w (Print line)) (Printed line) refl
acted_continues m s place f fs w WantLine =
    one_more s (line_to m (with_event Asked s) place (f ∷ fs) w w.lines) Asked (line_events m (with_event Asked s)
    place (f ∷ fs) w w.lines)
acted_continues m s place f fs w Turn = unchanged s (acted m s place f fs w Turn) refl
acted_continues m s place f fs w Spent = unchanged s (acted m s place f fs w Spent) refl
acted_continues m s place f fs w (Leave reason) = unchanged s (acted m s place f fs w (Leave reason)) refl
acted_continues m s place f fs w Bad = unchanged s (acted m s place f fs w Bad) refl

moved_continues : {A : Type 0} (m : Meaning A) (s : System A) (place : ℕ) (fs : List (Frame A)) (next : Next (Frame
    A)) → Continues s (moved m s place fs next)
moved_continues m s place fs (Goes f w) = unchanged s (running s w f fs) refl
moved_continues m s place fs (Does act f w) = acted_continues m s place f fs w act

stepped_continues : {A : Type 0} (m : Meaning A) (s : System A) (x : State A) → Continues s (stepped m s x)
stepped_continues m s (Running f fs) =
    moved_continues m s (statement_in_hand m (f ∷ fs)) fs (frame_step m (statement_in_hand m (f ∷ fs)) f s.world)
stepped_continues m s (Ended e) = unchanged s s refl

continues_trans : {A : Type 0} (a b c : System A) → Continues a b → Continues b c → Continues a c
continues_trans a b c first second = record {
  more = first.more ++ second.more;
  events = second.events ∙ ap (λ es. es ++ second.more) first.events ∙ append_assoc a.events first.more second.more;
}

pub events_grow : {A : Type 0} (m : Meaning A) (n : ℕ) (s : System A) → Continues s (after m n s)
events_grow m zero s = unchanged s s refl
events_grow m (suc n) s =
    continues_trans s (system_step m s) (after m n (system_step m s)) (stepped_continues m s s.state) (events_grow
    m n (system_step m s))
