-- No step of a system raises the turns, where no step of the source's functions does.
use Rattle.std.proofs.Common.{◌≡◌, ◌≤◌, ℕ, zero, suc, Bool, true, false, ◌==◌, ◌+◌, List, [], ◌∷◌, Option, Some, None}
use Rattle.std.proofs.Common.{refl, arith, if◌then◌else◌, nat_lt, slice_index_or, slice_get, drop, length}
use Rattle.hz_value.specs.declared.leaving.Left.TheVariants as left
use Rattle.hz_value.specs.declared.values.Value.{Value}
use Rattle.hz_value.specs.declared.values.Value.TheVariants as value
use Rattle.hz_value.specs.operators.Messages.{NotFunction}
use Rattle.hz_value.specs.operators.Computed.{Computed, Gives, Throws, Leaves}
use Rattle.hz_value.specs.operators.Conversions.{to_text}
use Rattle.hz_value.specs.world.Errors.{new_error}
use Rattle.hz_value.specs.world.Start.{print_routine, readline_routine}
use Rattle.hz_value.specs.world.World.{World, Line, Units, TooLong, raised, content}
use Rattle.hz_value.specs.system.Acts.{Reply, Normal, Thrown, Act, Call, Enter, Return, Throw, Start, Yield, Resume}
use Rattle.hz_value.specs.system.Acts.{Print, WantLine, Turn, Spent, Leave, Bad, Next, Goes, Does, next_map}
use Rattle.hz_value.specs.system.Acts.{computed_to}
use Rattle.hz_value.specs.system.Routines.{RoutineActivation, routine_step, print_step, print_argument, throw_error}
use Rattle.hz_value.specs.system.Routines.{at_next, line_of, readline_step}
use Rattle.hz_value.specs.system.System.{Meaning, System, State, Running, Ended, Frame, Source, Routine, Role, Script}
use Rattle.hz_value.specs.system.System.{Called, Entered, Resumed, Asked, frame_step, role_of, statement_in_hand}
use Rattle.hz_value.specs.system.Step.{system_step, stepped, moved, acted, replied, running, turn_to, depth_to}
use Rattle.hz_value.specs.system.Step.{max_calls, call_to, started, yielded, awake, resumed, line_to, frame_of}
use Rattle.hz_value.specs.system.Step.{behind_end, with_event, left_at, number_in}
use Rattle.hz_value.specs.system.Runs.{after, TakesTurns, world_behind}

-- ---- one step of a frame

computed_turns : (place : ℕ) (r : RoutineActivation) (w : World) (x : Computed (List ℕ)) →
    (world_behind (computed_to r w (λ t. Goes (at_next r) w) (λ m. throw_error place m r w) x)).turns ≤ w.turns
computed_turns place r w (Gives t) = omega arith
computed_turns place r w (Throws m) = omega arith
computed_turns place r w (Leaves reason) = omega arith

chosen_step : (n : ℕ) (b : Bool) (x y : Next RoutineActivation) → (world_behind x).turns ≤ n →
    (world_behind y).turns ≤ n → (world_behind (if b then x else y)).turns ≤ n
chosen_step n true x y hx hy = hx
chosen_step n false x y hx hy = hy

print_turns : (place : ℕ) (r : RoutineActivation) (w : World) (v : Option Value) →
    (world_behind (print_argument place r w v)).turns ≤ w.turns
print_turns place r w (Some v) = computed_turns place r w (to_text (content w v))
print_turns place r w None =
    chosen_step w.turns (r.place + 1 == length r.values) (Does (Print (line_of w (drop 1 r.values))) (at_next r) w)
    (Does (Return value.Undefined) r w) (omega arith) (omega arith)

routine_turns : (place : ℕ) (r : RoutineActivation) (w : World) →
    (world_behind (routine_step place r w)).turns ≤ w.turns
routine_turns place r w =
    chosen_step w.turns (r.routine == print_routine) (print_step place r w)
    (if r.routine == readline_routine then readline_step r w else Does (Return value.Undefined) r w)
    (print_turns place r w (slice_get (drop 1 r.values) r.place))
    (chosen_step w.turns (r.routine == readline_routine) (readline_step r w) (Does (Return value.Undefined) r w)
    (omega arith) (omega arith))

mapped_turns : {A B : Type 0} (see : A → B) (n : ℕ) (x : Next A) → (world_behind x).turns ≤ n →
    (world_behind (next_map see x)).turns ≤ n
mapped_turns see n (Goes a w) h = h
mapped_turns see n (Does act a w) h = h

frame_turns : {A : Type 0} (m : Meaning A) → TakesTurns m → (place : ℕ) (f : Frame A) (w : World) →
    (world_behind (frame_step m place f w)).turns ≤ w.turns
frame_turns m takes place (Source role a) w = mapped_turns (Source role) w.turns (m.step a w) (takes.by a w)
frame_turns m takes place (Routine role r) w = mapped_turns (Routine role) w.turns (routine_step place r w)
    (routine_turns place r w)

-- ---- the acts

replied_turns : {A : Type 0} (m : Meaning A) (s : System A) (w : World) (fs : List (Frame A)) (c : Reply) →
    (replied m s w fs c).world.turns ≤ w.turns
replied_turns m s w [] c = omega arith
replied_turns m s w (f ∷ fs) c = omega arith

end_turns : (role : Role) (w : World) → (behind_end role w).turns ≤ w.turns
end_turns Script w = omega arith
end_turns Called w = omega arith
end_turns Entered w = omega arith
end_turns (Resumed g) w = omega arith

end_replied : {A : Type 0} (m : Meaning A) (s : System A) (role : Role) (w : World) (fs : List (Frame A)) (c :
    Reply) → (replied m s (behind_end role w) fs c).world.turns ≤ w.turns
end_replied m s role w fs c =
    let one : (replied m s (behind_end role w) fs c).world.turns ≤ (behind_end role w).turns = replied_turns m s
    (behind_end role w) fs c in
    omega (arith, one, end_turns role w)

chosen_turns : {A : Type 0} (n : ℕ) (b : Bool) (x y : System A) → x.world.turns ≤ n → y.world.turns ≤ n →
    (if b then x else y).world.turns ≤ n
chosen_turns n true x y hx hy = hx
chosen_turns n false x y hx hy = hy

turn_turns : {A : Type 0} (s : System A) (w : World) (go : World → System A) (n : ℕ) → w.turns ≡ n →
    ((w1 : World) → (go w1).world.turns ≤ w1.turns) → (turn_to s w go n).world.turns ≤ w.turns
turn_turns s w go zero is kept = omega arith
turn_turns s w go (suc n) is kept =
    let one : (go (record w { turns = n })).world.turns ≤ n = kept (record w { turns = n }) in
    omega (arith, one, is)

depth_turns : {A : Type 0} (s : System A) (place : ℕ) (go : World → System A) (w : World) → ((w1 : World) →
    (go w1).world.turns ≤ w1.turns) → (depth_to s place go w).world.turns ≤ w.turns
depth_turns s place go w kept =
    chosen_turns w.turns (nat_lt w.calls max_calls) (go (record w { calls = suc w.calls })) (left_at s w place
    left.TooDeep) (kept (record w { calls = suc w.calls })) (omega arith)

call_turns : {A : Type 0} (m : Meaning A) (s : System A) (place : ℕ) (fs : List (Frame A)) (w : World) (f : Option
    (Frame A)) → (call_to m s place fs w f).world.turns ≤ w.turns
call_turns m s place fs w None = replied_turns m s (raised place NotFunction w) fs (Thrown (new_error w.store))
call_turns m s place fs w (Some f) =
    turn_turns s w (depth_to s place (λ w1. running s w1 f fs)) w.turns refl
    (λ w1. depth_turns s place (λ w2. running s w2 f fs) w1 (λ w2. omega arith))

started_turns : {A : Type 0} (m : Meaning A) (s : System A) (f : Frame A) (fs : List (Frame A)) (w : World) (o :
    Option ℕ) → (started m s f fs w o).world.turns ≤ w.turns
started_turns m s (Source Script a) [] w o = omega arith
started_turns m s (Source Called a) [] w o = omega arith
started_turns m s (Source Entered a) [] w o = omega arith
started_turns m s (Source (Resumed g) a) [] w o = omega arith
started_turns m s (Source Script a) (f ∷ fs) w o = omega arith
started_turns m s (Source Called a) (f ∷ fs) w o = omega arith
started_turns m s (Source Entered a) (f ∷ fs) w o = omega arith
started_turns m s (Source (Resumed g) a) (f ∷ fs) w o = omega arith
started_turns m s (Routine role r) fs w o = omega arith

yielded_turns : {A : Type 0} (m : Meaning A) (s : System A) (f : Frame A) (fs : List (Frame A)) (w : World) (v :
    Value) → (yielded m s f fs w v).world.turns ≤ w.turns
yielded_turns m s (Source (Resumed g) a) [] w v = omega arith
yielded_turns m s (Source (Resumed g) a) (f ∷ fs) w v = omega arith
yielded_turns m s (Source Script a) fs w v = omega arith
yielded_turns m s (Source Called a) fs w v = omega arith
yielded_turns m s (Source Entered a) fs w v = omega arith
yielded_turns m s (Routine role r) fs w v = omega arith

awake_turns : {A : Type 0} (m : Meaning A) (s : System A) (fs : List (Frame A)) (g : ℕ) (c : Reply) (a : Option A)
    (w : World) → (awake m s fs g c a w).world.turns ≤ w.turns
awake_turns m s fs g c (Some a) w = omega arith
awake_turns m s fs g c None w = omega arith

resumed_turns : {A : Type 0} (m : Meaning A) (s : System A) (place : ℕ) (fs : List (Frame A)) (w : World) (g : ℕ)
    (c : Reply) → (resumed m s place fs w g c).world.turns ≤ w.turns
resumed_turns m s place fs w g c =
    turn_turns s w (depth_to s place (awake m s fs g c (slice_index_or s.suspended (number_in w g) None))) w.turns
    refl
    (λ w1. depth_turns s place (awake m s fs g c (slice_index_or s.suspended (number_in w g) None)) w1
    (λ w2. awake_turns m s fs g c (slice_index_or s.suspended (number_in w g) None) w2))

line_turns : {A : Type 0} (m : Meaning A) (s : System A) (place : ℕ) (fs : List (Frame A)) (w : World) (ls : List
    Line) → (line_to m s place fs w ls).world.turns ≤ w.turns
line_turns m s place [] w [] = omega arith
line_turns m s place (f ∷ fs) w [] = omega arith
line_turns m s place [] w (Units t ∷ ls) = omega arith
line_turns m s place (f ∷ fs) w (Units t ∷ ls) = omega arith
line_turns m s place fs w (TooLong ∷ ls) = omega arith

acted_turns : {A : Type 0} (m : Meaning A) (s : System A) (place : ℕ) (f : Frame A) (fs : List (Frame A)) (w :
    World) (act : Act) → (acted m s place f fs w act).world.turns ≤ w.turns
acted_turns m s place f fs w (Call callee this arguments) = call_turns m s place (f ∷ fs) w (frame_of m w callee
    this arguments)
acted_turns m s place f fs w (Enter routine values) = omega arith
acted_turns m s place f fs w (Return v) = end_replied m s (role_of f) w fs (Normal v)
acted_turns m s place f fs w (Throw v) = end_replied m s (role_of f) w fs (Thrown v)
acted_turns m s place f fs w (Start o) = started_turns m s f fs w o
acted_turns m s place f fs w (Yield v) = yielded_turns m s f fs w v
acted_turns m s place f fs w (Resume g c) = resumed_turns m s place (f ∷ fs) w g c
acted_turns m s place f fs w (Print line) = omega arith
acted_turns m s place f fs w WantLine = line_turns m (with_event Asked s) place (f ∷ fs) w w.lines
acted_turns m s place f fs w Turn = omega arith
acted_turns m s place f fs w Spent = omega arith
acted_turns m s place f fs w (Leave reason) = omega arith
acted_turns m s place f fs w Bad = omega arith

-- ---- the run

moved_turns : {A : Type 0} (m : Meaning A) (s : System A) (place : ℕ) (fs : List (Frame A)) (next : Next (Frame A))
    → (moved m s place fs next).world.turns ≤ (world_behind next).turns
moved_turns m s place fs (Goes f w) = omega arith
moved_turns m s place fs (Does act f w) = acted_turns m s place f fs w act

stepped_turns : {A : Type 0} (m : Meaning A) → TakesTurns m → (s : System A) (x : State A) →
    (stepped m s x).world.turns ≤ s.world.turns
stepped_turns m takes s (Running f fs) =
    let one : (stepped m s (Running f fs)).world.turns ≤ (world_behind (frame_step m (statement_in_hand m (f ∷ fs))
    f s.world)).turns
    = moved_turns m s (statement_in_hand m (f ∷ fs)) fs (frame_step m (statement_in_hand m (f ∷ fs)) f s.world) in
    omega (arith, one, frame_turns m takes (statement_in_hand m (f ∷ fs)) f s.world)
stepped_turns m takes s (Ended e) = omega arith

pub turns_fall : {A : Type 0} (m : Meaning A) → TakesTurns m → (n : ℕ) (s : System A) →
    (after m n s).world.turns ≤ s.world.turns
turns_fall m takes zero s = omega arith
turns_fall m takes (suc n) s =
    let one : (after m n (system_step m s)).world.turns ≤ (system_step m s).world.turns = turns_fall m takes n
    (system_step m s) in
    omega (arith, one, stepped_turns m takes s s.state)
