-- The system over code goes on as the system over trees does: replies, ends of activations, and steps of routines.
use Rattle.std.proofs.Common.{◌≡◌, ◌≤◌, ◌+◌, ◌-◌, arith, refl, sym, ap, subst, ◌∙◌, ℕ, ◌==◌, Bool, true}
use Rattle.std.proofs.Common.{false, if◌then◌else◌, List, [], ◌∷◌, ◌++◌, drop, length, Option, Some, None}
use Rattle.std.proofs.Common.{slice_index_or}
use Rattle.std.proofs.lemmas.List.{length_push}
use Rattle.std.proofs.Math.ListN.{get_or-map}
use Rattle.std.specs.Prelude.{slice_get}
use Rattle.hz_value.specs.declared.leaving.Left.{Left}
use Rattle.hz_value.specs.declared.leaving.Left.TheVariants as left
use Rattle.hz_value.specs.declared.values.Value.{Value}
use Rattle.hz_value.specs.declared.values.Value.TheVariants as value
use Rattle.hz_value.specs.operators.Computed.{Computed, Gives, Throws, Leaves}
use Rattle.hz_value.specs.operators.Conversions.{to_text}
use Rattle.hz_value.specs.operators.Messages.{Message}
use Rattle.hz_value.specs.operators.Contents as content
use Rattle.hz_value.specs.system.Acts.{Reply, Normal, Thrown, Returned, Return}
use Rattle.hz_value.specs.system.Acts.{Print, IsCompletion, Next, Goes, Does}
use Rattle.hz_value.specs.system.Acts.{next_map, computed_to}
use Rattle.hz_value.specs.system.Routines.{RoutineActivation, routine_step, print_argument, throw_error, at_next}
use Rattle.hz_value.specs.system.Routines.{line_of, print_step, line_act, readline_step, routine_answered}
use Rattle.hz_value.specs.system.Step.{moved, running, behind_end, replied}
use Rattle.hz_value.specs.system.Step.{left_at, ended, line_to, with_event}
use Rattle.hz_value.specs.system.System.{Meaning, Frame, Source, Routine, Role, Script, Called, Entered, Event, Printed}
use Rattle.hz_value.specs.system.System.{Ending, Done, Uncaught, LeftFor, Running, System}
use Rattle.hz_value.specs.system.System.{Resumed, Asked, ending_of}
use Rattle.hz_value.specs.world.Errors.{new_error}
use Rattle.hz_value.specs.world.Objects.{Plain, blank}
use Rattle.hz_value.specs.world.Start.{print_routine, readline_routine}
use Rattle.hz_value.specs.world.Store.{object, value_of}
use Rattle.hz_value.specs.world.World.{World, Line, Units, TooLong, content, marked, raised}
use Rattle.hz_ecma.specs.agreement.Agreement.{Matching, Agree}
use Rattle.hz_ecma.specs.agreement.Contents.{SameValue, SameValues, ObjectContent, object_content, kind_content}
use Rattle.hz_ecma.specs.agreement.Endings.{SameEnding, EndedAlike}
use Rattle.hz_ecma.specs.agreement.Layouts.{Layout}
use Rattle.hz_ecma.specs.agreement.Replies.{SameReply}
use Rattle.hz_ecma.specs.agreement.Same.{Simulates}
use Rattle.hz_ecma.specs.evaluator.Activations.{Activation}
use Rattle.hz_ecma.specs.evaluator.Steps.{Trees, tree_meaning, tree_answered}
use Rattle.hz_ecma.proofs.AgreeLaws.{counting}
use Rattle.hz_ecma.proofs.EndLaws.{Moved, Lives, Stops}
use Rattle.hz_ecma.proofs.ErrorLaws.{new_of, same_count}
use Rattle.hz_ecma.proofs.FunctionLaws.{AreKnown, known_later, none_made_raised}
use Rattle.hz_ecma.proofs.LiftLaws.{system}
use Rattle.hz_ecma.proofs.LineLaws.{agree_reading, line_world, onward_line, line_value, values_kept}
use Rattle.hz_ecma.proofs.OnwardLaws.{Onward, onward_counts, onward_raised, onward_same, grown_onward, Owns}
use Rattle.hz_ecma.proofs.PrintLaws.{SameRoutine, SameAnswer, SameMaybe, same_get, same_rest, same_length, same_line}
use Rattle.hz_ecma.proofs.StackLaws.{IsStanding, Stack, stack_grown, waits_back, waits_owns}

-- ---- what is the same in worlds that agree

-- the error that both raise
pub same_error : (layout : Layout) (m : Matching) (w w1 : World) (message : Message) (place place1 : ℕ)
    → Agree layout m w w1
    → SameValue (raised place message w).store (raised place1 message w1).store (new_error w.store)
    (new_error w1.store)
same_error layout m w w1 message place place1 h = record {
  live = omega (arith, length_push w.store.objects (new_of message w.store));
  live_other = omega (arith, length_push w1.store.objects (new_of message w1.store));
  content = ap (λ n. content.Object n) (same_count layout m w w1 h);
}

pub same_kind : (layout : Layout) (m : Matching) (w w1 : World) (o : ℕ) → Agree layout m w w1
    → kind_content (object w.store o).kind ≡ kind_content (object w1.store o).kind
same_kind layout m w w1 o h =
    ap {A = ObjectContent} (λ c. c.kind)
    (sym (get_or-map (object_content w.store) w.store.objects o (blank None Plain))
    ∙ ap (λ cs. slice_index_or cs o (object_content w.store (blank None Plain))) h.objects
    ∙ get_or-map (object_content w1.store) w1.store.objects o (blank None Plain))

module _ (T : Type 0) (other : Meaning T) (layout : Layout) (trees : Trees) (count : ℕ) where
  -- both run a function of the source, or the same routine, over activations that wait
  pub data Alive (n : ℕ) : System Activation → System T → Type 0 where
    InSource : (w w1 : World) (es es1 : List Event) (ss : List (Option Activation)) (ss1 : List (Option T))
        (role : Role) (a : Activation) (t : T) (fs : List (Frame Activation)) (fs1 : List (Frame T)) (m : Matching)
        (low : ℕ) → es ≡ es1 → AreKnown count w.store.objects → IsStanding role → Owns low w a.own
        → Stack T other layout n m w w1 low fs fs1 → Simulates T other layout n m a w t w1
        → Alive n (system w es ss (Running (Source role a) fs)) (system w1 es1 ss1 (Running (Source role t) fs1))
    InRoutine : (w w1 : World) (es es1 : List Event) (ss : List (Option Activation)) (ss1 : List (Option T))
        (role : Role) (r r1 : RoutineActivation) (fs : List (Frame Activation)) (fs1 : List (Frame T)) (m : Matching)
        (low : ℕ) → es ≡ es1 → AreKnown count w.store.objects → IsStanding role → low ≤ w.record_count
        → Agree layout m w w1 → SameRoutine w.store w1.store r r1 → Stack T other layout n m w w1 low fs fs1
        → Alive n (system w es ss (Running (Routine role r) fs)) (system w1 es1 ss1 (Running (Routine role r1) fs1))

  abbrev pub Comes : ℕ → System Activation → System T → Type 0
  Comes n s s1 = Moved Alive (λ x y. EndedAlike layout x y) n s s1

  -- both end so
  pub ends_moved : (n : ℕ) (s : System Activation) (s1 : System T) (w w1 : World) (e e1 : Ending) (m : Matching)
      → s.events ≡ s1.events → SameEnding w.store w1.store e e1 → Agree layout m w w1
      → Comes n (ended s w e) (ended s1 w1 e1)
  ends_moved n s s1 w w1 e e1 m same h agree = Stops (record {
    ending = e;
    other_ending = e1;
    state = refl;
    other_state = refl;
    same = h;
    events = same;
    matching = m;
    agree = agree;
  })

  pub leaves_moved : (n : ℕ) (s : System Activation) (s1 : System T) (w w1 : World) (place place1 : ℕ) (reason : Left)
      (m : Matching) → s.events ≡ s1.events → Agree layout m w w1
      → Comes n (left_at s w place reason) (left_at s1 w1 place1 reason)
  leaves_moved n s s1 w w1 place place1 reason m same h =
      ends_moved n s s1 (marked place w) (marked place1 w1) (LeftFor reason) (LeftFor reason) m same refl
      (onward_counts layout m w w1 w.turns w1.turns w.calls w1.calls place place1 h h.turns h.calls
      (omega arith)).agree

  module _ (n : ℕ) (s : System Activation) (s1 : System T) (events : s.events ≡ s1.events) (m : Matching) (low : ℕ)
    where
      ends_with : (w w1 : World) (c c1 : Reply) → Agree layout m w w1 → IsCompletion c
          → SameReply w.store w1.store c c1 → Comes n (ended s w (ending_of c)) (ended s1 w1 (ending_of c1))
      ends_with w w1 (Normal v) (Normal v1) agree is same = ends_moved n s s1 w w1 Done Done m events tt agree
      ends_with w w1 (Thrown v) (Thrown v1) agree is same =
          ends_moved n s s1 w w1 (Uncaught v) (Uncaught v1) m events same agree
      ends_with w w1 (Returned v) c1 agree is same = absurd is
      ends_with w w1 c c1 agree is same = absurd same

      -- the innermost that waits gets the reply; where none does, the script has ended
      pub replied_moved : (w w1 : World) (fs : List (Frame Activation)) (fs1 : List (Frame T)) (c c1 : Reply)
          → Agree layout m w w1 → AreKnown count w.store.objects → Stack T other layout n m w w1 low fs fs1
          → IsCompletion c → SameReply w.store w1.store c c1
          → Comes n (replied (tree_meaning trees) s w fs c) (replied other s1 w1 fs1 c1)
      replied_moved w w1 [] [] c c1 agree known stack is same = ends_with w w1 c c1 agree is same
      replied_moved w w1 (Source role a ∷ fs) (Source role1 t ∷ fs1) c c1 agree known stack is same =
          subst (λ x. Comes n (running s w (Source role (tree_answered a c)) fs)
          (running s1 w1 (Source x (other.answered t c1)) fs1)) stack.1
          (Lives (InSource w w1 s.events s1.events s.suspended s1.suspended role (tree_answered a c)
          (other.answered t c1) fs fs1 m stack.0 events known stack.2
          (waits_owns T other layout n m w w1 stack.0 low a t stack.3) stack.4
          (waits_back T other layout n m w w1 stack.0 low a t c c1 stack.3 is same)))
      replied_moved w w1 fs fs1 c c1 agree known stack is same = absurd stack

      -- an activation ends
      pub end_moved : (role : Role) (w w1 : World) (fs : List (Frame Activation)) (fs1 : List (Frame T)) (c c1 : Reply)
          → IsStanding role → Agree layout m w w1 → AreKnown count w.store.objects → low ≤ w.record_count
          → Stack T other layout n m w w1 low fs fs1 → IsCompletion c → SameReply w.store w1.store c c1
          → Comes n (replied (tree_meaning trees) s (behind_end role w) fs c)
          (replied other s1 (behind_end role w1) fs1 c1)
      end_moved Called w w1 fs fs1 c c1 standing agree known le stack is same =
          let w2 : World = counting w w.turns (w.calls - 1) w.mark in
          let w3 : World = counting w1 w1.turns (w1.calls - 1) w1.mark in
          let onward : Onward layout m w w1 w2 w3 =
          onward_counts layout m w w1 w.turns w1.turns (w.calls - 1) (w1.calls - 1) w.mark w1.mark agree agree.turns
          (ap (λ k. k - 1) agree.calls) (omega arith) in
          replied_moved w2 w3 fs fs1 c c1 onward.agree known
          (stack_grown T other layout n m m w w1 w2 w3 low fs fs1 stack
          (grown_onward layout low m w w1 w2 w3 le onward))
          is same
      end_moved Script w w1 fs fs1 c c1 standing agree known le stack is same =
          replied_moved w w1 fs fs1 c c1 agree known stack is same
      end_moved Entered w w1 fs fs1 c c1 standing agree known le stack is same =
          replied_moved w w1 fs fs1 c c1 agree known stack is same
      end_moved (Resumed g) w w1 fs fs1 c c1 standing agree known le stack is same = absurd standing

  -- ---- a step of a routine

  module _ (n : ℕ) (s : System Activation) (s1 : System T) (w w1 : World) (role : Role) (r r1 : RoutineActivation)
      (fs : List (Frame Activation)) (fs1 : List (Frame T)) (m : Matching) (low place place1 : ℕ)
      (events : s.events ≡ s1.events) (known : AreKnown count w.store.objects) (standing : IsStanding role)
      (le : low ≤ w.record_count) (agree : Agree layout m w w1) (same : SameRoutine w.store w1.store r r1)
      (stack : Stack T other layout n m w w1 low fs fs1) where
    abbrev Stepped : Next RoutineActivation → Next RoutineActivation → Type 0
    Stepped x y = Comes n (moved (tree_meaning trees) s place fs (next_map (Routine role) x))
        (moved other s1 place1 fs1 (next_map (Routine role) y))

    at_next_place : SameRoutine w.store w1.store (at_next r) (at_next r1)
    at_next_place = record {
      routine = same.routine;
      place = ap (λ k. k + 1) same.place;
      values = same.values;
      reply = tt;
    }

    converted : (c : Computed (List ℕ))
        → Stepped (computed_to r w (λ x. Goes (at_next r) w) (λ e. throw_error place e r w) c)
        (computed_to r1 w1 (λ x. Goes (at_next r1) w1) (λ e. throw_error place1 e r1 w1) c)
    converted (Gives x) =
        Lives (InRoutine w w1 s.events s1.events s.suspended s1.suspended role (at_next r) (at_next r1) fs fs1 m low
        events known standing le agree at_next_place stack)
    converted (Throws e) =
        let onward : Onward layout m w w1 (raised place e w) (raised place1 e w1) =
        onward_raised layout m w w1 e place place1 agree in
        end_moved n s s1 events m low role (raised place e w) (raised place1 e w1) fs fs1 (Thrown (new_error w.store))
        (Thrown (new_error w1.store)) standing onward.agree
        (known_later count w.store.objects (raised place e w).store.objects known (none_made_raised w e)) le
        (stack_grown T other layout n m m w w1 (raised place e w) (raised place1 e w1) low fs fs1 stack
        (grown_onward layout low m w w1 (raised place e w) (raised place1 e w1) le onward))
        tt (same_error layout m w w1 e place place1 agree)
    converted (Leaves reason) = leaves_moved n s s1 w w1 place place1 reason m events agree

    -- it ends with this
    ended_so : (c c1 : Reply) → IsCompletion c → SameReply w.store w1.store c c1
        → Comes n (replied (tree_meaning trees) s (behind_end role w) fs c)
        (replied other s1 (behind_end role w1) fs1 c1)
    ended_so c c1 is k =
        end_moved n s s1 events m low role w w1 fs fs1 c c1 standing agree known le stack is k

    returned : Stepped (Does (Return value.Undefined) r w) (Does (Return value.Undefined) r1 w1)
    returned =
        ended_so (Normal value.Undefined) (Normal value.Undefined) tt
        (record { live = tt; live_other = tt; content = refl })

    printed : (b b1 : Bool) → b ≡ b1
        → Stepped (if b then Does (Print (line_of w (drop 1 r.values))) (at_next r) w
        else Does (Return value.Undefined) r w)
        (if b1 then Does (Print (line_of w1 (drop 1 r1.values))) (at_next r1) w1
        else Does (Return value.Undefined) r1 w1)
    printed true true e =
        let line : line_of w (drop 1 r.values) ≡ line_of w1 (drop 1 r1.values) =
        same_line w w1 (drop 1 r.values) (drop 1 r1.values)
        (same_rest w.store w1.store r.values r1.values same.values) in
        Lives (InRoutine w w1 (s.events ++ Printed (line_of w (drop 1 r.values)) ∷ [])
        (s1.events ++ Printed (line_of w1 (drop 1 r1.values)) ∷ []) s.suspended s1.suspended role (at_next r)
        (at_next r1) fs fs1 m low
        (ap (λ es. es ++ Printed (line_of w (drop 1 r.values)) ∷ []) events
        ∙ ap (λ l. s1.events ++ Printed l ∷ []) line)
        known standing le agree at_next_place stack)
    printed false false e = returned
    printed true false e = absurd (cc)
    printed false true e = absurd (cc)

    argument : (v v1 : Option Value) → SameMaybe w.store w1.store v v1
        → Stepped (print_argument place r w v) (print_argument place1 r1 w1 v1)
    argument (Some v) (Some v1) k =
        subst (λ c. Stepped (print_argument place r w (Some v))
        (computed_to r1 w1 (λ x. Goes (at_next r1) w1) (λ e. throw_error place1 e r1 w1) c))
        (ap to_text k.content) (converted (to_text (content w v)))
    argument None None k =
        printed (r.place + 1 == length r.values) (r1.place + 1 == length r1.values)
        (ap (λ p. p + 1 == length r.values) same.place
        ∙ ap (λ l. r1.place + 1 == l) (same_length w.store w1.store r.values r1.values same.values))
    argument None (Some v1) k = absurd k
    argument (Some v) None k = absurd k

    -- the argument in hand on both sides
    at_place : SameMaybe w.store w1.store (slice_get (drop 1 r.values) r.place) (slice_get (drop 1 r1.values) r1.place)
    at_place =
        subst (λ p. SameMaybe w.store w1.store (slice_get (drop 1 r.values) r.place) (slice_get (drop 1 r1.values) p))
        same.place
        (same_get w.store w1.store (drop 1 r.values) (drop 1 r1.values) r.place
        (same_rest w.store w1.store r.values r1.values same.values))

    -- ---- readline

    -- it goes on with what came back
    answered_so : (w2 w3 : World) (c c1 : Reply) → Onward layout m w w1 w2 w3 → AreKnown count w2.store.objects
        → SameValues w2.store w3.store r.values r1.values → SameReply w2.store w3.store c c1
        → Comes n (running (with_event Asked s) w2 (Routine role (routine_answered r c)) fs)
        (running (with_event Asked s1) w3 (Routine role (routine_answered r1 c1)) fs1)
    answered_so w2 w3 c c1 onward known_then values reply =
        Lives (InRoutine w2 w3 (s.events ++ Asked ∷ []) (s1.events ++ Asked ∷ []) s.suspended s1.suspended role
        (routine_answered r c) (routine_answered r1 c1) fs fs1 m low (ap (λ es. es ++ Asked ∷ []) events) known_then
        standing (omega (arith, le, onward.later.record_count)) onward.agree
        (record { routine = same.routine; place = same.place; values = values; reply = reply })
        (stack_grown T other layout n m m w w1 w2 w3 low fs fs1 stack
        (grown_onward layout low m w w1 w2 w3 le onward)))

    line_read : (ls : List Line)
        → Comes n (line_to (tree_meaning trees) (with_event Asked s) place (Routine role r ∷ fs) w ls)
        (line_to other (with_event Asked s1) place1 (Routine role r1 ∷ fs1) w1 ls)
    line_read [] =
        answered_so w w1 (Normal value.Undefined) (Normal value.Undefined) (onward_same layout m w w1 agree) known
        same.values (record { live = tt; live_other = tt; content = refl })
    line_read (Units t ∷ ls) =
        answered_so (line_world t ls w) (line_world t ls w1) (Normal (value_of w.store (content.Text t)))
        (Normal (value_of w1.store (content.Text t))) (onward_line t ls layout m w w1 agree) known
        (values_kept t w.store w1.store r.values r1.values same.values) (line_value t w.store w1.store)
    line_read (TooLong ∷ ls) =
        leaves_moved n (with_event Asked s) (with_event Asked s1) (record w { lines = ls }) (record w1 { lines = ls })
        place place1 left.LongLine m (ap (λ es. es ++ Asked ∷ []) events) (agree_reading ls layout m w w1 agree)

    line_done : (c c1 : Option Reply) → SameAnswer w.store w1.store c c1
        → Stepped (Does (line_act c) r w) (Does (line_act c1) r1 w1)
    line_done None None k =
        subst (λ ls. Comes n (line_to (tree_meaning trees) (with_event Asked s) place (Routine role r ∷ fs) w w.lines)
        (line_to other (with_event Asked s1) place1 (Routine role r1 ∷ fs1) w1 ls)) agree.lines (line_read w.lines)
    line_done (Some (Normal v)) (Some (Normal v1)) k = ended_so (Normal v) (Normal v1) tt k
    line_done (Some (Thrown v)) (Some (Thrown v1)) k = ended_so (Thrown v) (Thrown v1) tt k
    line_done (Some (Returned v)) (Some (Returned v1)) k = ended_so (Normal v) (Normal v1) tt k
    line_done c c1 k = absurd k

    -- ---- the table

    other_routine : (b b1 : Bool) → b ≡ b1
        → Stepped (if b then readline_step r w else Does (Return value.Undefined) r w)
        (if b1 then readline_step r1 w1 else Does (Return value.Undefined) r1 w1)
    other_routine true true e = line_done r.reply r1.reply same.reply
    other_routine false false e = returned
    other_routine true false e = absurd (cc)
    other_routine false true e = absurd (cc)

    abbrev not_print : ℕ → RoutineActivation → World → Next RoutineActivation
    not_print k x w2 = if k == readline_routine then readline_step x w2 else Does (Return value.Undefined) x w2

    routine : (b b1 : Bool) → b ≡ b1
        → Stepped (if b then print_step place r w else not_print r.routine r w)
        (if b1 then print_step place1 r1 w1 else not_print r1.routine r1 w1)
    routine true true e =
        argument (slice_get (drop 1 r.values) r.place) (slice_get (drop 1 r1.values) r1.place) at_place
    routine false false e =
        other_routine (r.routine == readline_routine) (r1.routine == readline_routine)
        (ap (λ k. k == readline_routine) same.routine)
    routine true false e = absurd (cc)
    routine false true e = absurd (cc)

    pub routine_moved : Stepped (routine_step place r w) (routine_step place1 r1 w1)
    routine_moved =
        routine (r.routine == print_routine) (r1.routine == print_routine)
        (ap (λ k. k == print_routine) same.routine)
