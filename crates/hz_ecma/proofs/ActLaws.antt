-- The system does the same act of a function over its code as over its tree.
use Rattle.std.proofs.Common.{◌≡◌, ◌<◌, ◌≤◌, arith, refl, sym, ap, subst, ◌∙◌, ℕ, zero, suc, nat_lt, Bool, true, false}
use Rattle.std.proofs.Common.{if◌then◌else◌, List, [], ◌∷◌, ◌++◌, Option, Some, None}
use Rattle.std.specs.Prelude.{⊤}
use Rattle.hz_value.specs.declared.leaving.Left.TheVariants as left
use Rattle.hz_value.specs.declared.values.Value.{Value}
use Rattle.hz_value.specs.declared.values.Value.TheVariants as value
use Rattle.hz_value.specs.operators.Messages.{NotFunction}
use Rattle.hz_value.specs.system.Acts.{Reply, Normal, Thrown, Act, Call, Enter, Return, Throw, Start, Yield, Resume}
use Rattle.hz_value.specs.system.Acts.{Print}
use Rattle.hz_value.specs.system.Acts.{WantLine, Turn, Spent, Leave, Bad, IsCompletion}
use Rattle.hz_value.specs.system.Routines.{RoutineActivation, entered}
use Rattle.hz_value.specs.system.Step.{acted, running, turn_to, depth_to, call_to, frame_for, frame_of, max_calls}
use Rattle.hz_value.specs.system.Step.{left_at, replied, behind_end}
use Rattle.hz_value.specs.system.System.{Meaning, Frame, Source, Routine, Called, Entered, Printed}
use Rattle.hz_value.specs.system.System.{TurnsSpent, System, Role, Event, Invocation}
use Rattle.hz_value.specs.world.Errors.{new_error}
use Rattle.hz_value.specs.world.Objects.{Kind, Function, BuiltIn, Closure}
use Rattle.hz_value.specs.world.Store.{object, content_of}
use Rattle.hz_value.specs.world.World.{World, raised}
use Rattle.hz_ecma.specs.agreement.Agreement.{Matching, SameClosures, Agree}
use Rattle.hz_ecma.specs.agreement.Contents.{SameValue, SameValues, kind_content}
use Rattle.hz_ecma.specs.agreement.Correct.{Correct, SameInvocation}
use Rattle.hz_ecma.specs.agreement.Layouts.{Layout}
use Rattle.hz_ecma.specs.agreement.Replies.{SameReply, SameAct, Allowed}
use Rattle.hz_ecma.specs.agreement.Same.{Behind, Same}
use Rattle.hz_ecma.specs.evaluator.Activations.{Activation}
use Rattle.hz_ecma.specs.evaluator.Steps.{Trees, tree_meaning, tree_answered, tree_entered}
use Rattle.hz_ecma.proofs.AgreeLaws.{counting}
use Rattle.hz_ecma.proofs.EndLaws.{Lives}
use Rattle.hz_ecma.proofs.FunctionLaws.{AreKnown, known_later, none_made_raised}
use Rattle.hz_ecma.proofs.OnwardLaws.{Onward, onward_counts, onward_raised, onward_same, grown_onward, Owns}
use Rattle.hz_ecma.proofs.OnwardLaws.{owns_nothing}
use Rattle.hz_ecma.proofs.PrintLaws.{SameRoutine}
use Rattle.hz_ecma.proofs.StepLaws.{IsPlainAct}
use Rattle.hz_ecma.proofs.StackLaws.{IsStanding, Stack, stack_grown}
use Rattle.hz_ecma.proofs.SystemLaws.{InSource, InRoutine, Comes, ends_moved, leaves_moved, replied_moved, end_moved}
use Rattle.hz_ecma.proofs.SystemLaws.{same_error, same_kind}

-- how a call invokes a closure
abbrev invoked : ℕ → Closure → Value → List Value → Invocation
invoked o c this vs = record {
  callee = o;
  closure = c;
  this = this;
  arguments = vs;
  new_target = value.Undefined;
}

module _ (T : Type 0) (other : Meaning T) (layout : Layout) (trees : Trees) (count : ℕ)
    (functions : (k : ℕ) → 0 < k → k < count → Correct T other layout trees k) (n : ℕ) (s : System Activation)
    (s1 : System T) (role : Role) (standing : IsStanding role) (w w1 : World) (a : Activation) (t : T)
    (fs : List (Frame Activation)) (fs1 : List (Frame T)) (m : Matching) (low place place1 : ℕ)
    (events : s.events ≡ s1.events) (known : AreKnown count w.store.objects) (agree : Agree layout m w w1)
    (owns : Owns low w a.own) (stack : Stack T other layout n m w w1 low fs fs1) where
  abbrev Follows : System Activation → System T → Type 0
  Follows x y = Comes T other layout trees count n x y

  -- what holds behind a call and behind the entry of a routine
  abbrev Back : Type 0
  Back = (c c1 : Reply) (m2 : Matching) (w2 w3 : World) → IsCompletion c → SameReply w2.store w3.store c c1
      → Allowed layout a.own m w w1 m2 w2 w3
      → Same T other layout n m2 (tree_answered a c) w2 (other.answered t c1) w3

  abbrev pushed : List (Frame Activation)
  pushed = Source role a ∷ fs

  abbrev other_pushed : List (Frame T)
  other_pushed = Source role t ∷ fs1

  -- it waits in the worlds that the system makes of those of its act
  waits : (w2 w3 : World) → Onward layout m w w1 w2 w3 → Back
      → Stack T other layout n m w2 w3 w.record_count pushed other_pushed
  waits w2 w3 onward back = (
    low,
    refl,
    standing,
    record {
      before = m;
      from = w;
      other_from = w1;
      grown = grown_onward layout w.record_count m w w1 w2 w3 (omega arith) onward;
      order = owns.low_is_live;
      own = λ r is. (owns.above r is, owns.live r is);
      back = λ c c1 m2 w4 w5 is same allowed. record { is = back c c1 m2 w4 w5 is same allowed };
    },
    stack_grown T other layout n m m w w1 w2 w3 low fs fs1 stack
        (grown_onward layout low m w w1 w2 w3 owns.low_is_live onward),
  )

  -- ---- calls

  -- what holds of the frames of a call: where none of both is there, or both go on in the worlds that a call makes
  abbrev Entering : Frame Activation → Frame T → Type 0
  Entering f f1 = (turns turns1 calls calls1 : ℕ)
      → Onward layout m w w1 (counting w turns calls w.mark) (counting w1 turns1 calls1 w1.mark)
      → Follows (running s (counting w turns calls w.mark) f pushed)
      (running s1 (counting w1 turns1 calls1 w1.mark) f1 other_pushed)

  abbrev SameFrames : Option (Frame Activation) → Option (Frame T) → Type 0
  SameFrames None None = ⊤
  SameFrames (Some f) (Some f1) = Entering f f1
  SameFrames f f1 = ⊥

  enters : (b b1 : Bool) (k k1 : ℕ) (f : Frame Activation) (f1 : Frame T) → b ≡ b1 → k ≡ k1 → k ≤ w.turns
      → Entering f f1
      → Follows (if b then running s (record w { turns = k; calls = suc w.calls }) f pushed
      else left_at s (record w { turns = k }) place left.TooDeep)
      (if b1 then running s1 (record w1 { turns = k1; calls = suc w1.calls }) f1 other_pushed
      else left_at s1 (record w1 { turns = k1 }) place1 left.TooDeep)
  enters true true k k1 f f1 e is le go =
      go k k1 (suc w.calls) (suc w1.calls)
      (onward_counts layout m w w1 k k1 (suc w.calls) (suc w1.calls) w.mark w1.mark agree is (ap suc agree.calls) le)
  enters false false k k1 f f1 e is le go =
      leaves_moved T other layout trees count n s s1 (counting w k w.calls w.mark) (counting w1 k1 w1.calls w1.mark)
      place place1 left.TooDeep m events
      (onward_counts layout m w w1 k k1 w.calls w1.calls w.mark w1.mark agree is agree.calls le).agree
  enters true false k k1 f f1 e is le go = absurd (cc)
  enters false true k k1 f f1 e is le go = absurd (cc)

  takes_turn : (k k1 : ℕ) (f : Frame Activation) (f1 : Frame T) → k ≡ k1 → k ≡ w.turns → Entering f f1
      → Follows (turn_to s w (depth_to s place (λ w2. running s w2 f pushed)) k)
      (turn_to s1 w1 (depth_to s1 place1 (λ w2. running s1 w2 f1 other_pushed)) k1)
  takes_turn zero zero f f1 e is go =
      ends_moved T other layout trees count n s s1 w w1 TurnsSpent TurnsSpent m events tt agree
  takes_turn (suc k) (suc k1) f f1 e is go =
      enters (nat_lt w.calls max_calls) (nat_lt w1.calls max_calls) k k1 f f1
      (ap (λ x. nat_lt x max_calls) agree.calls) (omega (arith, e)) (omega (arith, is)) go
  takes_turn zero (suc k1) f f1 e is go = absurd (omega (arith, e))
  takes_turn (suc k) zero f f1 e is go = absurd (omega (arith, e))

  routine_enters : (r r1 : RoutineActivation) → SameRoutine w.store w1.store r r1 → Back
      → Entering (Routine Called r) (Routine Called r1)
  routine_enters r r1 same back = λ turns turns1 calls calls1 onward.
      let w2 : World = counting w turns calls w.mark in
      let w3 : World = counting w1 turns1 calls1 w1.mark in
      Lives (InRoutine w2 w3 s.events s1.events s.suspended s1.suspended Called r r1 pushed other_pushed m
      w.record_count events known tt (omega arith) onward.agree same (waits w2 w3 onward back))

  function_enters : (i i1 : Invocation) → Correct T other layout trees i.closure.function → Back
      → ((turns turns1 calls calls1 : ℕ)
      → Onward layout m w w1 (counting w turns calls w.mark) (counting w1 turns1 calls1 w1.mark)
      → SameInvocation layout m (counting w turns calls w.mark) (counting w1 turns1 calls1 w1.mark)
      i.closure.function i i1)
      → Entering (Source Called (tree_entered trees i)) (Source Called (other.enter i1))
  function_enters i i1 correct back same = λ turns turns1 calls calls1 onward.
      let w2 : World = counting w turns calls w.mark in
      let w3 : World = counting w1 turns1 calls1 w1.mark in
      Lives (InSource w2 w3 s.events s1.events s.suspended s1.suspended Called (tree_entered trees i) (other.enter i1)
      pushed other_pushed m w.record_count events known tt (owns_nothing w.record_count w2 (omega arith))
      (waits w2 w3 onward back)
      (correct.by n m w2 w3 i i1 onward.agree (same turns turns1 calls calls1 onward)))

  -- the callees have these kinds
  module _ (o o1 : ℕ) (this this1 : Value) (vs vs1 : List Value) (same_callee : o ≡ o1)
      (same_this : SameValue w.store w1.store this this1) (same_values : SameValues w.store w1.store vs vs1)
      (back : Back) where
    closure_enters : (c c1 : Closure) → (object w.store o).kind ≡ Function c → (object w1.store o).kind ≡ Function c1
        → c.function ≡ c1.function
        → SameFrames (frame_for (tree_meaning trees) (Function c) o this vs)
        (frame_for other (Function c1) o1 this1 vs1)
    closure_enters c c1 e e1 same =
        function_enters (invoked o c this vs) (invoked o1 c1 this1 vs1)
        (functions c.function (known.by o c e).0 (known.by o c e).1) back
        (λ turns turns1 calls calls1 onward. record {
          callee = same_callee;
          function = refl;
          function_other = sym same;
          closure =
              subst (λ k. SameClosures layout m (counting w turns calls w.mark) (counting w1 turns1 calls1 w1.mark)
              (Function c) k) e1
              (subst (λ k. SameClosures layout m (counting w turns calls w.mark)
              (counting w1 turns1 calls1 w1.mark) k (object w1.store o).kind) e (onward.agree.closures o));
          this = same_this;
          arguments = same_values;
          new_target = record { live = tt; live_other = tt; content = refl };
        })

    frame_by_kind : (k k1 : Kind) → (object w.store o).kind ≡ k → (object w1.store o).kind ≡ k1
        → kind_content k ≡ kind_content k1
        → SameFrames (frame_for (tree_meaning trees) k o this vs) (frame_for other k1 o1 this1 vs1)
    frame_by_kind (BuiltIn r) (BuiltIn r1) e e1 same =
        routine_enters _ _ (record { routine = (cc); place = refl; values = (same_this, same_values); reply = tt }) back
    frame_by_kind (Function c) (Function c1) e e1 same = closure_enters c c1 e e1 (cc)
    frame_by_kind (Function c) k1 e e1 same = absurd (cc)
    frame_by_kind (BuiltIn r) k1 e e1 same = absurd (cc)
    frame_by_kind k (BuiltIn r1) e e1 same = absurd (cc)
    frame_by_kind k (Function c1) e e1 same = absurd (cc)
    frame_by_kind k k1 e e1 same = tt

  frame_by_value : (f f1 this this1 : Value) (vs vs1 : List Value) → content_of w.store f ≡ content_of w1.store f1
      → SameValue w.store w1.store this this1 → SameValues w.store w1.store vs vs1 → Back
      → SameFrames (frame_of (tree_meaning trees) w f this vs) (frame_of other w1 f1 this1 vs1)
  frame_by_value (value.Object o) (value.Object o1) this this1 vs vs1 e same sames back =
      let is : o ≡ o1 = (cc) in
      subst (λ x. SameFrames (frame_for (tree_meaning trees) (object w.store o).kind o this vs)
      (frame_for other (object w1.store x).kind o1 this1 vs1)) is
      (frame_by_kind o o1 this this1 vs vs1 is same sames back (object w.store o).kind (object w1.store o).kind refl
      refl (same_kind layout m w w1 o agree))
  frame_by_value (value.Object o) f1 this this1 vs vs1 e same sames back = absurd (cc)
  frame_by_value f (value.Object o1) this this1 vs vs1 e same sames back = absurd (cc)
  frame_by_value f f1 this this1 vs vs1 e same sames back = tt

  called : (f : Option (Frame Activation)) (f1 : Option (Frame T)) → SameFrames f f1 → Back
      → Follows (call_to (tree_meaning trees) s place pushed w f) (call_to other s1 place1 other_pushed w1 f1)
  called None None same back =
      let w2 : World = raised place NotFunction w in
      let w3 : World = raised place1 NotFunction w1 in
      let onward : Onward layout m w w1 w2 w3 = onward_raised layout m w w1 NotFunction place place1 agree in
      replied_moved T other layout trees count n s s1 events m w.record_count w2 w3 pushed other_pushed
      (Thrown (new_error w.store)) (Thrown (new_error w1.store)) onward.agree
      (known_later count w.store.objects w2.store.objects known (none_made_raised w NotFunction))
      (waits w2 w3 onward back) tt (same_error layout m w w1 NotFunction place place1 agree)
  called (Some f) (Some f1) same back = takes_turn w.turns w1.turns f f1 agree.turns refl same
  called (Some f) None same back = absurd same
  called None (Some f1) same back = absurd same

  -- ---- acts

  ends : (c c1 : Reply) → IsCompletion c → SameReply w.store w1.store c c1
      → Follows (replied (tree_meaning trees) s (behind_end role w) fs c)
      (replied other s1 (behind_end role w1) fs1 c1)
  ends c c1 is same =
      end_moved T other layout trees count n s s1 events m low role w w1 fs fs1 c c1 standing agree known
      owns.low_is_live stack is same

  goes_on : (es es1 : List Event) → es ≡ es1 → Same T other layout n m a w t w1
      → Follows (running (record s { events = es }) w (Source role a) fs)
      (running (record s1 { events = es1 }) w1 (Source role t) fs1)
  goes_on es es1 e behind =
      Lives (InSource w w1 es es1 s.suspended s1.suspended role a t fs fs1 m low e known standing owns stack
      (record { is = behind }))

  pub act_moved : (act act1 : Act) → IsPlainAct act → SameAct w.store w1.store act act1
      → Behind T other layout (Same T other layout n) act m a w t w1
      → Follows (acted (tree_meaning trees) s place (Source role a) fs w act)
      (acted other s1 place1 (Source role t) fs1 w1 act1)
  act_moved (Call f this vs) (Call f1 this1 vs1) plain same behind =
      called (frame_of (tree_meaning trees) w f this vs) (frame_of other w1 f1 this1 vs1)
      (frame_by_value f f1 this this1 vs vs1 same.0.content same.1 same.2 behind) behind
  act_moved (Enter r vs) (Enter r1 vs1) plain same behind =
      Lives (InRoutine w w1 s.events s1.events s.suspended s1.suspended Entered (entered r vs) (entered r1 vs1) pushed
      other_pushed m w.record_count events known tt (omega arith) agree
      (record { routine = same.0; place = refl; values = same.1; reply = tt })
      (waits w w1 (onward_same layout m w w1 agree) behind))
  act_moved (Return v) (Return v1) plain same behind = ends (Normal v) (Normal v1) tt same
  act_moved (Throw v) (Throw v1) plain same behind = ends (Thrown v) (Thrown v1) tt same
  act_moved (Print line) (Print line1) plain same behind =
      goes_on (s.events ++ Printed line ∷ []) (s1.events ++ Printed line1 ∷ [])
      (ap (λ es. es ++ Printed line ∷ []) events ∙ ap (λ l. s1.events ++ Printed l ∷ []) same) behind
  act_moved Turn Turn plain same behind = goes_on s.events s1.events events behind
  act_moved Spent Spent plain same behind =
      ends_moved T other layout trees count n s s1 w w1 TurnsSpent TurnsSpent m events tt agree
  act_moved (Leave reason) (Leave reason1) plain same behind =
      subst (λ x. Follows (left_at s w place reason) (left_at s1 w1 place1 x)) same
      (leaves_moved T other layout trees count n s s1 w w1 place place1 reason m events agree)
  act_moved (Start prototype) act1 plain same behind = absurd plain
  act_moved (Yield v) act1 plain same behind = absurd plain
  act_moved (Resume g c) act1 plain same behind = absurd plain
  act_moved WantLine act1 plain same behind = absurd plain
  act_moved Bad act1 plain same behind = absurd plain
  act_moved act act1 plain same behind = absurd same
