-- No run over trees ends as bad code.
use Rattle.std.proofs.Common.{◌≡◌, subst, sym, refl, ℕ, zero, suc, nat_lt, Bool, true, false, if◌then◌else◌, List, []}
use Rattle.std.proofs.Common.{◌∷◌, Option}
use Rattle.std.proofs.Common.{Some, None}
use Rattle.std.specs.Prelude.{slice_get, drop, ◌==◌, ◌+◌, length, ⊤}
use Rattle.hz_value.specs.operators.Messages.{Message}
use Rattle.hz_value.specs.declared.values.Value.{Value}
use Rattle.hz_value.specs.operators.Computed.{Computed, Gives, Throws, Leaves}
use Rattle.hz_value.specs.operators.Conversions.{to_text}
use Rattle.hz_value.specs.world.Start.{print_routine, readline_routine}
use Rattle.hz_value.specs.world.World.{World, Line, Units, TooLong, content}
use Rattle.hz_value.specs.system.Acts.{Reply, Normal, Thrown, Returned, Act, Call, Enter, Return, Throw, Start, Yield}
use Rattle.hz_value.specs.system.Acts.{Resume, Print, WantLine, Turn, Spent, Leave, Bad, Next, Goes, Does, next_map}
use Rattle.hz_value.specs.system.Acts.{computed_to}
use Rattle.hz_value.specs.system.Routines.{RoutineActivation, routine_step, print_argument, line_act}
use Rattle.hz_value.specs.system.System.{Meaning, Frame, Source, Routine, State, Running, Ended, System}
use Rattle.hz_value.specs.system.System.{Asked, frame_step, statement_in_hand}
use Rattle.hz_value.specs.system.Step.{replied, turn_to, depth_to, call_to, frame_of, line_to}
use Rattle.hz_value.specs.system.Step.{acted, moved, stepped, system_step, max_calls, running, with_event}
use Rattle.hz_value.specs.system.Runs.{after}
use Rattle.hz_ecma.specs.evaluator.Activations.{Activation}
use Rattle.hz_ecma.specs.evaluator.Steps.{Trees, tree_meaning, tree_step}
use Rattle.hz_ecma.specs.runs.Meant.{IsMeantState}
use Rattle.hz_ecma.specs.runs.Outcomes.{tree_start, after_steps}
use Rattle.hz_ecma.proofs.StepLaws.{IsPlain, IsPlainAct, step_plain}

-- ---- frames

-- an act of a frame: a routine may want a line, too
abbrev IsTameAct : Act → Type 0
IsTameAct WantLine = ⊤
IsTameAct act = IsPlainAct act

abbrev IsTame : {A : Type 0} → Next A → Type 0
IsTame (Goes a w) = ⊤
IsTame (Does act a w) = IsTameAct act

tame_act : (act : Act) → IsPlainAct act → IsTameAct act
tame_act WantLine h = tt
tame_act act h = h

tame_map : {A B : Type 0} (see : A → B) (next : Next A) → IsTame next → IsTame (next_map see next)
tame_map see (Goes a w) h = tt
tame_map see (Does act a w) h = h

tame_step : {A : Type 0} (next : Next A) → IsPlain next → IsTame next
tame_step (Goes a w) h = tt
tame_step (Does act a w) h = tame_act act h

tame_if : {A : Type 0} (b : Bool) (x y : Next A) → IsTame x → IsTame y → IsTame (if b then x else y)
tame_if true x y h k = h
tame_if false x y h k = k

tame_computed : {A T : Type 0} (a : A) (w : World) (go : T → Next A) (raise : Message → Next A) (c : Computed T)
    → ((x : T) → IsTame (go x)) → ((m : Message) → IsTame (raise m)) → IsTame (computed_to a w go raise c)
tame_computed a w go raise (Gives x) h k = h x
tame_computed a w go raise (Throws m) h k = k m
tame_computed a w go raise (Leaves reason) h k = tt

tame_argument : (place : ℕ) (r : RoutineActivation) (w : World) (v : Option Value)
    → IsTame (print_argument place r w v)
tame_argument place r w (Some v) = tame_computed r w _ _ (to_text (content w v)) (λ t. tt) (λ m. tt)
tame_argument place r w None = tame_if (r.place + 1 == length r.values) _ _ tt tt

tame_line : (c : Option Reply) → IsTameAct (line_act c)
tame_line None = tt
tame_line (Some (Normal v)) = tt
tame_line (Some (Thrown v)) = tt
tame_line (Some (Returned v)) = tt

tame_routine : (place : ℕ) (r : RoutineActivation) (w : World) → IsTame (routine_step place r w)
tame_routine place r w =
    tame_if (r.routine == print_routine) _ _
    (tame_argument place r w (slice_get (drop 1 r.values) r.place))
    (tame_if (r.routine == readline_routine) _ _ (tame_line r.reply) tt)

tame_frame : (trees : Trees) (place : ℕ) (f : Frame Activation) (w : World)
    → IsTame (frame_step (tree_meaning trees) place f w)
tame_frame trees place (Source role a) w =
    tame_map (Source role) (tree_step a w) (tame_step (tree_step a w) (step_plain a w))
tame_frame trees place (Routine role r) w = tame_map (Routine role) (routine_step place r w) (tame_routine place r w)

-- ---- the system

meant_replied : {A : Type 0} (m : Meaning A) (s : System A) (w : World) (fs : List (Frame A)) (c : Reply)
    → IsMeantState (replied m s w fs c).state
meant_replied m s w [] (Normal v) = tt
meant_replied m s w [] (Thrown v) = tt
meant_replied m s w [] (Returned v) = tt
meant_replied m s w (f ∷ fs) c = tt

meant_if : {A : Type 0} (b : Bool) (x y : System A) → IsMeantState x.state → IsMeantState y.state
    → IsMeantState (if b then x else y).state
meant_if true x y h k = h
meant_if false x y h k = k

meant_turn : {A : Type 0} (s : System A) (w : World) (go : World → System A) (n : ℕ)
    → ((w1 : World) → IsMeantState (go w1).state) → IsMeantState (turn_to s w go n).state
meant_turn s w go zero h = tt
meant_turn s w go (suc n) h = h (record w { turns = n })

meant_call : {A : Type 0} (m : Meaning A) (s : System A) (place : ℕ) (fs : List (Frame A)) (w : World)
    (f : Option (Frame A)) → IsMeantState (call_to m s place fs w f).state
meant_call m s place fs w None = meant_replied m s _ fs (Thrown _)
meant_call m s place fs w (Some f) =
    meant_turn s w (depth_to s place (λ w1. running s w1 f fs)) w.turns
    (λ w1. meant_if (nat_lt w1.calls max_calls) _ _ tt tt)

meant_line : {A : Type 0} (m : Meaning A) (s : System A) (place : ℕ) (fs : List (Frame A)) (w : World) (ls : List Line)
    → IsMeantState (line_to m s place fs w ls).state
meant_line m s place fs w [] = meant_replied m s w fs (Normal _)
meant_line m s place fs w (Units t ∷ ls) = meant_replied m s _ fs (Normal _)
meant_line m s place fs w (TooLong ∷ ls) = tt

meant_acted : {A : Type 0} (m : Meaning A) (s : System A) (place : ℕ) (f : Frame A) (fs : List (Frame A)) (w : World)
    (act : Act) → IsTameAct act → IsMeantState (acted m s place f fs w act).state
meant_acted m s place f fs w (Call callee this arguments) h =
    meant_call m s place (f ∷ fs) w (frame_of m w callee this arguments)
meant_acted m s place f fs w (Enter routine values) h = tt
meant_acted m s place f fs w (Return v) h = meant_replied m s _ fs (Normal v)
meant_acted m s place f fs w (Throw v) h = meant_replied m s _ fs (Thrown v)
meant_acted m s place f fs w (Start prototype) h = absurd h
meant_acted m s place f fs w (Yield v) h = absurd h
meant_acted m s place f fs w (Resume g c) h = absurd h
meant_acted m s place f fs w (Print line) h = tt
meant_acted m s place f fs w WantLine h = meant_line m (with_event Asked s) place (f ∷ fs) w w.lines
meant_acted m s place f fs w Turn h = tt
meant_acted m s place f fs w Spent h = tt
meant_acted m s place f fs w (Leave reason) h = tt
meant_acted m s place f fs w Bad h = absurd h

meant_moved : {A : Type 0} (m : Meaning A) (s : System A) (place : ℕ) (fs : List (Frame A)) (next : Next (Frame A))
    → IsTame next → IsMeantState (moved m s place fs next).state
meant_moved m s place fs (Goes f w) h = tt
meant_moved m s place fs (Does act f w) h = meant_acted m s place f fs w act h

meant_stepped : (trees : Trees) (s : System Activation) (x : State Activation) → IsMeantState x → s.state ≡ x
    → IsMeantState (stepped (tree_meaning trees) s x).state
meant_stepped trees s (Running top below) h e =
    let place = statement_in_hand (tree_meaning trees) (top ∷ below) in
    meant_moved (tree_meaning trees) s place below (frame_step (tree_meaning trees) place top s.world)
    (tame_frame trees place top s.world)
meant_stepped trees s (Ended ending) h e = subst (λ x. IsMeantState x) (sym e) h

meant_after : (trees : Trees) (n : ℕ) (s : System Activation) → IsMeantState s.state
    → IsMeantState (after (tree_meaning trees) n s).state
meant_after trees zero s h = h
meant_after trees (suc n) s h =
    meant_after trees n (system_step (tree_meaning trees) s) (meant_stepped trees s s.state h refl)

pub no_bad_code : (trees : Trees) (lines : List Line) (turns n : ℕ)
    → IsMeantState (after_steps trees lines turns n).state
no_bad_code trees lines turns n = meant_after trees n (tree_start trees lines turns) tt
