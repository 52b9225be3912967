-- A step of the system: the frame at the top takes a step, and the system does its act.
use Rattle.std.specs.Prelude.{ℕ, zero, suc, ◌-◌, nat_lt, if◌then◌else◌, List, [], ◌∷◌, ◌++◌, length, slice_set}
use Rattle.std.specs.Prelude.{slice_index_or, Option, Some, None}
use Rattle.hz_value.specs.declared.leaving.Left.{Left}
use Rattle.hz_value.specs.declared.leaving.Left.TheVariants as left
use Rattle.hz_value.specs.declared.values.Value.{Value}
use Rattle.hz_value.specs.declared.values.Value.TheVariants as value
use Rattle.hz_value.specs.operators.Messages.{NotFunction}
use Rattle.hz_value.specs.operators.Contents.{Text}
use Rattle.hz_value.specs.world.Objects.{Kind, Function, BuiltIn, Generator, GeneratorState, SuspendedStart}
use Rattle.hz_value.specs.world.Objects.{SuspendedYield, Executing, Completed, blank}
use Rattle.hz_value.specs.world.Store.{object, with_object, set_kind, value_of}
use Rattle.hz_value.specs.world.Errors.{new_error}
use Rattle.hz_value.specs.world.World.{World, Line, Units, TooLong, keeping, marked, raised}
use Rattle.hz_value.specs.system.Acts.{Reply, Normal, Thrown, Act, Call, Enter, Return, Throw, Start, Yield, Resume}
use Rattle.hz_value.specs.system.Acts.{Print, WantLine, Turn, Spent, Leave, Bad, Next, Goes, Does}
use Rattle.hz_value.specs.system.Routines.{entered}
use Rattle.hz_value.specs.system.System.{Meaning, Frame, Source, Routine, Role, Script, Called, Entered, Resumed}
use Rattle.hz_value.specs.system.System.{Event, Printed, Asked, Ending, LeftFor, TurnsSpent, BadCode, State, Running}
use Rattle.hz_value.specs.system.System.{Ended, System, role_of, frame_step, answered, statement_in_hand, ending_of}

-- how many calls and resumed generators may be active
abbrev pub max_calls : ℕ
max_calls = 10000

-- ---- the system behind an act

abbrev pub running : {A : Type 0} → System A → World → Frame A → List (Frame A) → System A
running s w top below = record s { world = w; state = Running top below }

abbrev pub ended : {A : Type 0} → System A → World → Ending → System A
ended s w e = record s { world = w; state = Ended e }

-- the run is left at this place of the source
abbrev pub left_at : {A : Type 0} → System A → World → ℕ → Left → System A
left_at s w place reason = ended s (marked place w) (LeftFor reason)

abbrev pub with_event : {A : Type 0} → Event → System A → System A
with_event e s = record s { events = s.events ++ e ∷ [] }

-- the reply goes to the innermost of these frames; where there is none, the script has ended
abbrev pub replied : {A : Type 0} → Meaning A → System A → World → List (Frame A) → Reply → System A
replied m s w [] c = ended s w (ending_of c)
replied m s w (f ∷ fs) c = running s w (answered m c f) fs

-- ---- the end of an activation

abbrev pub state_set : GeneratorState → Kind → Kind
state_set state (Generator old n) = Generator state n
state_set state kind = kind

abbrev pub with_state : ℕ → GeneratorState → World → World
with_state g state w = record w { store = set_kind g (state_set state (object w.store g).kind) w.store }

abbrev pub one_call_less : World → World
one_call_less w = record w { calls = w.calls - 1 }

-- the world behind the end of an activation that stood on the stack for this
abbrev pub behind_end : Role → World → World
behind_end Script w = w
behind_end Called w = one_call_less w
behind_end Entered w = w
behind_end (Resumed g) w = one_call_less (with_state g Completed w)

-- ---- calls

-- a turn is taken where one is left; else the run ends
abbrev pub turn_to : {A : Type 0} → System A → World → (World → System A) → ℕ → System A
turn_to s w go zero = ended s w TurnsSpent
turn_to s w go (suc n) = go (record w { turns = n })

-- one call more is active, where there may be one more; else the run is left
abbrev pub depth_to : {A : Type 0} → System A → ℕ → (World → System A) → World → System A
depth_to s place go w =
    if nat_lt w.calls max_calls then go (record w { calls = suc w.calls }) else left_at s w place left.TooDeep

-- the frame of a call of this object, where it can be called (7.3.13)
abbrev pub frame_for : {A : Type 0} → Meaning A → Kind → ℕ → Value → List Value → Option (Frame A)
frame_for m (Function closure) o this arguments =
    Some (Source Called (m.enter (record {
      callee = o;
      closure = closure;
      this = this;
      arguments = arguments;
      new_target = value.Undefined;
    })))
frame_for m (BuiltIn routine) o this arguments = Some (Routine Called (entered routine (this ∷ arguments)))
frame_for m kind o this arguments = None

abbrev pub frame_of : {A : Type 0} → Meaning A → World → Value → Value → List Value → Option (Frame A)
frame_of m w (value.Object o) this arguments = frame_for m (object w.store o).kind o this arguments
frame_of m w callee this arguments = None

-- the tests of a call in their order: whether the callee is a function, whether a turn is left, and how many calls
-- are active
abbrev pub call_to : {A : Type 0} → Meaning A → System A → ℕ → List (Frame A) → World → Option (Frame A) → System A
call_to m s place frames w None = replied m s (raised place NotFunction w) frames (Thrown (new_error w.store))
call_to m s place frames w (Some f) =
    turn_to s w (depth_to s place (λ w1. running s w1 f frames)) w.turns

-- ---- generators

abbrev pub activation_number : Kind → ℕ
activation_number (Generator state n) = n
activation_number kind = 0

-- the number of a generator's activation
abbrev pub number_in : World → ℕ → ℕ
number_in w g = activation_number (object w.store g).kind

-- a new generator for the activation with this number
abbrev pub with_generator : Option ℕ → ℕ → World → World
with_generator prototype n w =
    record w { store = with_object (blank prototype (Generator SuspendedStart n)) w.store }

-- the activation waits in a new generator, which its call returns
abbrev pub started : {A : Type 0} → Meaning A → System A → Frame A → List (Frame A) → World → Option ℕ → System A
started m s (Source role a) below w prototype =
    replied m (record s { suspended = s.suspended ++ Some a ∷ [] })
    (behind_end role (with_generator prototype (length s.suspended) w)) below
    (Normal (value.Object (length w.store.objects)))
started m s (Routine role r) below w prototype = ended s w BadCode

-- the activation of a resumed generator waits again, and the value goes to what resumed it
abbrev pub yielded : {A : Type 0} → Meaning A → System A → Frame A → List (Frame A) → World → Value → System A
yielded m s (Source (Resumed g) a) below w v =
    replied m (record s { suspended = slice_set s.suspended (number_in w g) (Some a) })
    (one_call_less (with_state g SuspendedYield w)) below (Normal v)
yielded m s f below w v = ended s w BadCode

abbrev pub awake : {A : Type 0} → Meaning A → System A → List (Frame A) → ℕ → Reply → Option A → World → System A
awake m s frames g c (Some a) w =
    running (record s { suspended = slice_set s.suspended (number_in w g) None }) (with_state g Executing w)
    (Source (Resumed g) (m.answered a c)) frames
awake m s frames g c None w = ended s w BadCode

-- a resumption takes its turn and its place of depth, as a call does
abbrev pub resumed : {A : Type 0} → Meaning A → System A → ℕ → List (Frame A) → World → ℕ → Reply → System A
resumed m s place frames w g c =
    turn_to s w (depth_to s place (awake m s frames g c (slice_index_or s.suspended (number_in w g) None))) w.turns

-- ---- lines of the input

-- a line becomes a text; behind the last one comes undefined
abbrev pub line_to : {A : Type 0} → Meaning A → System A → ℕ → List (Frame A) → World → List Line → System A
line_to m s place frames w [] = replied m s w frames (Normal value.Undefined)
line_to m s place frames w (Units t ∷ ls) =
    replied m s (keeping (Text t) (record w { lines = ls })) frames (Normal (value_of w.store (Text t)))
line_to m s place frames w (TooLong ∷ ls) = left_at s (record w { lines = ls }) place left.LongLine

-- ---- the acts

-- the system does the act of the frame at the top, where this is the place in the source of the statement in hand
abbrev pub acted : {A : Type 0} → Meaning A → System A → ℕ → Frame A → List (Frame A) → World → Act → System A
acted m s place top below w (Call callee this arguments) =
    call_to m s place (top ∷ below) w (frame_of m w callee this arguments)
acted m s place top below w (Enter routine values) =
    running s w (Routine Entered (entered routine values)) (top ∷ below)
acted m s place top below w (Return v) = replied m s (behind_end (role_of top) w) below (Normal v)
acted m s place top below w (Throw v) = replied m s (behind_end (role_of top) w) below (Thrown v)
acted m s place top below w (Start prototype) = started m s top below w prototype
acted m s place top below w (Yield v) = yielded m s top below w v
acted m s place top below w (Resume g c) = resumed m s place (top ∷ below) w g c
acted m s place top below w (Print line) = running (with_event (Printed line) s) w top below
acted m s place top below w WantLine = line_to m (with_event Asked s) place (top ∷ below) w w.lines
acted m s place top below w Turn = running s w top below
acted m s place top below w Spent = ended s w TurnsSpent
acted m s place top below w (Leave reason) = left_at s w place reason
acted m s place top below w Bad = ended s w BadCode

-- ---- the step

abbrev pub moved : {A : Type 0} → Meaning A → System A → ℕ → List (Frame A) → Next (Frame A) → System A
moved m s place below (Goes f w) = running s w f below
moved m s place below (Does act f w) = acted m s place f below w act

-- the frame at the top takes a step, where this is the place in the source of the statement in hand
abbrev pub stepped_at : {A : Type 0} → Meaning A → System A → Frame A → List (Frame A) → ℕ → System A
stepped_at m s top below place = moved m s place below (frame_step m place top s.world)

abbrev pub stepped : {A : Type 0} → Meaning A → System A → State A → System A
stepped m s (Running top below) = stepped_at m s top below (statement_in_hand m (top ∷ below))
stepped m s (Ended e) = s

-- one step of the system; one that has ended stays as it is
abbrev pub system_step : {A : Type 0} → Meaning A → System A → System A
system_step m s = stepped m s s.state
