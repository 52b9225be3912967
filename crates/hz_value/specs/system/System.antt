-- The system of a run: activations of functions and routines, and the world that they work on.
--
-- It is one definition over every meaning of the source's functions: over their trees, and over their code.
use Rattle.std.specs.Prelude.{ℕ, List, [], ◌∷◌, Option}
use Rattle.hz_value.specs.declared.leaving.Left.{Left}
use Rattle.hz_value.specs.declared.values.Value.{Value}
use Rattle.hz_value.specs.world.Objects.{Closure}
use Rattle.hz_value.specs.world.World.{World}
use Rattle.hz_value.specs.system.Acts.{Reply, Normal, Thrown, Returned, Next, next_map}
use Rattle.hz_value.specs.system.Routines.{RoutineActivation, routine_step, routine_answered}

-- how a function of the source is called (ECMA-262, 10.2.1): the callee by its number, and what it closes over
pub record Invocation : Type 0 where
  pub callee : ℕ
  pub closure : Closure
  pub this : Value
  pub arguments : List Value
  pub new_target : Value

-- a meaning of the source's functions, whose activations are A: a step, the reply to an act, the activation of a
-- call, and the place in the source of the statement in hand, or of the function where there is none
pub record Meaning (A : Type 0) : Type 0 where
  pub step : A → World → Next A
  pub answered : A → Reply → A
  pub enter : Invocation → A
  pub statement : A → ℕ

-- why an activation stands on the stack: it is the script; a call; a routine that an activation entered; a
-- generator, by the number of its object, that was resumed
pub data Role : Type 0 where
  Script : Role
  Called : Role
  Entered : Role
  Resumed : (generator : ℕ) → Role

-- an activation on the stack: of a function of the source, or of a routine
pub data Frame (A : Type 0) : Type 0 where
  Source : (role : Role) (activation : A) → Frame A
  Routine : (role : Role) (activation : RoutineActivation) → Frame A

-- a line was printed, or asked for
pub data Event : Type 0 where
  Printed : (line : List ℕ) → Event
  Asked : Event

pub data Ending : Type 0 where
  Done : Ending
  Uncaught : (value : Value) → Ending
  LeftFor : (reason : Left) → Ending
  TurnsSpent : Ending
  BadCode : Ending

-- the frame at the top takes the steps; those below it wait, the script at the bottom
pub data State (A : Type 0) : Type 0 where
  Running : (top : Frame A) (below : List (Frame A)) → State A
  Ended : (ending : Ending) → State A

-- `suspended` are the activations of generators by number: None where one runs or is completed
pub record System (A : Type 0) : Type 0 where
  pub world : World
  pub events : List Event
  pub suspended : List (Option A)
  pub state : State A

-- ---- frames

abbrev pub role_of : {A : Type 0} → Frame A → Role
role_of (Source role a) = role
role_of (Routine role r) = role

-- one step, where this is the place in the source of the statement in hand
abbrev pub frame_step : {A : Type 0} → Meaning A → ℕ → Frame A → World → Next (Frame A)
frame_step m place (Source role a) w = next_map (Source role) (m.step a w)
frame_step m place (Routine role r) w = next_map (Routine role) (routine_step place r w)

abbrev pub answered : {A : Type 0} → Meaning A → Reply → Frame A → Frame A
answered m c (Source role a) = Source role (m.answered a c)
answered m c (Routine role r) = Routine role (routine_answered r c)

-- the statement in hand: that of the innermost activation of a function of the source
abbrev pub statement_in_hand : {A : Type 0} → Meaning A → List (Frame A) → ℕ
statement_in_hand m [] = 0
statement_in_hand m (Source role a ∷ fs) = m.statement a
statement_in_hand m (Routine role r ∷ fs) = statement_in_hand m fs

-- how the run ends where the script does
abbrev pub ending_of : Reply → Ending
ending_of (Normal v) = Done
ending_of (Thrown v) = Uncaught v
ending_of (Returned v) = Done
