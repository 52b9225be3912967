-- Routines: the steps of built-in functions, and of conversions, operators and accesses to properties that may call
-- functions.
use Rattle.std.specs.Prelude.{ℕ, ◌+◌, ◌==◌, if◌then◌else◌, List, [], map, drop, length, Option, Some, None, slice_get}
use Rattle.std.specs.List.{join_with_byte}
use Rattle.hz_value.specs.declared.values.Value.{Value}
use Rattle.hz_value.specs.declared.values.Value.TheVariants as value
use Rattle.hz_value.specs.operators.Messages.{Message}
use Rattle.hz_value.specs.operators.Computed.{Computed, Gives, Throws, Leaves}
use Rattle.hz_value.specs.operators.Conversions.{to_text}
use Rattle.hz_value.specs.world.Errors.{new_error}
use Rattle.hz_value.specs.world.Start.{print_routine, readline_routine}
use Rattle.hz_value.specs.world.World.{World, content, raised}
use Rattle.hz_value.specs.system.Acts.{Reply, Normal, Thrown, Returned, Act, Return, Throw, Print, WantLine}
use Rattle.hz_value.specs.system.Acts.{Next, Goes, Does, computed_to}

-- the routine by its number, the place in its steps, the values that it works on, and what came back to it last.
-- A built-in function begins with `this` and its arguments
pub record RoutineActivation : Type 0 where
  pub routine : ℕ
  pub place : ℕ
  pub values : List Value
  pub reply : Option Reply

abbrev pub entered : ℕ → List Value → RoutineActivation
entered routine values = record { routine = routine; place = 0; values = values; reply = None }

abbrev pub routine_answered : RoutineActivation → Reply → RoutineActivation
routine_answered r c = record r { reply = Some c }

abbrev pub at_next : RoutineActivation → RoutineActivation
at_next r = record r { place = r.place + 1; reply = None }

-- an error that the routine makes itself, raised at this place of the source
abbrev pub throw_error : ℕ → Message → RoutineActivation → World → Next RoutineActivation
throw_error place m r w = Does (Throw (new_error w.store)) r (raised place m w)

-- ---- print

abbrev pub text_or_empty : Computed (List ℕ) → List ℕ
text_or_empty (Gives t) = t
text_or_empty (Throws m) = []
text_or_empty (Leaves reason) = []

-- the arguments' texts with a space between each two
abbrev pub line_of : World → List Value → List ℕ
line_of w arguments = join_with_byte 32 (map (λ v. text_or_empty (to_text (content w v))) arguments)

-- the argument in hand is converted; behind the last one the line is printed, and then undefined is returned
abbrev pub print_argument : ℕ → RoutineActivation → World → Option Value → Next RoutineActivation
print_argument place r w (Some v) =
    computed_to r w (λ t. Goes (at_next r) w) (λ m. throw_error place m r w) (to_text (content w v))
print_argument place r w None =
    if r.place + 1 == length r.values then Does (Print (line_of w (drop 1 r.values))) (at_next r) w
    else Does (Return value.Undefined) r w

-- from left to right: a conversion that throws prints nothing
abbrev pub print_step : ℕ → RoutineActivation → World → Next RoutineActivation
print_step place r w = print_argument place r w (slice_get (drop 1 r.values) r.place)

-- ---- readline

-- it asks for the next line, and ends with what comes back
abbrev pub line_act : Option Reply → Act
line_act None = WantLine
line_act (Some (Normal v)) = Return v
line_act (Some (Thrown v)) = Throw v
line_act (Some (Returned v)) = Return v

abbrev pub readline_step : RoutineActivation → World → Next RoutineActivation
readline_step r w = Does (line_act r.reply) r w

-- ---- the table

-- one step of a routine, where this is the place in the source of the statement in hand
abbrev pub routine_step : ℕ → RoutineActivation → World → Next RoutineActivation
routine_step place r w =
    if r.routine == print_routine then print_step place r w
    else if r.routine == readline_routine then readline_step r w
    else Does (Return value.Undefined) r w
