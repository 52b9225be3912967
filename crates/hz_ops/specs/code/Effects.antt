-- What a row does behind the tests of its operands. `next` is the place behind its instruction.
use Rattle.std.specs.Prelude.{ℕ, ℤ, pos, negsuc, ◌+ℤ◌, Bool, true, false, nat_lt, if◌then◌else◌, Option, Some, None}
use Rattle.hz_value.specs.declared.values.Value.{Value}
use Rattle.hz_value.specs.operators.Messages.{Message}
use Rattle.hz_value.specs.operators.Contents.{Content, Undefined, Null, Boolean}
use Rattle.hz_value.specs.operators.Computed.{Computed, Gives, and_then}
use Rattle.hz_value.specs.world.Errors.{new_error}
use Rattle.hz_value.specs.world.Globals.{Globals}
use Rattle.hz_value.specs.world.World.{World, kept_to, marked, raised}
use Rattle.hz_value.specs.system.Acts.{Next, Goes, Does, Throw, Bad, take_turn, computed_to}
use Rattle.hz_ops.specs.declared.held.Held.{Held}
use Rattle.hz_ops.specs.declared.held.Held.TheVariants as held
use Rattle.hz_ops.specs.code.Activations.{Activation, at, written}

-- code tells no statement that is in hand
abbrev pub no_statement : ℕ
no_statement = 0

abbrev pub is_bad : Activation → World → Next Activation
is_bad a w = Does Bad a w

-- goes on with what the operands stand for, where they pass their tests
abbrev pub tested_to : {T : Type 0} → Activation → World → Option T → (T → Next Activation) → Next Activation
tested_to a w None go = is_bad a w
tested_to a w (Some x) go = go x

-- an error of the engine is made and thrown
abbrev pub raises : Activation → World → Message → Next Activation
raises a w m = Does (Throw (new_error w.store)) a (raised no_statement m w)

-- a value is thrown
abbrev pub throws : Activation → World → Value → Next Activation
throws a w v = Does (Throw v) a (marked no_statement w)

-- goes on behind the instruction
abbrev pub passes : ℕ → Activation → World → Next Activation
passes next a w = Goes (at next a) w

-- register r gets what is held
abbrev pub puts : ℕ → Activation → World → ℕ → Held → Next Activation
puts next a w r h = Goes (written next r h a) w

abbrev pub puts_value : ℕ → Activation → World → ℕ → Value → Next Activation
puts_value next a w r v = puts next a w r (held.Value v)

-- register r gets the value that is so, in the world that keeps it
abbrev pub puts_content : ℕ → Activation → World → ℕ → Content → Next Activation
puts_content next a w r c = kept_to w (λ v w1. puts_value next a w1 r v) c

-- what follows on a result, where it is no error and no reason to leave
abbrev pub result_to : {T : Type 0} → Activation → World → Computed T → (T → Next Activation) → Next Activation
result_to a w found go = computed_to a w go (raises a w) found

-- register r gets the result, as it is or in the world that keeps it
abbrev pub gives_value : ℕ → Activation → World → ℕ → Computed Value → Next Activation
gives_value next a w r found = result_to a w found (puts_value next a w r)

abbrev pub gives : ℕ → Activation → World → ℕ → Computed Content → Next Activation
gives next a w r found = result_to a w found (puts_content next a w r)

-- a comparison as an operator
abbrev pub compared : (Content → Content → Computed Bool) → Content → Content → Computed Content
compared compare u v = and_then (compare u v) (λ b. Gives (Boolean b))

-- the globals are changed, or the name cannot be written
abbrev pub changes_globals : ℕ → Activation → World → Computed Globals → Next Activation
changes_globals next a w found = result_to a w found (λ gs. passes next a (record w { globals = gs }))

-- ---- jumps

-- to a place that is not behind the instruction in hand goes a turn
abbrev pub lands_at : Activation → World → ℕ → Next Activation
lands_at a w place = if nat_lt a.place place then passes place a w else take_turn (at place a) w

-- no place stands before 0
abbrev pub lands : Activation → World → ℤ → Next Activation
lands a w (pos place) = lands_at a w place
lands a w (negsuc n) = is_bad a w

-- a jump counts from the first byte of its instruction
abbrev pub jumps : Activation → World → ℤ → Next Activation
jumps a w way = lands a w (pos a.place +ℤ way)

-- it is tested where it is taken alone
abbrev pub branches : Bool → ℕ → Activation → World → ℤ → Next Activation
branches true next a w way = jumps a w way
branches false next a w way = passes next a w

-- ---- tests

abbrev pub is_nullish : Content → Bool
is_nullish Undefined = true
is_nullish Null = true
is_nullish u = false

abbrev pub is_undefined : Content → Bool
is_undefined Undefined = true
is_undefined u = false
