-- Examples of the system, accepted by computing: scripts that are lists of acts.
use Rattle.std.proofs.Common.{◌≡◌, ◌≤◌, arith, ℕ, pos, true, List, [], ◌∷◌, ◌++◌, length, codes, refl}
use Rattle.std.specs.Char.{encode_utf8}
use Rattle.std.specs.Char.Utf16.{utf16_chars}
use Rattle.std.specs.Fmt.{digits}
use Rattle.hz_value.specs.declared.leaving.Left.TheVariants.{TooDeep, LongLine}
use Rattle.hz_value.specs.declared.values.Value.TheVariants as value
use Rattle.hz_value.specs.world.World.{World, Line, Units, TooLong}
use Rattle.hz_value.specs.world.Start.{world0, texts0, readline_routine}
use Rattle.hz_value.specs.system.Acts.{Act, Call, Enter, Return, Next, Does}
use Rattle.hz_value.specs.system.System.{Meaning, System, Printed, Asked, Done, LeftFor, TurnsSpent, Ended}
use Rattle.hz_value.specs.system.Lines.{lines, printed}
use Rattle.hz_value.specs.system.Runs.{start, after, world_behind, TakesTurns}
use Rattle.hz_value.specs.world.Descriptions.{describe}

-- one act after the other, whatever comes back; the statement in hand is the number of acts to come
abbrev next_act : List Act → World → Next (List Act)
next_act [] w = Does (Return value.Undefined) [] w
next_act (act ∷ acts) w = Does act acts w

abbrev listed : Meaning (List Act)
listed = record { step = next_act; answered = λ acts c. acts; enter = λ i. []; statement = λ acts. length acts }

-- so many calls are active already
abbrev at_depth : ℕ → World → World
at_depth n w = record w { calls = n }

abbrev begun : List Act → World → System (List Act)
begun acts w = start acts w

-- `1()`
abbrev call_of_number : List Act
call_of_number = Call (value.Num (pos 1)) value.Undefined [] ∷ []

-- `print(7, true)`
abbrev call_of_print : List Act
call_of_print = Call (value.Object 6) value.Undefined (value.Num (pos 7) ∷ value.Bool true ∷ []) ∷ []

prints : (after listed 6 (begun call_of_print (world0 [] 1))).events ≡ Printed (codes "7 true") ∷ []
unfolding digits
prints = refl

ends_well : (after listed 6 (begun call_of_print (world0 [] 1))).state ≡ Ended Done
ends_well = refl

-- the callee is tested first, without a turn
callee_first : (after listed 1 (begun call_of_number (at_depth 10000 (world0 [] 0)))).world.turns ≡ 0
callee_first = refl

-- the turn comes before the depth
turn_second : (after listed 1 (begun call_of_print (at_depth 10000 (world0 [] 0)))).state ≡ Ended TurnsSpent
turn_second = refl

depth_third : (after listed 1 (begun call_of_print (at_depth 10000 (world0 [] 1)))).state ≡ Ended (LeftFor TooDeep)
depth_third = refl

-- `print(print)` has taken its turn before it leaves
object_printed : (after listed 2 (begun (Call (value.Object 6) value.Undefined (value.Object 6 ∷ []) ∷ []) (world0
    [] 1))).world.turns ≡ 0
object_printed = refl

-- the error is an object, whose description is `TypeError: value is not a function`
described : describe (after listed 1 (begun call_of_number (world0 [] 0))).world.store (value.Object 7)
    ≡ codes "TypeError: value is not a function"
described = refl

-- a byte that begins no sequence of UTF-8 is read as U+FFFD; a lone surrogate is printed as that
lines_read : lines (97 ∷ 10 ∷ 255 ∷ 195 ∷ 169 ∷ []) ≡ Units (97 ∷ []) ∷ Units (65533 ∷ 233 ∷ []) ∷ []
lines_read = refl

line_printed : printed (Printed (55296 ∷ 65 ∷ []) ∷ []) ≡ 239 ∷ 191 ∷ 189 ∷ 65 ∷ 10 ∷ []
unfolding utf16_chars encode_utf8
line_printed = refl

-- `readline` is entered twice, with these lines to be read
abbrev reads_twice : List Line → System (List Act)
reads_twice ls = begun (Enter readline_routine [] ∷ Enter readline_routine [] ∷ []) (world0 ls 0)

-- a line is asked for each time, and the text that comes is kept; behind the last line nothing is
lines_asked : (after listed 7 (reads_twice (Units (codes "ab") ∷ []))).events ≡ Asked ∷ Asked ∷ []
lines_asked = refl

line_kept : (after listed 2 (reads_twice (Units (codes "ab") ∷ []))).world.store.texts
    ≡ texts0 ++ codes "ab" ∷ []
line_kept = refl

lines_used : (after listed 7 (reads_twice (Units (codes "ab") ∷ []))).state ≡ Ended Done
lines_used = refl

-- a line that is too long is asked for, too
too_long : (after listed 2 (reads_twice (TooLong ∷ []))).state ≡ Ended (LeftFor LongLine)
too_long = refl

-- it raises no turns
fewer_turns : (acts : List Act) (w : World) → (world_behind (next_act acts w)).turns ≤ w.turns
fewer_turns [] w = omega arith
fewer_turns (act ∷ acts) w = omega arith

takes_turns : TakesTurns listed
takes_turns = record { by = fewer_turns }
