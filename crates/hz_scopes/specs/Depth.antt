-- How deep functions stand in each other. A function is a node of the tree or a part of one, and nodes nest to a limit,
-- so a source whose functions stand deeper is refused and needs no scopes.
use Rattle.std.specs.Prelude.{ℕ, suc, ◌-◌, Bool, true, ◌&&◌, nat_le, if◌then◌else◌, List, [], ◌∷◌, length, Option}
use Rattle.std.specs.Prelude.{Some, None}
use Rattle.hz_tree.specs.declared.signal.Signal.TheVariants as tell
use Rattle.hz_tree.specs.errors.Limits.{max_depth}
use Rattle.hz_tree.specs.grammar.Signals.{Event, Plain, Placed}
use Rattle.hz_scopes.specs.State.{State, happens}

-- how many functions are open behind an event, the script left out
abbrev pub open_behind : (count : ℕ) → Event → ℕ
open_behind count (Plain tell.Enter) = suc count
open_behind count (Placed tell.Close end) = count - 1
open_behind count event = count

-- no more than the limit are open at a time
abbrev pub is_shallow : (count : ℕ) → List Event → Bool
is_shallow count [] = true
is_shallow count (e ∷ more) = nat_le (open_behind count e) max_depth && is_shallow (open_behind count e) more

-- The state behind an event, or None where functions stand deeper than the limit: from there on nothing is kept.
abbrev pub heard : Option State → Event → Option State
heard None e = None
heard (Some s) e =
    if nat_le (open_behind (length s.known.outer) e) max_depth then Some (happens s e) else None

abbrev pub all_heard : Option State → List Event → Option State
all_heard s [] = s
all_heard s (e ∷ more) = all_heard (heard s e) more
