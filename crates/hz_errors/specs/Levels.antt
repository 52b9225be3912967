-- How deep nodes nest, and how many parameters and arguments stand in a list, as the events of a source tell it.
use Rattle.std.specs.Prelude.{ℕ, ◌+◌, Bool, false, ◌==◌, min, if◌then◌else◌, List, [], ◌∷◌, drop, Option, Some, None}
use Rattle.hz_tree.specs.declared.limit.LimitKind.{LimitKind}
use Rattle.hz_tree.specs.declared.limit.LimitKind.TheVariants as limit
use Rattle.hz_tree.specs.declared.signal.Role.TheVariants as role
use Rattle.hz_tree.specs.declared.signal.Signal.TheVariants as tell
use Rattle.hz_tree.specs.errors.Limits.{LimitError, least_each, max_listed, deeper}
use Rattle.hz_tree.specs.grammar.Signals.{Event, Plain, Placed, Named, Written}
use Rattle.hz_tree.specs.sources.Kinds.{order_of_limit}
use Rattle.hz_errors.specs.Found.{noted}

-- A node in hand, or an operand or a part that is complete until a node takes it in.
pub record Entry : Type 0 where
  pub at : ℕ
  pub levels : List ℕ  -- the least place of a node on each level of it, the outermost first

pub record State : Type 0 where
  pub entries : List Entry  -- the innermost first
  pub counts : List ℕ  -- of the parameters and arguments in each list that is open, the innermost first
  pub least : Option LimitError

-- the least place on each level of the uppermost entry
abbrev pub top_levels : List Entry → List ℕ
top_levels [] = []
top_levels (entry ∷ below) = entry.levels

-- ---- entries

abbrev pub pushed : (at : ℕ) → List ℕ → State → State
pushed at levels s = record s { entries = record { at = at; levels = levels } ∷ s.entries }

-- with these levels in the uppermost entry
abbrev pub with_levels : List ℕ → List Entry → List Entry
with_levels levels [] = []
with_levels levels (entry ∷ below) = record entry { levels = least_each entry.levels levels } ∷ below

-- the uppermost entry goes into the one below it
abbrev pub joined_entries : List Entry → List Entry
joined_entries [] = []
joined_entries (entry ∷ below) = with_levels entry.levels below

abbrev pub joined : State → State
joined s = record s { entries = joined_entries s.entries }

-- the uppermost entry is one node more, at its place
abbrev pub node_entries : List Entry → List Entry
node_entries [] = []
node_entries (entry ∷ below) = record entry { levels = entry.at ∷ entry.levels } ∷ below

abbrev pub one_node : State → State
one_node s = record s { entries = node_entries s.entries }

-- ---- lists of parameters and of arguments

abbrev pub opened : State → State
opened s = record s { counts = 0 ∷ s.counts }

abbrev pub closed : State → State
closed s = record s { counts = drop 1 s.counts }

-- the next one in the innermost list is the first that is too many
abbrev pub is_full : (counts : List ℕ) → Bool
is_full [] = false
is_full (count ∷ outer) = count == max_listed

-- the error of the next one, at its place
abbrev pub count_errors : LimitKind → (at : ℕ) → (counts : List ℕ) → List LimitError
count_errors kind at counts = if is_full counts then (kind, at) ∷ [] else []

-- one more; past 255 nothing is counted
abbrev pub more_counts : (counts : List ℕ) → List ℕ
more_counts [] = []
more_counts (count ∷ outer) = min (count + 1) 255 ∷ outer

-- the innermost list has one more, at this place
abbrev pub counted : LimitKind → (at : ℕ) → State → State
counted kind at s =
    record s { counts = more_counts s.counts; least = noted order_of_limit (count_errors kind at s.counts) s.least }

abbrev pub top_place : List Entry → Option ℕ
top_place [] = None
top_place (entry ∷ below) = Some entry.at

-- the uppermost entry is one more argument, at its place
abbrev pub argument_at : (place : Option ℕ) → State → State
argument_at None s = s
argument_at (Some at) s = counted limit.Arguments at s

-- ---- events

abbrev pub happens : State → Event → State
happens s (Placed (tell.Begin kind) at) = pushed at [] s
happens s (Placed (tell.Open node kind) at) = opened (pushed at [] s)
happens s (Placed tell.This at) = pushed at (at ∷ []) s
happens s (Placed tell.NewTarget at) = pushed at (at ∷ []) s
happens s (Placed tell.Literal at) = pushed at (at ∷ []) s
happens s (Placed tell.Octal at) = pushed at (at ∷ []) s
happens s (Placed tell.Rest at) = counted limit.Parameters at s
happens s (Placed tell.Close end) = closed s
happens s (Named tell.Name at name) = pushed at (at ∷ []) s
happens s (Named (tell.Declare role.Parameter) at name) = counted limit.Parameters at s
happens s (Written tell.Text at text octal) = pushed at (at ∷ []) s
happens s (Plain (tell.End kind)) = joined (one_node s)
happens s (Plain tell.Join) = joined s
happens s (Plain (tell.Node shape)) = one_node s
happens s (Plain tell.Parentheses) = one_node (joined s)
happens s (Plain tell.Arguments) = opened s
happens s (Plain tell.Argument) = joined (argument_at (top_place s.entries) s)
happens s (Plain tell.Call) = closed s
happens s _ = s

abbrev pub after : State → List Event → State
after s [] = s
after s (e ∷ more) = after (happens s e) more

abbrev pub begun : State
begun = record { entries = []; counts = []; least = None }

-- The least error, at the end of a source too, where the uppermost entry is the script.
abbrev pub least_in : State → Option LimitError
least_in s = noted order_of_limit (deeper (top_levels s.entries)) s.least
