-- Where `this` and `new.target` stand in no function but arrows, told by the events of a source (ECMA-262, 8.5.1 and
-- 16.1.1).
use Rattle.std.specs.Prelude.{ℕ, Bool, true, false, ◌||◌, if◌then◌else◌, List, [], ◌∷◌, drop, Option, None}
use Rattle.hz_tree.specs.declared.early.EarlyKind.{EarlyKind}
use Rattle.hz_tree.specs.declared.early.EarlyKind.TheVariants as early
use Rattle.hz_tree.specs.declared.profile.ProfileKind.{ProfileKind}
use Rattle.hz_tree.specs.declared.profile.ProfileKind.TheVariants as profile
use Rattle.hz_tree.specs.declared.signal.Signal.TheVariants as tell
use Rattle.hz_tree.specs.declared.tree.FunctionKind.{FunctionKind}
use Rattle.hz_tree.specs.declared.tree.FunctionKind.TheVariants as kind
use Rattle.hz_tree.specs.sources.EarlyErrors.{order_of_early}
use Rattle.hz_tree.specs.sources.Kinds.{order_of_profile}
use Rattle.hz_tree.specs.grammar.Signals.{Event, Placed}
use Rattle.hz_errors.specs.Found.{noted}

pub record Receiving : Type 0 where
  -- For each function that has not ended, the innermost first: whether it or one round it is no arrow.
  pub opened : List Bool
  pub early : Option (EarlyKind × ℕ)
  pub profile : Option (ProfileKind × ℕ)

abbrev pub is_no_arrow : FunctionKind → Bool
is_no_arrow kind.Arrow = false
is_no_arrow _ = true

-- whether `this` and `new.target` mean those of a function here
abbrev pub is_received : List Bool → Bool
is_received [] = false
is_received (received ∷ outer) = received

abbrev pub opens : FunctionKind → Receiving → Receiving
opens kind r = record r { opened = (is_no_arrow kind || is_received r.opened) ∷ r.opened }

abbrev pub closes : Receiving → Receiving
closes r = record r { opened = drop 1 r.opened }

abbrev pub finds_this : (at : ℕ) → Receiving → Receiving
finds_this at r =
    record r {
      profile =
          if is_received r.opened then r.profile else noted order_of_profile ((profile.ScriptThis, at) ∷ []) r.profile;
    }

abbrev pub finds_target : (at : ℕ) → Receiving → Receiving
finds_target at r =
    record r {
      early = if is_received r.opened then r.early else noted order_of_early ((early.NewTarget, at) ∷ []) r.early;
    }

abbrev pub happens : Receiving → Event → Receiving
happens r (Placed (tell.Open node kind) at) = opens kind r
happens r (Placed tell.Close end) = closes r
happens r (Placed tell.This at) = finds_this at r
happens r (Placed tell.NewTarget at) = finds_target at r
happens r _ = r

abbrev pub after : Receiving → List Event → Receiving
after r [] = r
after r (e ∷ more) = after (happens r e) more

-- no function is open, and nothing is found
abbrev pub begun : Receiving
begun = record { opened = []; early = None; profile = None }
