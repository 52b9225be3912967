-- All errors that the events of a source tell, and the refusal that comes of them.
use Rattle.std.specs.Prelude.{Bool, ◌||◌, if◌then◌else◌, List, [], ◌∷◌, Option, Some}
use Rattle.hz_tree.specs.declared.refusal.Refusal.{Refusal}
use Rattle.hz_tree.specs.declared.refusal.Refusal.TheVariants as refusal
use Rattle.hz_tree.specs.errors.Scopes.{EarlyError}
use Rattle.hz_tree.specs.errors.Targets.{ProfileError}
use Rattle.hz_tree.specs.grammar.Signals.{Event}
use Rattle.hz_tree.specs.sources.EarlyErrors.{order_of_early}
use Rattle.hz_tree.specs.sources.Kinds.{order_of_profile}
use Rattle.hz_tree.specs.sources.Least.{lesser}
use Rattle.hz_tree.specs.sources.Refusals.{first_refusal}
use Rattle.hz_errors.specs.Declarations.{Declared}
use Rattle.hz_errors.specs.Declarations as declarations
use Rattle.hz_errors.specs.Labels.{Labelling}
use Rattle.hz_errors.specs.Labels as labels
use Rattle.hz_errors.specs.Levels as levels
use Rattle.hz_errors.specs.Operands.{Operands, is_strict}
use Rattle.hz_errors.specs.Operands as operands
use Rattle.hz_errors.specs.Receivers.{Receiving}
use Rattle.hz_errors.specs.Receivers as receivers

pub record Errors : Type 0 where
  pub declarations : Declared
  pub labels : Labelling
  pub levels : levels.State
  pub operands : Operands
  pub receivers : Receiving

abbrev pub happens : Errors → Event → Errors
happens s e = record {
  declarations = declarations.happens s.declarations e;
  labels = labels.happens s.labels e;
  levels = levels.happens s.levels e;
  operands = operands.happens s.operands e;
  receivers = receivers.happens s.receivers e;
}

abbrev pub after : Errors → List Event → Errors
after s [] = s
after s (e ∷ more) = after (happens s e) more

abbrev pub begun : Errors
begun = record {
  declarations = declarations.begun;
  labels = labels.begun;
  levels = levels.begun;
  operands = operands.begun;
  receivers = receivers.begun;
}

-- the least early error
abbrev pub early_found : Errors → Option EarlyError
early_found s =
    lesser order_of_early s.declarations.known.least
    (lesser order_of_early s.operands.early (lesser order_of_early s.labels.least s.receivers.early))

-- the first place outside the profile
abbrev pub profile_found : Errors → Option ProfileError
profile_found s =
    lesser order_of_profile s.operands.profile
    (lesser order_of_profile s.receivers.profile s.declarations.profile)

-- the refusal of the script behind all its events
abbrev pub refusal_found : (strict : Bool) → Errors → Option Refusal
refusal_found strict s =
    if strict || is_strict s.operands then
    first_refusal (early_found s) (profile_found s) (levels.least_in s.levels) else Some refusal.Sloppy
