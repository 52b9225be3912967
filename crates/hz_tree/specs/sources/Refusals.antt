-- Why a source is refused, and what its functions are.
use Rattle.std.specs.Prelude.{ℕ, Bool, false, not, ◌||◌, if◌then◌else◌, ◌==◌, nat_lt, List, [], ◌∷◌, length, Option}
use Rattle.std.specs.Prelude.{Some, None}
use Rattle.std.specs.List.{list_any}
use Rattle.std.specs.Str.Lossy.{utf8_valid_len}
use Rattle.hz_tree.specs.declared.outside.BadKind.{BadKind}
use Rattle.hz_tree.specs.declared.outside.BadKind.TheVariants as bad
use Rattle.hz_tree.specs.declared.nonterminal.Nonterminal.TheVariants as n
use Rattle.hz_tree.specs.declared.refusal.Refusal.{Refusal}
use Rattle.hz_tree.specs.declared.refusal.Refusal.TheVariants as refusal
use Rattle.hz_tree.specs.declared.refusal.TheConstants.{MAX_LENGTH}
use Rattle.hz_tree.specs.declared.tree.Tree.{Tree}
use Rattle.hz_tree.specs.tokens.Text.{Text}
use Rattle.hz_tree.specs.grammar.Look.{terminals}
use Rattle.hz_tree.specs.reading.Reading.{Reading, Got, Stuck, Deeper, reads, place_ahead}
use Rattle.hz_tree.specs.declared.index.FunctionInfo.{FunctionInfo}
use Rattle.hz_tree.specs.trees.Functions.{functions_of}
use Rattle.hz_tree.specs.trees.FunctionScopes.{FunctionScopes, function_scopes_of}
use Rattle.hz_tree.specs.errors.Limits.{LimitError, limit_errors}
use Rattle.hz_tree.specs.errors.Scopes.{EarlyError}
use Rattle.hz_tree.specs.errors.Sources.{early_errors, profile_errors}
use Rattle.hz_tree.specs.errors.Targets.{ProfileError, is_use_strict, meaning_of}
use Rattle.hz_tree.specs.sources.EarlyErrors.{order_of_early}
use Rattle.hz_tree.specs.sources.Kinds.{order_of_profile, order_of_limit}
use Rattle.hz_tree.specs.sources.Least.{least_of}

-- ---- refusals

-- the longest source
abbrev pub max_length : ℕ
max_length = MAX_LENGTH

abbrev pub refusal_at : BadKind → (place : ℕ) → Refusal
refusal_at bad.Syntax place = refusal.Syntax place
refusal_at (bad.Outside kind) place = refusal.Outside kind place

-- one of the directives in front of the script says so (11.2.1)
abbrev pub is_strict : Tree → Bool
is_strict script = list_any (λ d. is_use_strict d.written) (meaning_of script).directives

-- the first of these, as far as they are there
abbrev pub first_refusal : Option EarlyError → Option ProfileError → Option LimitError → Option Refusal
first_refusal (Some error) profile limit = Some (refusal.Early error.0 error.1)
first_refusal None (Some error) limit = Some (refusal.Profile error.0 error.1)
first_refusal None None (Some error) = Some (refusal.Limit error.0 error.1)
first_refusal None None None = None

-- what stands against a script that the grammar reads
abbrev pub refusal_in : (strict : Bool) → Tree → Option Refusal
refusal_in strict script =
    if strict || is_strict script then
    first_refusal (least_of order_of_early (early_errors script)) (least_of order_of_profile (profile_errors script))
    (least_of order_of_limit (limit_errors script))
    else Some refusal.Sloppy

abbrev pub refusal_by : (strict : Bool) → Reading Tree → Option Refusal
refusal_by strict (Got tree ts) = refusal_in strict tree
refusal_by strict (Stuck cause ts) = Some (refusal_at cause (place_ahead ts))
refusal_by strict Deeper = None

-- The first of the reasons for which a source is refused. `strict` tells that it is to be read as strict code, whether
-- it says so or not.
unfoldable pub refusal_of : (source : Text) → (strict : Bool) → Option Refusal
refusal_of source strict =
    if nat_lt max_length (length source) then Some refusal.TooLong
    else (if not (utf8_valid_len source == length source) then Some (refusal.NotUtf8 (utf8_valid_len source))
    else refusal_by strict (reads n.Script (terminals source)))

-- ---- functions

abbrev pub functions_by : Text → Reading Tree → List FunctionInfo
functions_by source (Got tree ts) = functions_of source tree
functions_by source _ = []

-- the functions of a source that is not refused
unfoldable pub functions : Text → List FunctionInfo
functions source = functions_by source (reads n.Script (terminals source))

abbrev pub function_scopes_by : Text → Reading Tree → List FunctionScopes
function_scopes_by source (Got tree ts) = function_scopes_of source tree
function_scopes_by source _ = []

-- and their scopes and free names, in the same order
unfoldable pub function_scopes : Text → List FunctionScopes
function_scopes source = function_scopes_by source (reads n.Script (terminals source))

-- a source that is not refused, read as strict code where `strict` is true
pub record Accepted : Type 0 where
  pub source : Text
  pub strict : Bool
