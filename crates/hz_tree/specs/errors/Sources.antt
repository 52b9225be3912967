-- All that stands against a source that the grammar reads.
use Rattle.std.specs.Prelude.{Bool, ◌||◌, if◌then◌else◌, List, [], ◌∷◌, ◌++◌, map, codes}
use Rattle.std.specs.Str.{bytes_eq}
use Rattle.hz_tree.specs.declared.early.EarlyKind.TheVariants as early
use Rattle.hz_tree.specs.declared.profile.ProfileKind.TheVariants as profile
use Rattle.hz_tree.specs.declared.tree.Tree.{Tree, out-Tree}
use Rattle.hz_tree.specs.declared.tree.Tree.TheOpen.{Tree-F}
use Rattle.hz_tree.specs.tokens.Text.{Text}
use Rattle.hz_tree.specs.errors.Declarations.{Declaration, declaring_of, all_together}
use Rattle.hz_tree.specs.errors.Scopes.{EarlyError}
use Rattle.hz_tree.specs.errors.Targets.{ProfileError, meaning_of}
use Rattle.hz_tree.specs.errors.Jumps.{jumping_of}
use Rattle.hz_tree.specs.errors.Receivers.{receiving_of}
use Rattle.hz_tree.specs.errors.Limits.{limit_errors}

abbrev pub early_errors : Tree → List EarlyError
early_errors script =
    (declaring_of script).errors ++ ((meaning_of script).errors.early
    ++ ((jumping_of script).errors ++ map (λ at. (early.NewTarget, at)) (receiving_of script).target_at))

-- the globals that no declaration of the script may name
abbrev pub is_fixed_global : Text → Bool
is_fixed_global name =
    bytes_eq (codes "undefined") name || (bytes_eq (codes "NaN") name || bytes_eq (codes "Infinity") name)

abbrev pub global_errors : List Declaration → List ProfileError
global_errors [] = []
global_errors (d ∷ more) =
    if is_fixed_global d.name then (profile.GlobalName, d.at) ∷ global_errors more else global_errors more

abbrev pub script_declarations : Tree-F Tree → List Declaration
script_declarations (Tree-F.Script at items) = (all_together (map declaring_of items)).declarations
script_declarations _ = []

abbrev pub profile_errors : Tree → List ProfileError
profile_errors script =
    (meaning_of script).errors.profile
    ++ (map (λ at. (profile.ScriptThis, at)) (receiving_of script).this_at
    ++ global_errors (script_declarations (out-Tree script)))
