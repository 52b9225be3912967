-- What is declared at a site, and which of it is the script's.
use Rattle.std.proofs.Common.{◌≡◌, ℕ, Bool, true, false, ◌&&◌, ◌||◌, List, [], ◌∷◌, ◌++◌, map, refl, ap}
use Rattle.hz_tree.specs.declared.profile.ProfileKind.TheVariants as profile
use Rattle.hz_tree.specs.declared.scope.BindingKind.{BindingKind}
use Rattle.hz_tree.specs.declared.scope.BindingKind.TheVariants as binding
use Rattle.hz_tree.specs.tokens.Text.{Text}
use Rattle.hz_tree.specs.errors.Declarations.{Declaration, is_var, vars_of}
use Rattle.hz_tree.specs.errors.Sources.{is_fixed_global, global_errors}
use Rattle.hz_errors.specs.declared.declarations.Site.{Site}
use Rattle.hz_errors.specs.Declarations.{declared_at, of_script}
use Rattle.hz_errors.proofs.ScopeLemmas.{one_more}

pub of_script_append : (site : Site) (ds es : List Declaration)
    → of_script site (ds ++ es) ≡ of_script site ds ++ of_script site es
of_script_append site [] es = refl
of_script_append site (d ∷ ds) es =
    one_more (site.of_script && (site.holds_vars || is_var d.binding)) d (of_script site (ds ++ es))
    (of_script site ds) (of_script site es) (of_script_append site ds es)

pub globals_append : (ds es : List Declaration) → global_errors (ds ++ es) ≡ global_errors ds ++ global_errors es
globals_append [] es = refl
globals_append (d ∷ ds) es =
    one_more (is_fixed_global d.name) (profile.GlobalName, d.at) (global_errors (ds ++ es)) (global_errors ds)
    (global_errors es) (globals_append ds es)

-- ---- a scope within a function

abbrev pub within : Bool → Site
within of_script = record { holds_vars = false; of_script = of_script }

pub declared_within : (g : Bool) (ds : List Declaration) → map (declared_at (within g)) ds ≡ ds
declared_within g [] = refl
declared_within g (d ∷ ds) = ap (λ x. d ∷ x) (declared_within g ds)

var_step : (kind : BindingKind) (name : Text) (at : ℕ) (h g : Bool) (ds : List Declaration)
    → map (declared_at (record { holds_vars = h; of_script = g })) (vars_of ds) ≡ vars_of ds
    → map (declared_at (record { holds_vars = h; of_script = g }))
    (vars_of (record { binding = kind; name = name; at = at } ∷ ds))
    ≡ vars_of (record { binding = kind; name = name; at = at } ∷ ds)
var_step binding.Var name at true g ds is = ap (λ x. record { binding = binding.Var; name = name; at = at } ∷ x) is
var_step binding.Var name at false g ds is = ap (λ x. record { binding = binding.Var; name = name; at = at } ∷ x) is
var_step _ name at h g ds is = is

pub declared_vars : (site : Site) (ds : List Declaration) → map (declared_at site) (vars_of ds) ≡ vars_of ds
declared_vars site [] = refl
declared_vars site (d ∷ ds) =
    var_step d.binding d.name d.at site.holds_vars site.of_script ds (declared_vars site ds)

inner_step : (kind : BindingKind) (name : Text) (at : ℕ) (h g : Bool) (ds : List Declaration)
    → of_script (within g) ds ≡ of_script (record { holds_vars = h; of_script = g }) (vars_of ds)
    → of_script (within g) (record { binding = kind; name = name; at = at } ∷ ds)
    ≡ of_script (record { holds_vars = h; of_script = g })
    (vars_of (record { binding = kind; name = name; at = at } ∷ ds))
inner_step binding.Var name at true true ds is = ap (λ x. record { binding = binding.Var; name = name; at = at } ∷ x) is
inner_step binding.Var name at false true ds is =
    ap (λ x. record { binding = binding.Var; name = name; at = at } ∷ x) is
inner_step binding.Var name at h false ds is = is
inner_step _ name at h true ds is = is
inner_step _ name at h false ds is = is

-- what goes on outwards is the script's where it was so within
pub inner_globals : (site : Site) (ds : List Declaration)
    → of_script (within site.of_script) ds ≡ of_script site (vars_of ds)
inner_globals site [] = refl
inner_globals site (d ∷ ds) =
    inner_step d.binding d.name d.at site.holds_vars site.of_script ds (inner_globals site ds)

-- nothing in a function is the script's
pub function_globals : (ds : List Declaration) → of_script (record { holds_vars = true; of_script = false }) ds ≡ []
function_globals [] = refl
function_globals (d ∷ ds) = function_globals ds
