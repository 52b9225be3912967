-- The errors of declarations, and the names that the script may not declare, found from the events of a source.
use Rattle.std.specs.Prelude.{ℕ, true, false, ◌&&◌, ◌||◌, if◌then◌else◌, List, [], ◌∷◌, drop, Option, None}
use Rattle.hz_tree.specs.declared.early.EarlyKind.TheVariants as early
use Rattle.hz_tree.specs.declared.scope.BindingKind.{BindingKind}
use Rattle.hz_tree.specs.declared.scope.BindingKind.TheVariants as binding
use Rattle.hz_tree.specs.declared.scope.ScopeKind.{ScopeKind}
use Rattle.hz_tree.specs.declared.scope.ScopeKind.TheVariants as scope
use Rattle.hz_tree.specs.declared.signal.NodeKind.{NodeKind}
use Rattle.hz_tree.specs.declared.signal.NodeKind.TheVariants as node
use Rattle.hz_tree.specs.declared.signal.Role.{Role}
use Rattle.hz_tree.specs.declared.signal.Role.TheVariants as role
use Rattle.hz_tree.specs.declared.signal.Signal.TheVariants as tell
use Rattle.hz_tree.specs.declared.tree.Bound.{Bound}
use Rattle.hz_tree.specs.grammar.Signals.{Event, Plain, Placed, Named}
use Rattle.hz_tree.specs.sources.Kinds.{order_of_profile}
use Rattle.hz_tree.specs.errors.Declarations.{Declaration, declares, at_top, is_var, word_binding, bound_errors}
use Rattle.hz_tree.specs.errors.Sources.{global_errors}
use Rattle.hz_tree.specs.errors.Targets.{ProfileError}
use Rattle.hz_early.specs.Events.{Known, nothing_known, opened, closed, with_declaration, with_errors}
use Rattle.hz_errors.specs.declared.declarations.Site.{Site}
use Rattle.hz_errors.specs.Found.{noted}

pub record Declared : Type 0 where
  pub sites : List Site  -- one for each scope that is open, the innermost first
  pub known : Known  -- what these scopes declare, and the least early error
  pub bound : ℕ  -- the place of the last name that was bound
  pub profile : Option ProfileError

abbrev pub begun : Declared
begun = record { sites = []; known = nothing_known; bound = 0; profile = None }

-- ---- scopes

abbrev pub nowhere : Site
nowhere = record { holds_vars = false; of_script = false }

abbrev pub innermost : List Site → Site
innermost [] = nowhere
innermost (site ∷ outer) = site

-- a scope of this kind within another one
abbrev pub site_in : ScopeKind → Site → Site
site_in scope.Script site = record { holds_vars = true; of_script = true }
site_in scope.Function site = record { holds_vars = true; of_script = false }
site_in _ site = record { holds_vars = false; of_script = site.of_script }

abbrev pub opens : ScopeKind → Declared → Declared
opens kind d = record d { sites = site_in kind (innermost d.sites) ∷ d.sites; known = opened kind d.known }

abbrev pub closes : Declared → Declared
closes d = record d { sites = drop 1 d.sites; known = closed d.known }

-- The body of a function begins within its scope. Where no scope is open it is the script that begins.
abbrev pub begins : NodeKind → Declared → Declared
begins node.Body d = elim d.sites [ [] ↦ opens scope.Script d | site ∷ outer ↦ d ]
begins _ d = d

-- ---- names

-- A function declaration is written as one of a block (see `at_top`).
abbrev pub binding_of : Role → BindingKind
binding_of (role.Variable word) = word_binding word
binding_of role.Function = binding.BlockFunction
binding_of role.Parameter = binding.Parameter
binding_of role.RestParameter = binding.Parameter
binding_of role.Caught = binding.Caught
binding_of role.Own = binding.Own

abbrev pub declared_at : Site → Declaration → Declaration
declared_at site d = if site.holds_vars then at_top d else d

-- The declarations that are the script's: those in its own scope, and vars where no function is open.
abbrev pub of_script : Site → List Declaration → List Declaration
of_script site [] = []
of_script site (d ∷ more) =
    if site.of_script && (site.holds_vars || is_var d.binding) then d ∷ of_script site more else of_script site more

abbrev pub bind : Bound → Declared → Declared
bind bound d = record d { known = with_errors (bound_errors bound) d.known; bound = bound.at }

abbrev pub globals_noted : Site → List Declaration → Option ProfileError → Option ProfileError
globals_noted site ds profile = noted order_of_profile (global_errors (of_script site ds)) profile

abbrev pub with_name : Declaration → Declared → Declared
with_name x d =
    let site = innermost d.sites in
    let y = declared_at site x in
    record d {
      known = with_declaration y.binding y.name y.at d.known;
      profile = globals_noted site (x ∷ []) d.profile;
    }

-- The own name of a function expression is alone in its scope (15.2.5), so no scope is opened for it.
abbrev pub declare : Role → Bound → Declared → Declared
declare role.Own bound d = bind bound d
declare role bound d = with_name (declares (binding_of role) bound) (bind bound d)

-- the name that was just bound is a `const` without a value (14.3.1.1)
abbrev pub bare : Declared → Declared
bare d = record d { known = with_errors ((early.ConstWithoutValue, d.bound) ∷ []) d.known }

-- ---- events

abbrev pub happens : Declared → Event → Declared
happens d (Placed (tell.Begin kind) at) = begins kind d
happens d (Plain tell.Scope) = opens scope.Block d
happens d (Placed (tell.ScopeHere kind) at) = opens kind d
happens d (Placed tell.EndScope end) = closes d
happens d (Plain tell.Enter) = opens scope.Function d
happens d (Placed tell.Close end) = closes d
happens d (Named (tell.Declare role) at name) = declare role (record { at = at; name = name }) d
happens d (Plain tell.Bare) = bare d
happens d _ = d

abbrev pub after : Declared → List Event → Declared
after d [] = d
after d (e ∷ more) = after (happens d e) more
