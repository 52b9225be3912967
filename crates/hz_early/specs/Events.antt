-- What a list of events tells: the scopes that are open behind it, and its errors.
use Rattle.std.specs.Prelude.{ℕ, List, [], ◌∷◌, ◌++◌, drop, Option, None}
use Rattle.hz_tree.specs.declared.scope.BindingKind.{BindingKind}
use Rattle.hz_tree.specs.declared.scope.ScopeKind.{ScopeKind}
use Rattle.hz_tree.specs.sources.EarlyErrors.{order_of_early}
use Rattle.hz_tree.specs.sources.Least.{lesser, least_of}
use Rattle.hz_tree.specs.tokens.Text.{Text}
use Rattle.hz_early.specs.declared.event.ScopeEvent.{ScopeEvent}
use Rattle.hz_early.specs.declared.event.ScopeEvent.TheVariants as event
use Rattle.hz_tree.specs.errors.Scopes.{Scope, empty_scope, declared, errors_of_name, EarlyError, errors_at}

-- What is known at a place of a source: the scopes that are open, the innermost first, and the least error so far.
pub record Known : Type 0 where
  pub scopes : List Scope
  pub least : Option EarlyError

abbrev pub nothing_known : Known
nothing_known = record { scopes = []; least = None }

abbrev pub opened : ScopeKind → Known → Known
opened kind k = record k { scopes = empty_scope kind ∷ k.scopes }

-- where no scope is open, none ends
abbrev pub closed : Known → Known
closed k = record k { scopes = drop 1 k.scopes }

abbrev pub with_errors : List EarlyError → Known → Known
with_errors errors k = record k { least = lesser order_of_early k.least (least_of order_of_early errors) }

-- a name is declared at a place
abbrev pub with_declaration : BindingKind → Text → ℕ → Known → Known
with_declaration kind name at k =
    with_errors (errors_at at (errors_of_name kind name k.scopes))
    (record k { scopes = declared kind name k.scopes })

abbrev pub happens : Known → ScopeEvent → Known
happens k (event.Open kind) = opened kind k
happens k event.Close = closed k
happens k (event.Declare kind name at) = with_declaration kind name.now at k
happens k (event.Found kind at) = with_errors ((kind, at) ∷ []) k

abbrev pub known_from : Known → List ScopeEvent → Known
known_from k [] = k
known_from k (e ∷ more) = known_from (happens k e) more

abbrev pub known_behind : List ScopeEvent → Known
known_behind events = known_from nothing_known events

-- the errors that an event tells where these scopes are open
abbrev pub errors_told : List Scope → ScopeEvent → List EarlyError
errors_told scopes (event.Open kind) = []
errors_told scopes event.Close = []
errors_told scopes (event.Declare kind name at) = errors_at at (errors_of_name kind name.now scopes)
errors_told scopes (event.Found kind at) = (kind, at) ∷ []

abbrev pub errors_from : Known → List ScopeEvent → List EarlyError
errors_from k [] = []
errors_from k (e ∷ more) = errors_told k.scopes e ++ errors_from (happens k e) more

-- all errors of the events, one after the other
abbrev pub errors_of : List ScopeEvent → List EarlyError
errors_of events = errors_from nothing_known events
