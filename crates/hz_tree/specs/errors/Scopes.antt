-- The scopes that are open at a place of a source, and the errors that a declaration makes there.
-- The first scope of a list is the innermost one.
use Rattle.std.specs.Prelude.{ℕ, Bool, true, false, if◌then◌else◌, List, [], ◌∷◌, ◌++◌, map}
use Rattle.std.specs.List.{list_any}
use Rattle.std.specs.Str.{bytes_eq}
use Rattle.hz_tree.specs.declared.early.EarlyKind.{EarlyKind}
use Rattle.hz_tree.specs.declared.early.EarlyKind.TheVariants as early
use Rattle.hz_tree.specs.declared.scope.BindingKind.{BindingKind}
use Rattle.hz_tree.specs.declared.scope.BindingKind.TheVariants as binding
use Rattle.hz_tree.specs.declared.scope.ScopeKind.{ScopeKind}
use Rattle.hz_tree.specs.declared.scope.ScopeKind.TheVariants as scope
use Rattle.hz_tree.specs.tokens.Text.{Text}

-- What a scope declares so far, in order. The names are ECMA-262's: BoundNames of the parameters and of the catch
-- parameter (8.2.1), LexicallyDeclaredNames (8.2.4) and VarDeclaredNames (8.2.6) of what the scope holds.
pub record Scope : Type 0 where
  pub kind : ScopeKind
  pub parameters : List Text
  pub caught : List Text
  pub lexical : List Text
  pub vars : List Text

abbrev pub empty_scope : ScopeKind → Scope
empty_scope kind = record { kind = kind; parameters = []; caught = []; lexical = []; vars = [] }

-- Whether vars go no further out: VarDeclaredNames of a function is empty where it stands (8.2.6).
abbrev pub holds_vars : ScopeKind → Bool
holds_vars scope.Script = true
holds_vars scope.Function = true
holds_vars scope.Own = false
holds_vars scope.Block = false
holds_vars scope.Catch = false

-- the scopes that a var in the innermost one belongs to: all from there out to its function's
abbrev pub scopes_of_var : List Scope → List Scope
scopes_of_var [] = []
scopes_of_var (s ∷ outer) = s ∷ (if holds_vars s.kind then [] else scopes_of_var outer)

abbrev pub with_var : Text → List Scope → List Scope
with_var name [] = []
with_var name (s ∷ outer) =
    record s { vars = s.vars ++ name ∷ [] } ∷ (if holds_vars s.kind then outer else with_var name outer)

abbrev pub with_lexical : Text → List Scope → List Scope
with_lexical name [] = []
with_lexical name (s ∷ outer) = record s { lexical = s.lexical ++ name ∷ [] } ∷ outer

abbrev pub with_parameter : Text → List Scope → List Scope
with_parameter name [] = []
with_parameter name (s ∷ outer) = record s { parameters = s.parameters ++ name ∷ [] } ∷ outer

abbrev pub with_caught : Text → List Scope → List Scope
with_caught name [] = []
with_caught name (s ∷ outer) = record s { caught = s.caught ++ name ∷ [] } ∷ outer

-- the scopes with one name more, which is declared in the innermost one
abbrev pub declared : BindingKind → Text → List Scope → List Scope
declared binding.Var name scopes = with_var name scopes
declared binding.Let name scopes = with_lexical name scopes
declared binding.Const name scopes = with_lexical name scopes
declared binding.BlockFunction name scopes = with_lexical name scopes
declared binding.Parameter name scopes = with_parameter name scopes
declared binding.Caught name scopes = with_caught name scopes
declared binding.Own name scopes = scopes
declared binding.Activation name scopes = scopes

abbrev pub occurs : Text → List Text → Bool
occurs name names = list_any (λ other. bytes_eq other name) names

abbrev pub error_if : Bool → EarlyKind → List EarlyKind
error_if test kind = if test then kind ∷ [] else []

-- A var is no lexical name (14.2.1, 14.12.1, 15.2.1, 16.1.1) and no name of a catch (14.15.1) of any scope that it
-- belongs to.
abbrev pub var_errors : Text → List Scope → List EarlyKind
var_errors name scopes =
    let belongs = scopes_of_var scopes in
    error_if (list_any (λ s. occurs name s.lexical) belongs) early.LexicalVarClash
    ++ error_if (list_any (λ s. occurs name s.caught) belongs) early.CatchClash

-- A lexical name is no other lexical name, no var, no parameter and no name of a catch of its scope, by the same
-- sections.
abbrev pub lexical_errors : Text → List Scope → List EarlyKind
lexical_errors name [] = []
lexical_errors name (s ∷ outer) =
    error_if (occurs name s.lexical) early.DuplicateLexical
    ++ (error_if (occurs name s.vars) early.LexicalVarClash
    ++ (error_if (occurs name s.parameters) early.ParameterClash
    ++ error_if (occurs name s.caught) early.CatchClash))

-- a parameter is no other parameter (15.1.1)
abbrev pub parameter_errors : Text → List Scope → List EarlyKind
parameter_errors name [] = []
parameter_errors name (s ∷ outer) = error_if (occurs name s.parameters) early.DuplicateParameter

-- a name of a catch is no other one of it (14.15.1)
abbrev pub caught_errors : Text → List Scope → List EarlyKind
caught_errors name [] = []
caught_errors name (s ∷ outer) = error_if (occurs name s.caught) early.DuplicateLexical

-- The errors of a declaration in the innermost scope, against what was declared before it.
abbrev pub errors_of_name : BindingKind → Text → List Scope → List EarlyKind
errors_of_name binding.Var name scopes = var_errors name scopes
errors_of_name binding.Let name scopes = lexical_errors name scopes
errors_of_name binding.Const name scopes = lexical_errors name scopes
errors_of_name binding.BlockFunction name scopes = lexical_errors name scopes
errors_of_name binding.Parameter name scopes = parameter_errors name scopes
errors_of_name binding.Caught name scopes = caught_errors name scopes
errors_of_name binding.Own name scopes = []
errors_of_name binding.Activation name scopes = []

-- an early error, and its place
abbrev pub EarlyError : Type 0
EarlyError = EarlyKind × ℕ

-- the errors of a declaration stand where it does
abbrev pub errors_at : ℕ → List EarlyKind → List EarlyError
errors_at at kinds = map (λ kind. (kind, at)) kinds
