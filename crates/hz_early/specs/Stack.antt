-- The open scopes as they are stored: how many names of each sort were declared when a scope was opened.
-- The first scope of a list is the innermost one.
use Rattle.std.specs.Prelude.{◌≡◌, ◌≤◌, if◌then◌else◌, List, [], ◌∷◌, ◌++◌, length, take, drop, Option, Some, None}
use Rattle.hz_tree.specs.declared.early.EarlyKind.{EarlyKind}
use Rattle.hz_tree.specs.declared.early.EarlyKind.TheVariants as early
use Rattle.hz_tree.specs.declared.scope.BindingKind.{BindingKind}
use Rattle.hz_tree.specs.declared.scope.BindingKind.TheVariants as binding
use Rattle.hz_tree.specs.declared.scope.ScopeKind.{ScopeKind}
use Rattle.hz_early.specs.declared.bindings.Bindings.{Bindings}
use Rattle.hz_early.specs.declared.bindings.Marks.{Marks}
use Rattle.hz_early.specs.declared.bindings.OpenScope.{OpenScope}
use Rattle.hz_tree.specs.tokens.Text.{Text}
use Rattle.hz_tree.specs.errors.Scopes.{Scope, holds_vars, occurs, error_if, lexical_errors, parameter_errors}
use Rattle.hz_tree.specs.errors.Scopes.{caught_errors}

-- how many names of each sort there are
abbrev pub marks_of : Bindings → Marks
marks_of names =
    record {
      parameters = length names.parameters;
      caught = length names.caught;
      lexical = length names.lexical;
      vars = length names.vars;
    }

-- what the innermost scope declares
abbrev pub scope_of : OpenScope → Bindings → Scope
scope_of o names =
    record {
      kind = o.kind;
      parameters = drop o.start.parameters names.parameters;
      caught = drop o.start.caught names.caught;
      lexical = drop o.start.lexical names.lexical;
      vars = drop o.start.vars names.vars;
    }

-- What is left when it ends: the vars stay, but where it is its function's.
abbrev pub names_outside : OpenScope → Bindings → Bindings
names_outside o names =
    record {
      parameters = take o.start.parameters names.parameters;
      caught = take o.start.caught names.caught;
      lexical = take o.start.lexical names.lexical;
      vars = if holds_vars o.kind then take o.start.vars names.vars else names.vars;
    }

abbrev pub shown : List OpenScope → Bindings → List Scope
shown [] names = []
shown (o ∷ outer) names = scope_of o names ∷ shown outer (names_outside o names)

-- where the function of a scope starts, or the outermost scope where there is no function
abbrev pub function_start : ScopeKind → Marks → List OpenScope → Marks
function_start kind start [] = start
function_start kind start (o ∷ outer) = if holds_vars kind then start else o.function

pub record IsWithin (a b : Marks) : Type 0 where
  pub parameters : a.parameters ≤ b.parameters
  pub caught : a.caught ≤ b.caught
  pub lexical : a.lexical ≤ b.lexical
  pub vars : a.vars ≤ b.vars

-- the scopes start one behind the other, none behind `end`
abbrev pub AreNested : List OpenScope → Marks → Type 0
AreNested [] end = Unit {0}
AreNested (o ∷ outer) end =
    IsWithin o.start end × (o.function ≡ function_start o.kind o.start outer) × AreNested outer o.start

abbrev pub with_name : BindingKind → Text → Bindings → Bindings
with_name binding.Var name names = record names { vars = names.vars ++ name ∷ [] }
with_name binding.Let name names = record names { lexical = names.lexical ++ name ∷ [] }
with_name binding.Const name names = record names { lexical = names.lexical ++ name ∷ [] }
with_name binding.BlockFunction name names = record names { lexical = names.lexical ++ name ∷ [] }
with_name binding.Parameter name names = record names { parameters = names.parameters ++ name ∷ [] }
with_name binding.Caught name names = record names { caught = names.caught ++ name ∷ [] }
with_name binding.Own name names = names
with_name binding.Activation name names = names

-- the errors of a var: what the scopes that it belongs to declare stands behind the start of its function
abbrev pub stored_var_errors : Text → OpenScope → Bindings → List EarlyKind
stored_var_errors name o names =
    error_if (occurs name (drop o.function.lexical names.lexical)) early.LexicalVarClash
    ++ error_if (occurs name (drop o.function.caught names.caught)) early.CatchClash

abbrev pub stored_errors : BindingKind → Text → OpenScope → Bindings → List EarlyKind
stored_errors binding.Var name o names = stored_var_errors name o names
stored_errors binding.Let name o names = lexical_errors name (scope_of o names ∷ [])
stored_errors binding.Const name o names = lexical_errors name (scope_of o names ∷ [])
stored_errors binding.BlockFunction name o names = lexical_errors name (scope_of o names ∷ [])
stored_errors binding.Parameter name o names = parameter_errors name (scope_of o names ∷ [])
stored_errors binding.Caught name o names = caught_errors name (scope_of o names ∷ [])
stored_errors binding.Own name o names = []
stored_errors binding.Activation name o names = []

abbrev pub first_of : {X : Type 0} → List X → Option X
first_of [] = None
first_of (x ∷ xs) = Some x
