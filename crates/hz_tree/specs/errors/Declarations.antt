-- What the parts of a tree declare, and the errors of declarations (ECMA-262, 8.2 and 13 to 16).
use Rattle.std.specs.Prelude.{ℕ, Bool, true, false, ◌||◌, if◌then◌else◌, List, [], ◌∷◌, ◌++◌, map, codes, Option}
use Rattle.std.specs.Prelude.{Some, None}
use Rattle.std.specs.Str.{bytes_eq}
use Rattle.hz_tree.specs.declared.early.EarlyKind.TheVariants as early
use Rattle.hz_tree.specs.declared.operator.DeclarationWord.{DeclarationWord}
use Rattle.hz_tree.specs.declared.operator.DeclarationWord.TheVariants as word
use Rattle.hz_tree.specs.declared.scope.BindingKind.{BindingKind}
use Rattle.hz_tree.specs.declared.scope.BindingKind.TheVariants as binding
use Rattle.hz_tree.specs.declared.scope.ScopeKind.{ScopeKind}
use Rattle.hz_tree.specs.declared.scope.ScopeKind.TheVariants as scope
use Rattle.hz_tree.specs.declared.tree.Bound.{Bound}
use Rattle.hz_tree.specs.declared.tree.FunctionForm.{FunctionForm}
use Rattle.hz_tree.specs.declared.tree.FunctionForm.TheVariants as form
use Rattle.hz_tree.specs.declared.tree.Rest.{Rest}
use Rattle.hz_tree.specs.declared.tree.Tree.{Tree, fold-Tree}
use Rattle.hz_tree.specs.declared.tree.Tree.TheOpen.{Tree-F}
use Rattle.hz_tree.specs.tokens.Text.{Text}
use Rattle.hz_tree.specs.trees.Places.{node, optional}
use Rattle.hz_tree.specs.errors.Scopes.{Scope, empty_scope, declared, errors_of_name, EarlyError, errors_at}

-- ---- declarations

-- A function declaration is written as one of a block; at the top of a function or of the script it is a var.
pub record Declaration : Type 0 where
  pub binding : BindingKind
  pub name : Text
  pub at : ℕ

abbrev pub declares : BindingKind → Bound → Declaration
declares binding bound = record { binding = binding; name = bound.name; at = bound.at }

abbrev pub word_binding : DeclarationWord → BindingKind
word_binding word.Var = binding.Var
word_binding word.Let = binding.Let
word_binding word.Const = binding.Const

-- TopLevelLexicallyDeclaredNames and TopLevelVarDeclaredNames (8.2.8, 8.2.10)
abbrev pub at_top : Declaration → Declaration
at_top d = record d { binding = elim d.binding [ binding.BlockFunction ↦ binding.Var | other ↦ other ] }

abbrev pub is_var : BindingKind → Bool
is_var binding.Var = true
is_var _ = false

-- The errors of one scope: each name is tested against those declared before it, and the error stands at the later one.
abbrev pub scope_errors : List Scope → List Declaration → List EarlyError
scope_errors scope [] = []
scope_errors scope (d ∷ more) =
    errors_at d.at (errors_of_name d.binding d.name scope) ++ scope_errors (declared d.binding d.name scope) more

-- ---- names that may not be bound (13.1.1)

abbrev pub is_eval : Text → Bool
is_eval name = bytes_eq (codes "eval") name || bytes_eq (codes "arguments") name

abbrev pub bound_errors : Bound → List EarlyError
bound_errors bound = if is_eval bound.name then (early.EvalOrArguments, bound.at) ∷ [] else []

abbrev pub all_bound : List Bound → List EarlyError
all_bound [] = []
all_bound (bound ∷ more) = bound_errors bound ++ all_bound more

-- ---- trees

-- what a tree declares in the scope that holds it, and the errors in it
pub record Declaring : Type 0 where
  pub declarations : List Declaration
  pub errors : List EarlyError

abbrev pub none_declared : Declaring
none_declared = record { declarations = []; errors = [] }

abbrev pub together : Declaring → Declaring → Declaring
together first second = record {
  declarations = first.declarations ++ second.declarations;
  errors = first.errors ++ second.errors;
}

abbrev pub all_together : List Declaring → Declaring
all_together [] = none_declared
all_together (first ∷ more) = together first (all_together more)

abbrev pub declaring : List Declaration → List EarlyError → Declaring
declaring ds errors = record { declarations = ds; errors = errors }

-- a var goes on outwards (8.2.6)
abbrev pub vars_of : List Declaration → List Declaration
vars_of [] = []
vars_of (d ∷ more) = if is_var d.binding then d ∷ vars_of more else vars_of more

-- a scope within a function, where these names are declared first
abbrev pub in_scope : ScopeKind → List Declaration → Declaring → Declaring
in_scope kind first within =
    declaring (vars_of within.declarations)
    (within.errors ++ scope_errors (empty_scope kind ∷ []) (first ++ within.declarations))

-- the scope of a function or of the script
abbrev pub in_top : ScopeKind → List Declaration → Declaring → Declaring
in_top kind first within =
    declaring [] (within.errors ++ scope_errors (empty_scope kind ∷ []) (first ++ map at_top within.declarations))

abbrev pub bound_list : Option Bound → List Bound
bound_list name = optional name

abbrev pub rest_bound : Option Rest → List Bound
rest_bound None = []
rest_bound (Some rest) = rest.bound ∷ []

abbrev pub form_bound : FunctionForm → List Bound
form_bound (form.Declaration bound) = bound ∷ []
form_bound (form.Expression name) = bound_list name
form_bound form.Arrow = []
form_bound form.Method = []

-- a function declaration declares its name where it stands
abbrev pub form_declares : FunctionForm → List Declaration
form_declares (form.Declaration bound) = declares binding.BlockFunction bound ∷ []
form_declares _ = []

abbrev pub declaring_function : FunctionForm → (parameters : List Bound) → (body : Declaring) → Declaring
declaring_function form parameters body =
    together (declaring (form_declares form) (all_bound (form_bound form ++ parameters)))
    (in_top scope.Function (map (declares binding.Parameter) parameters) body)

-- a `const` has a value (14.3.1.1)
abbrev pub value_errors : DeclarationWord → Text → (at : ℕ) → (value : List Declaring) → List EarlyError
value_errors word.Const name at [] = (early.ConstWithoutValue, at) ∷ []
value_errors declared name at value = []

abbrev pub bind : DeclarationWord → Bound → Declaring
bind declared bound = declaring (declares (word_binding declared) bound ∷ []) (bound_errors bound)

-- the scope of a `for` with `let` or `const` (14.7.4.1, 14.7.5.1)
abbrev pub in_for : (end : Option ℕ) → Declaring → Declaring
in_for None within = within
in_for (Some end) within = in_scope scope.Block [] within

abbrev pub declaring_layer : Tree-F Declaring → Declaring
declaring_layer (Tree-F.Script at items) = in_top scope.Script [] (all_together items)
declaring_layer (Tree-F.Function at end form kind parameters rest body) =
    declaring_function form (parameters ++ rest_bound rest) body
declaring_layer (Tree-F.Bind at declared name value) =
    together (bind declared (record { at = at; name = name }))
    (together (declaring [] (value_errors declared name at (optional value))) (all_together (optional value)))
declaring_layer (Tree-F.Block at items end) = in_scope scope.Block [] (all_together items)
declaring_layer (Tree-F.Switch at value brace clauses end) = together value (in_scope scope.Block []
    (all_together clauses))
declaring_layer (Tree-F.Catch at bound brace items end) =
    together (declaring [] (all_bound (bound_list bound)))
    (in_scope scope.Catch (map (declares binding.Caught) (bound_list bound)) (all_together items))
declaring_layer (Tree-F.ForDeclared at declared bound iteration over body end) =
    in_for end (together (bind declared bound) (together over body))
declaring_layer (Tree-F.ForBinds at declared binds test update body end) =
    in_for end (all_together (binds ++ (optional test ++ (optional update ++ body ∷ []))))
declaring_layer layer = all_together (node layer).children

unfoldable pub declaring_of : Tree → Declaring
declaring_of = fold-Tree Declaring declaring_layer
