-- The scopes of each function of a tree, with the names that they declare and use, and the names that are free in the
-- function. Scopes nest as environment records do (ECMA-262, 9.1); what they declare are the names of 8.2.
use Rattle.std.specs.Prelude.{ℕ, suc, ◌+◌, Bool, true, false, not, ◌&&◌, if◌then◌else◌, List, [], ◌∷◌, ◌++◌, length}
use Rattle.std.specs.Prelude.{map, codes, Option, Some, None}
use Rattle.std.specs.List.{list_any, filter}
use Rattle.std.specs.Str.{bytes_eq}
use Rattle.hz_tree.specs.declared.operator.DeclarationWord.{DeclarationWord}
use Rattle.hz_tree.specs.declared.operator.DeclarationWord.TheVariants as word
use Rattle.hz_tree.specs.declared.scope.BindingKind.{BindingKind}
use Rattle.hz_tree.specs.declared.scope.BindingKind.TheVariants as binding
use Rattle.hz_tree.specs.declared.scope.ScopeAt.{ScopeAt}
use Rattle.hz_tree.specs.declared.scope.ScopeKind.{ScopeKind}
use Rattle.hz_tree.specs.declared.scope.ScopeKind.TheVariants as scope
use Rattle.hz_tree.specs.declared.tree.Bound.{Bound}
use Rattle.hz_tree.specs.declared.tree.FunctionForm.{FunctionForm}
use Rattle.hz_tree.specs.declared.tree.FunctionForm.TheVariants as form
use Rattle.hz_tree.specs.declared.tree.FunctionKind.{FunctionKind}
use Rattle.hz_tree.specs.declared.tree.FunctionKind.TheVariants as kind
use Rattle.hz_tree.specs.declared.tree.Tree.{Tree, fold-Tree}
use Rattle.hz_tree.specs.declared.tree.Tree.TheOpen.{Tree-F}
use Rattle.hz_tree.specs.errors.Declarations.{word_binding, is_var, rest_bound}
use Rattle.hz_tree.specs.errors.Scopes.{occurs}
use Rattle.hz_tree.specs.tokens.Text.{Text}
use Rattle.hz_tree.specs.trees.Places.{node, optional}

-- a name of a scope: how the scope declares it, or None where it only uses it
pub record ScopeName : Type 0 where
  pub name : Text
  pub binding : Option BindingKind

-- `parent` is the number of the scope round it among those of the same function, counted from 0
pub record Scope : Type 0 where
  pub kind : ScopeKind
  pub start : ℕ
  pub end : ℕ
  pub parent : Option ℕ
  pub names : List ScopeName

-- the scopes in the order of their starts, outer ones first. `around` is the scope in which the function stands, and
-- `binds` tells that it binds `this`, `new.target` and `arguments`
pub record FunctionScopes : Type 0 where
  pub around : Option ScopeAt
  pub binds : Bool
  pub scopes : List Scope
  pub free : List Text

-- ---- names

pub record Declared : Type 0 where
  pub binding : BindingKind
  pub name : Text

-- a name that is used, by a function within or not
pub record Used : Type 0 where
  pub name : Text
  pub inner : Bool

abbrev pub declares_name : Text → List Declared → Bool
declares_name name declared = list_any (λ d. bytes_eq d.name name) declared

-- a name that is declared again keeps its place and its first binding
abbrev pub with_declared : List Declared → Declared → List Declared
with_declared known d = if declares_name d.name known then known else known ++ d ∷ []

abbrev pub each_declared : List Declared → List Declared → List Declared
each_declared known [] = known
each_declared known (d ∷ more) = each_declared (with_declared known d) more

abbrev pub with_name : List Text → Text → List Text
with_name known name = if occurs name known then known else known ++ name ∷ []

abbrev pub each_name : List Text → List Text → List Text
each_name known [] = known
each_name known (name ∷ more) = each_name (with_name known name) more

-- ---- `this`, `new.target` and `arguments`, which a function binds at its activation

abbrev pub this_name : Text
this_name = codes "this"

abbrev pub target_name : Text
target_name = codes "new.target"

abbrev pub activation_names : List Text
activation_names = this_name ∷ target_name ∷ codes "arguments" ∷ []

-- Whether a function binds them. An arrow's are those of the function round it (10.2.1.1, 10.2.11), and so the
-- script's would be.
abbrev pub binds_this : FunctionKind → Bool
binds_this kind.Script = false
binds_this kind.Arrow = false
binds_this other = true

abbrev pub used_within : List Used → Text → Bool
used_within used name = list_any (λ u. u.inner && bytes_eq u.name name) used

-- it declares those that an arrow in it uses
abbrev pub activation : (binds : Bool) → List Used → List Declared
activation false used = []
activation true used =
    map (λ name. record { binding = binding.Activation; name = name }) (filter (used_within used) activation_names)

-- ---- what a scope lists

-- a function that binds `this` and `new.target` does not list them where they are used
abbrev pub is_listed : (binds : Bool) → List Declared → Text → Bool
is_listed binds declared name =
    not (declares_name name declared) && not (binds && occurs name (this_name ∷ target_name ∷ []))

-- the names that it declares, by their first declaration, and then those that are used directly in it
abbrev pub scope_names : (binds : Bool) → List Declared → (here : List Text) → List ScopeName
scope_names binds declared here =
    map (λ d. record { name = d.name; binding = Some d.binding }) declared
    ++ map (λ name. record { name = name; binding = None }) (filter (is_listed binds declared) here)

-- ---- what is said of a tree

-- the scopes in it, where the scope round it has the number `around` and the next one has the number `next`
abbrev pub ScopesIn : Type 0
ScopesIn = (binds : Bool) → (around next : ℕ) → List Scope

-- the functions in it, where it stands in the function with the number `outer`, and the next function has the number
-- `number`
abbrev pub FunctionsIn : Type 0
FunctionsIn = (binds : Bool) → (around next outer number : ℕ) → List FunctionScopes

pub record Scoping : Type 0 where
  pub declared : List Declared  -- what it declares in the scopes round it
  pub here : List Text  -- the names that are used in it, but in no scope or function within
  pub used : List Used  -- the names that are used in it and that no scope or function within declares
  pub scopes : ScopesIn
  pub functions : FunctionsIn

abbrev pub no_scopes : ScopesIn
no_scopes binds around next = []

abbrev pub no_functions : FunctionsIn
no_functions binds around next outer number = []

abbrev pub scopes_both : ScopesIn → ScopesIn → ScopesIn
scopes_both first second binds around next =
    let scopes = first binds around next in scopes ++ second binds around (next + length scopes)

abbrev pub functions_both : ScopesIn → FunctionsIn → FunctionsIn → FunctionsIn
functions_both scopes first second binds around next outer number =
    let functions = first binds around next outer number in
    functions
    ++ second binds around (next + length (scopes binds around next)) outer (number + length functions)

abbrev pub nothing : Scoping
nothing = record { declared = []; here = []; used = []; scopes = no_scopes; functions = no_functions }

abbrev pub both : Scoping → Scoping → Scoping
both first second = record {
  declared = first.declared ++ second.declared;
  here = first.here ++ second.here;
  used = first.used ++ second.used;
  scopes = scopes_both first.scopes second.scopes;
  functions = functions_both first.scopes first.functions second.functions;
}

abbrev pub all_of : List Scoping → Scoping
all_of [] = nothing
all_of (first ∷ more) = both first (all_of more)

-- ---- scopes

abbrev pub is_lexical : Declared → Bool
is_lexical d = not (is_var d.binding)

-- what a scope declares that declares `first` itself
abbrev pub lexical_of : (first : List Declared) → Scoping → List Declared
lexical_of first within = each_declared first (filter is_lexical within.declared)

abbrev pub outside : List Declared → List Used → List Used
outside declared used = filter (λ u. not (declares_name u.name declared)) used

abbrev pub own_scope : ScopeKind → (start end : ℕ) → (declared : List Declared) → Scoping → ScopesIn
own_scope kind start end declared within binds around next = record {
  kind = kind;
  start = start;
  end = end;
  parent = Some around;
  names = scope_names binds declared (each_name [] within.here);
} ∷ within.scopes binds next (suc next)

abbrev pub own_functions : Scoping → FunctionsIn
own_functions within binds around next outer number = within.functions binds next (suc next) outer number

-- A var goes on outwards (8.2.6), and so does a name that the scope does not declare.
abbrev pub in_scope : ScopeKind → (start end : ℕ) → (first : List Declared) → Scoping → Scoping
in_scope kind start end first within = record {
  declared = filter (λ d. is_var d.binding) within.declared;
  here = [];
  used = outside (lexical_of first within) within.used;
  scopes = own_scope kind start end (lexical_of first within) within;
  functions = own_functions within;
}

-- ---- functions

-- a function declaration at the top of a function or of the script is a var (8.2.8, 8.2.10)
abbrev pub at_top : Declared → Declared
at_top d = record d { binding = elim d.binding [ binding.BlockFunction ↦ binding.Var | other ↦ other ] }

-- what the scope of the parameters and the body declares
abbrev pub top_declared : (binds : Bool) → (parameters : List Declared) → Scoping → List Declared
top_declared binds parameters body =
    activation binds body.used ++ each_declared [] (parameters ++ map at_top body.declared)

-- a name that no scope of the function declares, and that it does not bind at its activation
abbrev pub is_free : (binds : Bool) → List Declared → Used → Bool
is_free binds declared u =
    not (declares_name u.name declared) && not (binds && occurs u.name activation_names)

abbrev pub free_names : (binds : Bool) → List Declared → List Used → List Text
free_names binds declared used = each_name [] (map (λ u. u.name) (filter (is_free binds declared) used))

abbrev pub top_scope : ScopeKind → (binds : Bool) → (start end : ℕ) → List Declared → (here : List Text) → Scope
top_scope kind binds start end declared here = record {
  kind = kind;
  start = start;
  end = end;
  parent = None;
  names = scope_names binds declared (each_name [] here);
}

-- the scopes and the free names of a function with these parameters that stands there
abbrev pub scopes_of : ScopeKind → FunctionKind → (start end : ℕ) → (parameters : List Declared) → Scoping
    → Option ScopeAt → FunctionScopes
scopes_of scope kind start end parameters body around =
    let binds = binds_this kind in
    let declared = top_declared binds parameters body in
    record {
      around = around;
      binds = binds;
      scopes = top_scope scope binds start end declared body.here ∷ body.scopes binds 0 1;
      free = free_names binds declared body.used;
    }

-- a function and those within it, which stand in it
abbrev pub functions_of_one : (Option ScopeAt → FunctionScopes) → (within : FunctionsIn) → FunctionsIn
functions_of_one function within binds around next outer number =
    let this = function (Some (record { function = outer; scope = around })) in
    this ∷ within this.binds 0 1 number (suc number)

-- what is free in a function is used by it where it stands
abbrev pub of_function : (Option ScopeAt → FunctionScopes) → (within : FunctionsIn) → Scoping
of_function function within = record {
  declared = [];
  here = [];
  used = map (λ name. record { name = name; inner = true }) (function None).free;
  scopes = no_scopes;
  functions = functions_of_one function within;
}

-- its name: a declaration declares it where it stands, an expression in a scope round it
abbrev pub with_form : FunctionForm → (at end : ℕ) → Scoping → Scoping
with_form (form.Declaration bound) at end function =
    record function { declared = record { binding = binding.BlockFunction; name = bound.name } ∷ [] }
with_form (form.Expression (Some bound)) at end function =
    in_scope scope.Own at end (record { binding = binding.Own; name = bound.name } ∷ []) function
with_form other at end function = function

abbrev pub parameters_of : List Bound → List Declared
parameters_of bounds = map (λ bound. record { binding = binding.Parameter; name = bound.name }) bounds

-- ---- trees

abbrev pub using : Text → Scoping
using name = record nothing { here = name ∷ []; used = record { name = name; inner = false } ∷ [] }

-- A `var` is used where it stands. In the scope that declares it, that is not seen.
abbrev pub binding_of : DeclarationWord → Text → Scoping
binding_of word.Var name = record (using name) { declared = record { binding = binding.Var; name = name } ∷ [] }
binding_of other name = record nothing { declared = record { binding = word_binding other; name = name } ∷ [] }

abbrev pub in_for : (at : ℕ) → (end : Option ℕ) → Scoping → Scoping
in_for at None within = within
in_for at (Some end) within = in_scope scope.Block at end [] within

abbrev pub caught : Option Bound → List Declared
caught bound = map (λ b. record { binding = binding.Caught; name = b.name }) (optional bound)

abbrev pub scoping_layer : Tree-F Scoping → Scoping
scoping_layer (Tree-F.Function at end form kind parameters rest body) =
    with_form form at end
    (of_function (scopes_of scope.Function kind at end (parameters_of (parameters ++ rest_bound rest)) body)
    body.functions)
scoping_layer (Tree-F.Bind at word name value) = both (binding_of word name) (all_of (optional value))
scoping_layer (Tree-F.Block at items end) = in_scope scope.Block at end [] (all_of items)
scoping_layer (Tree-F.Switch at value brace clauses end) =
    both value (in_scope scope.Block brace end [] (all_of clauses))
scoping_layer (Tree-F.Catch at bound brace items end) =
    in_scope scope.Catch at end (caught bound) (all_of items)
scoping_layer (Tree-F.ForDeclared at word bound iteration over body end) =
    in_for at end (both (binding_of word bound.name) (both over body))
scoping_layer (Tree-F.ForBinds at word binds test update body end) =
    in_for at end (all_of (binds ++ (optional test ++ (optional update ++ body ∷ []))))
scoping_layer (Tree-F.This at) = using this_name
scoping_layer (Tree-F.NewTarget at) = using target_name
scoping_layer (Tree-F.Identifier at name) = using name
scoping_layer (Tree-F.Shorthand at name) = using name
scoping_layer layer = all_of (node layer).children

unfoldable pub scoping_of : Tree → Scoping
scoping_of = fold-Tree Scoping scoping_layer

-- The scopes and free names of each function of a script with this tree, in the order of the functions' numbers. The
-- scope of the script has the extent of the source.
unfoldable pub function_scopes_of : Text → Tree → List FunctionScopes
function_scopes_of source script =
    let within = scoping_of script in
    scopes_of scope.Script kind.Script 0 (length source) [] within None ∷ within.functions false 0 1 0 1
