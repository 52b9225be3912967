-- What is known of the scopes of a source's functions behind some of its events.
use Rattle.std.specs.Prelude.{ℕ, Bool, true, false, if◌then◌else◌, List, [], ◌∷◌, ◌++◌, length, map, slice_set, Option}
use Rattle.std.specs.Prelude.{Some, None}
use Rattle.hz_index.specs.Table.{unended, nothing_known}
use Rattle.hz_tree.specs.declared.operator.DeclarationWord.TheVariants as word
use Rattle.hz_tree.specs.declared.scope.BindingKind.TheVariants as binding
use Rattle.hz_tree.specs.declared.scope.ScopeAt.{ScopeAt}
use Rattle.hz_tree.specs.declared.scope.ScopeKind.{ScopeKind}
use Rattle.hz_tree.specs.declared.scope.ScopeKind.TheVariants as scope
use Rattle.hz_tree.specs.declared.signal.Role.{Role}
use Rattle.hz_tree.specs.declared.signal.Role.TheVariants as role
use Rattle.hz_tree.specs.declared.signal.Signal.TheVariants as tell
use Rattle.hz_tree.specs.declared.tree.FunctionKind.{FunctionKind}
use Rattle.hz_tree.specs.declared.tree.FunctionKind.TheVariants as kind
use Rattle.hz_tree.specs.errors.Declarations.{word_binding, is_var}
use Rattle.hz_tree.specs.grammar.Signals.{Event, Plain, Placed, Texted, Named}
use Rattle.hz_tree.specs.tokens.Text.{Text}
use Rattle.hz_tree.specs.trees.FunctionScopes.{Scope, FunctionScopes, Declared, Used, with_declared, with_name}
use Rattle.hz_tree.specs.trees.FunctionScopes.{this_name}
use Rattle.hz_tree.specs.trees.FunctionScopes.{target_name, binds_this, activation, scope_names, outside, at_top}
use Rattle.hz_tree.specs.trees.FunctionScopes.{free_names}

-- A scope that has not ended: its number among those of its function, what it declares so far, the names that are used
-- directly in it, each once, and those used in it or within that no scope within declares.
pub record OpenScope : Type 0 where
  pub number : ℕ
  pub kind : ScopeKind
  pub start : ℕ
  pub parent : Option ℕ
  pub declared : List Declared
  pub here : List Text
  pub used : List Used

-- A function whose scope has begun and that has not ended: its number, the scope in which it stands, whether it binds
-- `this`, whether a scope of its own name stands round it, its scopes in the order of their starts (one that has not
-- ended has no names yet, and its start as its end), the scope of its parameters and body, and the open scopes in that,
-- the innermost first.
pub record Body : Type 0 where
  pub number : ℕ
  pub around : Option ScopeAt
  pub binds : Bool
  pub named : Bool
  pub listed : List Scope
  pub top : OpenScope
  pub blocks : List OpenScope

-- a function of which the name may come yet
pub record Waiting : Type 0 where
  pub number : ℕ
  pub start : ℕ
  pub kind : FunctionKind
  pub named : Bool

-- The innermost function, those round it from there outwards, and what is known of all functions. Nothing is known of
-- one that has not ended.
pub record Known : Type 0 where
  pub body : Body
  pub outer : List Body
  pub functions : List FunctionScopes

-- `begun` is the place at which the last node began
pub record State : Type 0 where
  pub begun : ℕ
  pub waiting : Waiting
  pub known : Known

-- ---- open scopes

abbrev pub innermost : Body → OpenScope
innermost body = elim body.blocks [ [] ↦ body.top | s ∷ outer ↦ s ]

-- where a function stands that begins in this one
abbrev pub place_in : Body → ScopeAt
place_in body = record { function = body.number; scope = (innermost body).number }

abbrev pub change_innermost : (OpenScope → OpenScope) → Body → Body
change_innermost f body =
    elim body.blocks [
      | [] ↦ record body { top = f body.top }
      | s ∷ outer ↦ record body { blocks = f s ∷ outer }
    ]

abbrev pub declaring : Declared → OpenScope → OpenScope
declaring d s = record s { declared = with_declared s.declared d }

-- A var is declared by the function's scope, another name by the innermost one.
abbrev pub declare_lexical : Declared → Body → Body
declare_lexical d body =
    elim body.blocks [
      | [] ↦ record body { top = declaring (at_top d) body.top }
      | s ∷ outer ↦ record body { blocks = declaring d s ∷ outer }
    ]

abbrev pub declare : Declared → Body → Body
declare d body =
    if is_var d.binding then record body { top = declaring d body.top } else declare_lexical d body

abbrev pub using : Text → OpenScope → OpenScope
using name s = record s {
  here = with_name s.here name;
  used = s.used ++ record { name = name; inner = false } ∷ [];
}

abbrev pub use_name : Text → Body → Body
use_name name body = change_innermost (using name) body

abbrev pub pass_on : List Used → Body → Body
pass_on used body = change_innermost (λ s. record s { used = s.used ++ used }) body

-- ---- scopes begin and end

abbrev pub open_scope : (number : ℕ) → ScopeKind → (start : ℕ) → (parent : Option ℕ) → OpenScope
open_scope number kind start parent = record {
  number = number;
  kind = kind;
  start = start;
  parent = parent;
  declared = [];
  here = [];
  used = [];
}

abbrev pub begin_scope : ScopeKind → (start : ℕ) → Body → Body
begin_scope kind start body =
    let parent = Some (innermost body).number in
    record body {
      listed = body.listed ++ unended kind start parent ∷ [];
      blocks = open_scope (length body.listed) kind start parent ∷ body.blocks;
    }

-- a scope that ends, with these declarations
abbrev pub ended : (binds : Bool) → (end : ℕ) → List Declared → OpenScope → Scope
ended binds end declared s = record {
  kind = s.kind;
  start = s.start;
  end = end;
  parent = s.parent;
  names = scope_names binds declared s.here;
}

abbrev pub end_scope : (end : ℕ) → Body → Body
end_scope end body =
    elim body.blocks [
      | [] ↦ body
      | s ∷ outer ↦ pass_on (outside s.declared s.used) (record body {
        listed = slice_set body.listed s.number (ended body.binds end s.declared s);
        blocks = outer;
      })
    ]

-- ---- functions begin and end

abbrev pub body_of : ScopeKind → Waiting → (around : Option ScopeAt) → Body
body_of scope waiting around = record {
  number = waiting.number;
  around = around;
  binds = binds_this waiting.kind;
  named = waiting.named;
  listed = unended scope waiting.start None ∷ [];
  top = open_scope 0 scope waiting.start None;
  blocks = [];
}

abbrev pub declared_at_end : Body → List Declared
declared_at_end body = activation body.binds body.top.used ++ body.top.declared

-- the scopes and the free names of a function that ends
abbrev pub of_body : (end : ℕ) → Body → FunctionScopes
of_body end body = record {
  around = body.around;
  binds = body.binds;
  scopes = slice_set body.listed 0 (ended body.binds end (declared_at_end body) body.top);
  free = free_names body.binds (declared_at_end body) body.top.used;
}

-- a scope that stands round it for its name ends with it
abbrev pub end_named : (named : Bool) → (end : ℕ) → Body → Body
end_named true end body = end_scope end body
end_named false end body = body

-- What is free in a function that ends is used by it in the function round it.
abbrev pub pass_free : (end : ℕ) → (named : Bool) → FunctionScopes → Body → Body
pass_free end named function body =
    end_named named end (pass_on (map (λ name. record { name = name; inner = true }) function.free) body)

abbrev pub close : (end : ℕ) → Known → Known
close end known =
    elim known.outer [
      | [] ↦ known
      | body ∷ outer ↦ record {
        body = pass_free end known.body.named (of_body end known.body) body;
        outer = outer;
        functions = slice_set known.functions known.body.number (of_body end known.body);
      }
    ]

abbrev pub enter : Waiting → Known → Known
enter waiting known = record known {
  body = body_of scope.Function waiting (Some (place_in known.body));
  outer = known.body ∷ known.outer;
}

-- ---- events

abbrev pub in_body : (Body → Body) → State → State
in_body f s = record s { known = record s.known { body = f s.known.body } }

abbrev pub open_function : FunctionKind → (at : ℕ) → State → State
open_function kind at s = record s {
  waiting = record { number = length s.known.functions; start = at; kind = kind; named = false };
  known = record s.known { functions = s.known.functions ++ nothing_known ∷ [] };
}

abbrev pub name_function : Text → State → State
name_function name s =
    in_body (λ body. declare (record { binding = binding.Own; name = name })
    (begin_scope scope.Own s.waiting.start body)) (record s { waiting = record s.waiting { named = true } })

abbrev pub bind : Role → Text → State → State
bind (role.Variable word.Var) name s =
    in_body (λ body. use_name name (declare (record { binding = binding.Var; name = name }) body)) s
bind (role.Variable word) name s = in_body (declare (record { binding = word_binding word; name = name })) s
bind role.Function name s = in_body (declare (record { binding = binding.BlockFunction; name = name })) s
bind role.Parameter name s = in_body (declare (record { binding = binding.Parameter; name = name })) s
bind role.RestParameter name s = in_body (declare (record { binding = binding.Parameter; name = name })) s
bind role.Caught name s = in_body (declare (record { binding = binding.Caught; name = name })) s
bind role.Own name s = name_function name s

abbrev pub happens : State → Event → State
happens s (Placed (tell.Begin node) at) = record s { begun = at }
happens s (Placed (tell.Open node kind) at) = open_function kind at s
happens s (Plain tell.Enter) = record s { known = enter s.waiting s.known }
happens s (Placed tell.Close end) = record s { known = close end s.known }
happens s (Plain tell.Scope) = in_body (begin_scope scope.Block s.begun) s
happens s (Placed (tell.ScopeHere kind) at) = in_body (begin_scope kind at) s
happens s (Placed tell.EndScope end) = in_body (end_scope end) s
happens s (Named (tell.Declare role) at name) = bind role name s
happens s (Named tell.Name at name) = in_body (use_name name) s
happens s (Texted tell.Use name) = in_body (use_name name) s
happens s (Placed tell.This at) = in_body (use_name this_name) s
happens s (Placed tell.NewTarget at) = in_body (use_name target_name) s
happens s event = s

abbrev pub after : State → List Event → State
after s [] = s
after s (e ∷ more) = after (happens s e) more

-- ---- sources

abbrev pub script : Waiting
script = record { number = 0; start = 0; kind = kind.Script; named = false }

-- at the start of a source
abbrev pub begun : State
begun = record {
  begun = 0;
  waiting = script;
  known = record { body = body_of scope.Script script None; outer = []; functions = nothing_known ∷ [] };
}

-- at the end of a source of so many bytes
abbrev pub finished : (length : ℕ) → State → List FunctionScopes
finished length s = slice_set s.known.functions s.known.body.number (of_body length s.known.body)
