-- Declarative environment records (ECMA-262, 9.1.1.1) of the evaluator over trees, and environments of code.
use Rattle.std.specs.Prelude.{ℕ, ◌==◌, nat_lt, if◌then◌else◌, List, [], Option, Some, None, bytes_eq}
use Rattle.std.specs.List.{list_any}
use Rattle.hz_value.specs.declared.values.Value.{Value}
use Rattle.hz_value.specs.operators.Messages.{NotInitialised}
use Rattle.hz_value.specs.operators.Computed.{Computed, Gives, Throws}

-- a scope of the source: its function, its number among the scopes of that, and which of its names are constant
-- by their declaration
pub record Scope : Type 0 where
  pub function : ℕ
  pub number : ℕ
  pub constants : List (List ℕ)

-- None: not initialised yet
abbrev pub Binding : Type 0
Binding = Option Value

-- GetBindingValue (9.1.1.1.6) of a binding that is there, under this name
abbrev pub read_binding : List ℕ → Binding → Computed Value
read_binding name None = Throws (NotInitialised name)
read_binding name (Some v) = Gives v

-- a record never changes its scope, and so whether a binding is constant is told by its declaration
pub record Record : Type 0 where
  pub scope : Scope
  pub bindings : List ℕ → Option Binding

-- slots, and the environment around
pub record Environment : Type 0 where
  pub parent : Option ℕ
  pub slots : ℕ → Option Binding

-- f, but x at n
abbrev pub put : {T : Type 0} → (ℕ → T) → ℕ → T → ℕ → T
put f n x k = if k == n then x else f k

abbrev pub put_name : {T : Type 0} → (List ℕ → T) → List ℕ → T → List ℕ → T
put_name f name x other = if bytes_eq other name then x else f other

abbrev pub no_record : Record
no_record = record { scope = record { function = 0; number = 0; constants = [] }; bindings = λ name. None }

abbrev pub no_environment : Environment
no_environment = record { parent = None; slots = λ i. None }

-- a record of the scope with these names, none of them initialised
abbrev pub fresh_record : Scope → List (List ℕ) → Record
fresh_record scope names =
    record { scope = scope; bindings = λ name. if list_any (bytes_eq name) names then Some None else None }

-- so many slots, none of them initialised
abbrev pub fresh_environment : Option ℕ → ℕ → Environment
fresh_environment parent n = record { parent = parent; slots = λ i. if nat_lt i n then Some None else None }
