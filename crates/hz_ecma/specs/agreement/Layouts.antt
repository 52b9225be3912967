-- A layout says which names of a scope code keeps in slots of an environment.
use Rattle.std.specs.Prelude.{ℕ, Bool, List, Option}
use Rattle.hz_value.specs.world.Records.{Scope}

-- `slot` is the slot of a name that the scope declares; `count` is the number of slots of a scope that has some, and
-- only such a scope has an environment; `around` are the scopes round a function, the innermost first
pub record Layout : Type 0 where
  pub declares : Scope → List ℕ → Bool
  pub slot : Scope → List ℕ → Option ℕ
  pub count : Scope → Option ℕ
  pub around : (function : ℕ) → List Scope
