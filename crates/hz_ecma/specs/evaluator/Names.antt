-- Names: their records, their values, and what is written to them.
use Rattle.std.specs.Prelude.{ℕ, if◌then◌else◌, List, [], ◌∷◌, Option, Some, None}
use Rattle.hz_value.specs.declared.values.Value.{Value}
use Rattle.hz_value.specs.operators.Messages.{NotInitialised, IsConstant}
use Rattle.hz_value.specs.operators.Computed.{Computed, Gives, Throws, and_then}
use Rattle.hz_value.specs.world.Globals.{is_among, read_global, write_global}
use Rattle.hz_value.specs.world.Records.{Binding, read_binding}
use Rattle.hz_value.specs.world.Store.{type_name}
use Rattle.hz_value.specs.world.World.{World, binding, set_binding, type_of_global}

-- ---- where a name is (ECMA-262, 9.1.2.1)

-- the record that has the name, and its binding. Where there is none, the name is one of the global record, which is
-- looked at when the name is read and again when it is written
abbrev pub Place : Type 0
Place = Option (ℕ × Binding)

abbrev pub place_in : ℕ → Option Binding → Place → Place
place_in r None behind = behind
place_in r (Some b) behind = Some (r, b)

-- among these records, the innermost first
abbrev pub resolved : World → List ℕ → List ℕ → Place
resolved w [] name = None
resolved w (r ∷ rs) name = place_in r (binding w r name) (resolved w rs name)

-- ---- reading

abbrev pub read_at : World → List ℕ → Place → Computed Value
read_at w name None = read_global w.globals name
read_at w name (Some at) = read_binding name at.1

-- GetValue of a name (6.2.5.5)
abbrev pub read_name : World → List ℕ → List ℕ → Computed Value
read_name w records name = read_at w name (resolved w records name)

abbrev pub type_at : World → List ℕ → Place → Computed (List ℕ)
type_at w name None = type_of_global w name
type_at w name (Some at) = and_then (read_binding name at.1) (λ v. Gives (type_name w.store v))

-- what `typeof` gives of a name, also where it cannot be resolved (13.5.3)
abbrev pub type_of_name : World → List ℕ → List ℕ → Computed (List ℕ)
type_of_name w records name = type_at w name (resolved w records name)

-- ---- writing

-- SetMutableBinding (9.1.1.1.5) in strict code
abbrev pub write_binding : World → List ℕ → Value → ℕ → Binding → Computed World
write_binding w name v r None = Throws (NotInitialised name)
write_binding w name v r (Some old) =
    if is_among name (w.records r).scope.constants then Throws (IsConstant name)
    else Gives (set_binding r name (Some v) w)

abbrev pub write_at : World → List ℕ → Value → Place → Computed World
write_at w name v None = and_then (write_global w.globals name v) (λ gs. Gives (record w { globals = gs }))
write_at w name v (Some at) = write_binding w name v at.0 at.1

-- PutValue of a name (6.2.5.6)
abbrev pub write_name : World → List ℕ → List ℕ → Value → Computed World
write_name w records name v = write_at w name v (resolved w records name)

abbrev pub initialised_at : World → List ℕ → Value → Place → World
initialised_at w name v None = w
initialised_at w name v (Some at) = set_binding at.0 name (Some v) w

-- InitializeReferencedBinding (6.2.5.8)
abbrev pub initialised : World → List ℕ → List ℕ → Value → World
initialised w records name v = initialised_at w name v (resolved w records name)
