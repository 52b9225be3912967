-- The machine's globals.
use Rattle.std.specs.Prelude.{◌≡◌, ℕ, List, [], ◌∷◌, map, Result, Ok, Err, bytes_eq, if◌then◌else◌, ⊤, Option, option_map, slice_get}
use Rattle.std.specs.Borrow.{Bor}
use Rattle.hz_value.specs.declared.leaving.Left.{Left}
use Rattle.hz_value.specs.declared.values.Value.{Value}
use Rattle.hz_value.specs.operators.Messages as message
use Rattle.hz_value.specs.operators.Computed.{Computed, Gives, Throws}
use Rattle.hz_value.specs.operators.Computed as computed
use Rattle.hz_value.specs.world.Globals as global
use Rattle.hz_machine.specs.declared.globals.Slot.{Slot}
use Rattle.hz_machine.specs.declared.globals.Refused.{Refused}
use Rattle.hz_machine.specs.declared.globals.Refused.TheVariants.{NotDefined, IsConstant, Leaves, Memory}

abbrev pub resolution : {T : Type 0} → Result T Left → Computed T
resolution (Ok x) = Gives x
resolution (Err reason) = computed.Leaves reason

abbrev pub global_of : Slot → global.Global
global_of slot = record { value = slot.value; writable = slot.writable }

-- the name of the global at this place
abbrev pub name_at : global.Globals → ℕ → Option (List ℕ)
name_at gs place = option_map (λ g. g.0) (slice_get gs place)

-- the global under a name: one that is there keeps its place, a new one goes last
abbrev pub put_slot : List ℕ → global.Global → global.Globals → global.Globals
put_slot name x [] = (name, x) ∷ []
put_slot name x (g ∷ gs) = if bytes_eq name g.0 then (g.0, x) ∷ gs else g ∷ put_slot name x gs

-- whether the name may be written, whatever the value
abbrev pub Permits : global.Globals → List ℕ → Result (Unit {0}) Refused → Type 0
Permits gs name (Ok done) = (v : Value) → global.write_global gs name v ≡ Gives (global.put_global name v gs)
Permits gs name (Err NotDefined) = (v : Value) → global.write_global gs name v ≡ Throws (message.NotDefined name)
Permits gs name (Err IsConstant) = (v : Value) → global.write_global gs name v ≡ Throws (message.IsConstant name)
Permits gs name (Err (Leaves reason)) = (v : Value) → global.write_global gs name v ≡ computed.Leaves reason
Permits gs name (Err Memory) = ⊤

-- what comes of writing the value under the name
abbrev pub Writes : global.Globals → global.Globals → List ℕ → Value → Result (Unit {0}) Refused → Type 0
Writes old new name v (Ok done) = global.write_global old name v ≡ Gives new
Writes old new name v (Err NotDefined) = global.write_global old name v ≡ Throws (message.NotDefined name)
Writes old new name v (Err IsConstant) = global.write_global old name v ≡ Throws (message.IsConstant name)
Writes old new name v (Err (Leaves reason)) = global.write_global old name v ≡ computed.Leaves reason
Writes old new name v (Err Memory) = ⊤

-- names as they are spelled
abbrev pub texts_of : List (Bor (List ℕ)) → List (List ℕ)
texts_of names = map (λ t. t.now) names
