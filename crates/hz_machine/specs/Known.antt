-- What was met of the code's texts. The code is handed in with each step, so each of these speaks of one code.
use Rattle.std.specs.Prelude.{◌≡◌, ℕ, List, Some, true, bytes_eq}
use Rattle.std.specs.Map.{lookup}
use Rattle.hz_value.specs.world.Store.{number_of, interned}
use Rattle.hz_ops.specs.code.Activations.{Program}
use Rattle.hz_machine.specs.declared.globals.Slot.{Slot}
use Rattle.hz_machine.specs.Globals.{global_of, name_at}
use Rattle.hz_machine.specs.Kept.{KeptWorld}

-- the code's text with this number is the run's text number n
pub record IsText (p : Program) (k : KeptWorld) (id n : ℕ) : Type 0 where
  pub units : List ℕ
  pub there : p.text id ≡ Some units
  pub number : number_of k.texts units ≡ n
  pub kept : interned k.texts units ≡ k.texts

-- the code's text with this number names this global
pub record IsGlobal (p : Program) (k : KeptWorld) (id : ℕ) (slot : Slot) : Type 0 where
  pub name : List ℕ
  pub there : p.text id ≡ Some name
  pub found : lookup (bytes_eq name) k.globals ≡ Some (global_of slot)

-- the code's text with this number names the global at this place, which can be written
pub record IsWritable (p : Program) (k : KeptWorld) (id place : ℕ) : Type 0 where
  pub name : List ℕ
  pub slot : Slot
  pub there : p.text id ≡ Some name
  pub at : name_at k.globals place ≡ Some name
  pub found : lookup (bytes_eq name) k.globals ≡ Some (global_of slot)
  pub writable : slot.writable ≡ true
