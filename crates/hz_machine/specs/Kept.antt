-- The world as the machine keeps it: what of the world does not change in scripts, and the lines to be read, are not
-- in it. Objects are those that were there from the start, and errors.
use Rattle.std.specs.Prelude.{ℕ, List, [], ◌∷◌, ◌++◌, map}
use Rattle.hz_value.specs.operators.Messages.{text_of}
use Rattle.hz_value.specs.world.Globals.{Globals}
use Rattle.hz_value.specs.world.Store.{Store, number_of, interned}
use Rattle.hz_value.specs.world.Start.{objects0, world0}
use Rattle.hz_value.specs.world.World.{World, Line}
use Rattle.hz_machine.specs.declared.errors.MadeError.{MadeError}
use Rattle.hz_machine.specs.declared.errors.Cause.{Cause}
use Rattle.hz_machine.specs.Errors.{object_of, message_of, kind_of}

pub record KeptWorld : Type 0 where
  pub texts : List (List ℕ)
  pub globals : Globals
  pub errors : List MadeError
  pub turns : ℕ
  pub calls : ℕ

abbrev pub store_of : KeptWorld → Store
store_of k = record { texts = k.texts; symbols = []; objects = objects0 ++ map object_of k.errors }

-- with these lines to be read
abbrev pub world_of : List Line → KeptWorld → World
world_of lines k = record (world0 lines k.turns) { store = store_of k; globals = k.globals; calls = k.calls }

abbrev pub made : Cause → KeptWorld → MadeError
made c k = record { kind = kind_of c; text = number_of k.texts (text_of (message_of c)) }

-- an error is made
abbrev pub with_made : Cause → KeptWorld → KeptWorld
with_made c k =
    record k { texts = interned k.texts (text_of (message_of c)); errors = k.errors ++ made c k ∷ [] }
