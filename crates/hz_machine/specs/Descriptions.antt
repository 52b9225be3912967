-- What is told of an error.
use Rattle.std.specs.Prelude.{ℕ, ◌-◌, nat_lt, ◌==◌, ◌||◌, if◌then◌else◌, List, Option, Some, None, codes, slice_get}
use Rattle.hz_value.specs.world.Store.{Store, text}
use Rattle.hz_value.specs.world.Descriptions.{with_message}
use Rattle.hz_machine.specs.declared.errors.ErrorKind.{ErrorKind}
use Rattle.hz_machine.specs.declared.errors.ErrorKind.TheVariants.{TypeError, ReferenceError}
use Rattle.hz_machine.specs.declared.errors.MadeError.{MadeError}
use Rattle.hz_machine.specs.Kept.{KeptWorld, store_of}

-- the number of the text that names the kind: its prototype has it as `name`
abbrev pub name_number : ErrorKind → ℕ
name_number TypeError = 5
name_number ReferenceError = 7

abbrev pub error_text : Store → MadeError → List ℕ
error_text s e = with_message (text s (name_number e.kind)) (text s e.text)

-- the error with this number among the objects
abbrev pub error_at : KeptWorld → ℕ → Option MadeError
error_at k o = if nat_lt o 7 then None else slice_get k.errors (o - 7)

abbrev pub told_error : Store → Option MadeError → List ℕ
told_error s (Some e) = error_text s e
told_error s None = codes "object"

abbrev pub described : KeptWorld → ℕ → List ℕ
described k o =
    if o == 1 || o == 6 then codes "function" else told_error (store_of k) (error_at k o)
