-- How a conversion or an operator comes out. ECMA-262's completion (6.2.4) is normal or a throw; here a run may
-- be left besides.
use Rattle.std.specs.Prelude.{Option, Some, None}
use Rattle.hz_value.specs.declared.leaving.Left.{Left}
use Rattle.hz_value.specs.declared.leaving.Left.TheVariants as left
use Rattle.hz_value.specs.operators.Messages.{Message}

-- the result, an error that is thrown, or the reason for which the run is left
pub data Computed (T : Type 0) : Type 0 where
  Gives : (result : T) → Computed T
  Throws : (message : Message) → Computed T
  Leaves : (reason : Left) → Computed T

-- what follows on the result, as ECMA-262's `?` has it (5.2.3.4)
abbrev pub and_then : {S T : Type 0} → Computed S → (S → Computed T) → Computed T
and_then (Gives x) next = next x
and_then (Throws message) next = Throws message
and_then (Leaves reason) next = Leaves reason

-- a result that is no safe integer leaves the run
abbrev pub safely : {T : Type 0} → Option T → Computed T
safely (Some x) = Gives x
safely None = Leaves left.NotSafe
