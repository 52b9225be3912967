-- Correct code: it does what the function's tree does, from every start and for every list of replies.
use Rattle.std.specs.Prelude.{◌≡◌, ◌<◌, ℕ}
use Rattle.hz_value.specs.world.World.{World}
use Rattle.hz_value.specs.system.System.{Meaning, Invocation}
use Rattle.hz_ecma.specs.evaluator.Steps.{Trees, script_activation, tree_entered}
use Rattle.hz_ecma.specs.agreement.Contents.{SameValue, SameValues}
use Rattle.hz_ecma.specs.agreement.Layouts.{Layout}
use Rattle.hz_ecma.specs.agreement.Agreement.{Matching, Stands, Agree}
use Rattle.hz_ecma.specs.agreement.Same.{Simulates}

-- the script, which `start` begins: before the record of its scope is made, and at the start of the code
pub record CorrectScript (T : Type 0) (other : Meaning T) (layout : Layout) (trees : Trees) (script : T) : Type 0 where
  pub by : (n : ℕ) (m : Matching) (w w1 : World) → Agree layout m w w1
      → Simulates T other layout n m (script_activation trees) w script w1

-- a call of the same closure of function k on both sides, each with its own environment
pub record SameInvocation (layout : Layout) (m : Matching) (w w1 : World) (k : ℕ) (i i1 : Invocation) : Type 0 where
  pub callee : i.callee ≡ i1.callee
  pub function : i.closure.function ≡ k
  pub function_other : i1.closure.function ≡ k
  pub closure : Stands layout m w w1 (layout.around k) i.closure.records w.record_count i1.closure.environment
  pub this : SameValue w.store w1.store i.this i1.this
  pub arguments : SameValues w.store w1.store i.arguments i1.arguments
  pub new_target : SameValue w.store w1.store i.new_target i1.new_target

-- function k, as `other` enters it
pub record Correct (T : Type 0) (other : Meaning T) (layout : Layout) (trees : Trees) (k : ℕ) : Type 0 where
  pub by : (n : ℕ) (m : Matching) (w w1 : World) (i i1 : Invocation) → Agree layout m w w1
      → SameInvocation layout m w w1 k i i1
      → Simulates T other layout n m (tree_entered trees i) w (other.enter i1) w1

-- the script and the other functions of its source, `count` with the script
pub record CorrectSource (T : Type 0) (other : Meaning T) (layout : Layout) (trees : Trees) (count : ℕ) (script : T)
    : Type 0 where
  pub of_script : CorrectScript T other layout trees script
  pub of_functions : (k : ℕ) → 0 < k → k < count → Correct T other layout trees k
