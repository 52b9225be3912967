use Rattle.std.proofs.Common.{refl}
use Rattle.hz_ops.specs.Runs.{system_step}
use Rattle.hz_ops.proofs.Running.{step_before, step_behind}
use Rattle.hz_ops.proofs.laws.step_by_step.Goals as goal

pub returns-clause-taken : goal.returns-clause-taken
returns-clause-taken c = λ m s lines end ends. step_behind m s (system_step m s) lines end refl ends

pub returns-clause-put : goal.returns-clause-put
returns-clause-put c = λ m s lines end ends. step_before m s (system_step m s) lines end refl ends
