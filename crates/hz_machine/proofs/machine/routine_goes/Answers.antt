use Rattle.hz_machine.proofs.Asking.{proceeds_ok}
use Rattle.hz_machine.proofs.machine.routine_goes.Goals as goal

pub returns : goal.returns
returns c = λ p. proceeds_ok _ p _ _ (c.called_step.ensures p)
