use Rattle.hz_ops.proofs.Running.{ended_is_built}
use Rattle.hz_ops.proofs.laws.ended_is_built.Goals as goal

pub returns : goal.returns
returns c = ended_is_built
