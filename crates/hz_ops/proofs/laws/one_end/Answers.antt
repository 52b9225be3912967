use Rattle.hz_ops.proofs.Running.{one_end}
use Rattle.hz_ops.proofs.laws.one_end.Goals as goal

pub returns : goal.returns
returns c = one_end
