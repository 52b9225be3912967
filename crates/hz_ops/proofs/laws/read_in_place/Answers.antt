use Rattle.hz_ops.proofs.Running.{read_in_place}
use Rattle.hz_ops.proofs.laws.read_in_place.Goals as goal

pub returns : goal.returns
returns c = read_in_place
