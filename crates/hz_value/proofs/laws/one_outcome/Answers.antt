use Rattle.hz_value.proofs.RunLaws.{one_outcome}
use Rattle.hz_value.proofs.laws.one_outcome.Goals as goal

pub returns : goal.returns
returns g c = λ m s events events1 e e1 first second. one_outcome m s events events1 e e1 first second
