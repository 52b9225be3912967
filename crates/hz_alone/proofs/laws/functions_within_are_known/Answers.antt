use Rattle.hz_alone.proofs.Within.{all_known}
use Rattle.hz_alone.proofs.laws.functions_within_are_known.Goals as goal

pub returns : goal.returns
returns c = all_known
