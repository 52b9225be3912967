use Rattle.hz_alone.proofs.ArrowsAlone.{all_told}
use Rattle.hz_alone.proofs.laws.arrows_are_told_alone.Goals as goal

pub returns : goal.returns
returns c = all_told
