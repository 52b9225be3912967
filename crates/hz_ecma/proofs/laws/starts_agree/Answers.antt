use Rattle.hz_ecma.proofs.AgreeLaws as agree
use Rattle.hz_ecma.proofs.laws.starts_agree.Goals as goal

pub returns : goal.returns
returns c = λ layout lines turns. agree.starts_agree layout lines turns
