use Rattle.hz_value.proofs.StartLaws.{world0_valid}
use Rattle.hz_ecma.proofs.laws.start_valid.Goals as goal

pub returns : goal.returns
returns c = λ lines turns. world0_valid lines turns
