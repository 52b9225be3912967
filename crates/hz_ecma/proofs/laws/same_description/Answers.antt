use Rattle.hz_ecma.proofs.DescriptionLaws as law
use Rattle.hz_ecma.proofs.laws.same_description.Goals as goal

pub returns : goal.returns
returns c = λ layout m w w1 v v1 h same. law.same_description layout m w w1 v v1 h same
