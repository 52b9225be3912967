use Rattle.hz_ecma.proofs.OutcomeLaws.{source_outcome}
use Rattle.hz_ecma.proofs.laws.one_outcome_of_source.Goals as goal

pub returns : goal.returns
returns c = λ source lines turns events events1 e e1 first second.
    source_outcome source lines turns events events1 e e1 first second
