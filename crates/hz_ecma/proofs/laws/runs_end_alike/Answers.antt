use Rattle.hz_ecma.proofs.RunsAlike.{runs_end_alike}
use Rattle.hz_ecma.proofs.laws.runs_end_alike.Goals as goal

pub returns : goal.returns
returns g c = λ other layout trees count script lines turns h.
    runs_end_alike _ other layout trees count script lines turns h
