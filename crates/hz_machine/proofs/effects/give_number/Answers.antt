use Rattle.std.proofs.Common.{subst}
use Rattle.hz_value.specs.operators.Contents.{Number}
use Rattle.hz_operators.specs.Outcomes.{Means}
use Rattle.hz_machine.proofs.Stopping.{given}
use Rattle.hz_machine.proofs.effects.give_number.Goals as goal

pub returns-in-Err : goal.returns-in-Err
returns-in-Err c = λ found means.
    given c.args.kept.now c.stop.new.kept c.in-Err.cause c.stop.result found c.args.next c.args.to c.args.frame.now
    (subst (λ r. Means Number r found) c.in-Err.is means) c.stop.ensures
