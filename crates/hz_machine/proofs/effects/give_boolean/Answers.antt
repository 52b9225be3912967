use Rattle.std.proofs.Common.{subst}
use Rattle.hz_value.specs.operators.Computed.{Gives, and_then}
use Rattle.hz_value.specs.operators.Contents.{Boolean}
use Rattle.hz_operators.specs.Outcomes.{Means}
use Rattle.hz_machine.proofs.Stopping.{given, boolean_halted}
use Rattle.hz_machine.proofs.effects.give_boolean.Goals as goal

pub returns-in-Err : goal.returns-in-Err
returns-in-Err c = λ found means.
    given c.args.kept.now c.stop.new.kept c.in-Err.cause c.stop.result (and_then found (λ b. Gives (Boolean b))) c.args.next c.args.to c.args.frame.now
    (boolean_halted c.in-Err.cause found (subst (λ r. Means (λ b. b) r found) c.in-Err.is means)) c.stop.ensures
