use Rattle.std.proofs.Common.{subst}
use Rattle.hz_operators.specs.Sums.{sum_content}
use Rattle.hz_operators.specs.Outcomes.{MeansText}
use Rattle.hz_machine.proofs.Stopping.{given_text}
use Rattle.hz_machine.proofs.effects.give_sum.Goals as goal

pub returns-in-Err : goal.returns-in-Err
returns-in-Err c = λ found means.
    given_text c.args.kept.now c.stop_text.new.kept c.in-Err.cause c.stop_text.result found c.args.next c.args.to c.args.frame.now
    (subst (λ r. MeansText (λ number. sum_content number c.args.text.items) r found) c.in-Err.is means) c.stop_text.ensures
