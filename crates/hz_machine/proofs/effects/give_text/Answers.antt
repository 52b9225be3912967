use Rattle.std.proofs.Common.{subst}
use Rattle.hz_value.specs.operators.Computed.{Gives, and_then}
use Rattle.hz_value.specs.operators.Contents.{Text}
use Rattle.hz_operators.specs.Outcomes.{MeansText}
use Rattle.hz_machine.proofs.Stopping.{given_text, text_halted}
use Rattle.hz_machine.proofs.effects.give_text.Goals as goal

pub returns-in-Err : goal.returns-in-Err
returns-in-Err c = λ found means.
    given_text c.args.kept.now c.stop_text.new.kept c.in-Err.cause c.stop_text.result (and_then found (λ t. Gives (Text t)))
    c.args.next c.args.to c.args.frame.now
    (text_halted c.in-Err.cause found (subst (λ r. MeansText (λ t. t.items) r found) c.in-Err.is means)) c.stop_text.ensures
