use Rattle.std.proofs.Common.{◌≡◌, ◌∙◌, sym, arith, nat_eq, ◌==◌, ◌||◌}
use Rattle.hz_machine.proofs.Making.{callable}
use Rattle.hz_machine.proofs.kept.Kept.is_function.Goals as goal

pub returns-else-number-eq1 : goal.returns-else-number-eq1
returns-else-number-eq1 c =
    sym (callable c.args.self.now c.args.number
    ∙ (let e : (c.args.number == 1 || c.args.number == 6) ≡ nat_eq c.args.number 6 =
    grind (arith, c.if-number-eq1.false) in e))
