use Rattle.std.proofs.Common.{rules}
use Rattle.std.proofs.lemmas.Result.{on_ok_weaker}
use Rattle.hz_parse_expr.proofs.operations.rests.joins.Goals as goal

pub returns : goal.returns
returns c =
    on_ok_weaker c.push_first.result
    (λ h token seen right trees more others read stood before. let pushed = h more others in search rules)
    c.push_first.ensures
