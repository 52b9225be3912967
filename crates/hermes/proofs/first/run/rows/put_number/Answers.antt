use Rattle.std.proofs.Common.{◌≡◌, rules, Some, ap}
use Rattle.hz_ops.specs.Step as row
use Rattle.hermes.specs.first.Rows.{activation}
use Rattle.hermes.proofs.first_texts.running.Rows.{put_result, on_step}
use Rattle.hermes.proofs.first.run.rows.put_number.Goals as goal

pub returns : goal.returns
returns c = λ place next.
    let e : c.args.number ≡ Some c.in_ok-number.number = search rules in
    on_step _ _ c.put.result (activation next c.put.new.registers)
    (ap (row.number_to next (activation place c.args.registers.now) c.args.r) e)
    (put_result _ _ c.args.r c.in_ok-number.number place next c.put.result c.requires c.put.ensures)
