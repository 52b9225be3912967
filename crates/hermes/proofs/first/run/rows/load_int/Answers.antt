use Rattle.std.proofs.Common.{◌≡◌, rules, Some}
use Rattle.hz_value.specs.Numbers.{safe}
use Rattle.hermes.specs.declared.first.run.held.Held.TheVariants.{Number}
use Rattle.hermes.specs.first.Rows.{activation}
use Rattle.hermes.proofs.first_texts.running.Rows.{put_row, int_found}
use Rattle.hermes.proofs.first.run.rows.load_int.Goals as goal

pub returns : goal.returns
returns c = λ place next.
    let e : safe c.args.integer ≡ Some c.in_ok-number.number = search rules in
    put_row _ _ _ c.args.r (Number c.in_ok-number.number) place next c.put.result
    (int_found next (activation place c.args.registers.now) c.args.r c.args.integer c.in_ok-number.number e)
    c.put.ensures
