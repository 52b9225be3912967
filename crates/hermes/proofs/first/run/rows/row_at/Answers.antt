use Rattle.hermes.proofs.first_texts.running.Rows.{row_found}
use Rattle.hermes.proofs.first.run.rows.row_at.Goals as goal

pub returns : goal.returns
returns c = row_found c.args.registers.now c.args.first c.args.count c.if-end-registers.false
