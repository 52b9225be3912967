use Rattle.hz_machine.proofs.rows.dispatch.row.Goals as goal

pub returns-in-End : goal.returns-in-End
returns-in-End g c = c.end_row.ensures c.args.next
