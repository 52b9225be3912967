use Rattle.std.proofs.Common.{true, false}
use Rattle.hz_tree.specs.grammar.Table.{step_of}
use Rattle.hz_tree.specs.grammar.OperatorRows as row
use Rattle.hz_rows.proofs.Rows.{pushed_by, pushed_without}
use Rattle.hz_rows.proofs.operators.tails_end.Goals as goal

pub returns-then-tailed : goal.returns-then-tailed
returns-then-tailed c =
    pushed_by (λ tailed. step_of (row.tails_end tailed c.args.loosest c.args.context c.args.look)) c.args.tailed true
    _ _ _ c.if-tailed.true c.push.ensures

pub returns-else-tailed : goal.returns-else-tailed
returns-else-tailed c =
    pushed_by (λ tailed. step_of (row.tails_end tailed c.args.loosest c.args.context c.args.look)) c.args.tailed false
    _ _ _ c.if-tailed.false
    (pushed_without c.args.loosest c.args.context _ c.rests_row.result c.args.stack.now c.rests_row.new.stack
    c.rests_row.ensures)
