use Rattle.std.proofs.Common.{true, false, refl}
use Rattle.hz_tree.specs.grammar.Table.{step_of}
use Rattle.hz_tree.specs.grammar.ExpressionRows as row
use Rattle.hz_rows.proofs.Rows.{pushed_by}
use Rattle.hz_rows.proofs.expressions.expr_end.Goals as goal

pub returns-then-listed : goal.returns-then-listed
returns-then-listed c context =
    pushed_by (λ listed. step_of (row.expr_end listed context)) c.args.listed true _ _ _ c.if-listed.true
    c.push.ensures

pub returns-else-listed : goal.returns-else-listed
returns-else-listed c context =
    pushed_by (λ listed. step_of (row.expr_end listed context)) c.args.listed false _ _ _ c.if-listed.false refl
