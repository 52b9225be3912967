use Rattle.std.proofs.Common.{Some, sym, ◌∙◌}
use Rattle.hz_tree.specs.grammar.Table.{step_of}
use Rattle.hz_tree.specs.grammar.OperatorRows as row
use Rattle.hz_tree.specs.grammar.Operators as operators
use Rattle.hz_rows.proofs.Rows.{pushed_by}
use Rattle.hz_rows.proofs.operators.operator_row.Goals as goal

pub returns-in-Some : goal.returns-in-Some
returns-in-Some c =
    pushed_by (λ assigned. step_of (row.operator_row c.args.loosest c.args.tightest c.args.context c.args.one assigned
    (operators.update_operator c.args.one) (operators.binary_operator c.args.one)))
    (operators.assign_operator c.args.one) (Some c.in-Some.operator) _ _ _ (sym c.assign_operator.ensures
    ∙ c.in-Some.is)
    (c.assign_row.ensures c.args.loosest c.args.tightest (operators.update_operator c.args.one)
    (operators.binary_operator c.args.one))
