use Rattle.std.proofs.Common.{◌&&◌, ◌∙◌, sym}
use Rattle.hz_tree.specs.declared.outside.BadKind.TheVariants as bad
use Rattle.hz_tree.specs.declared.outside.OutsideKind.TheVariants as outside
use Rattle.hz_tree.specs.grammar.Classes.{is_colon, is_name}
use Rattle.hz_tree.specs.grammar.Look.{is_async}
use Rattle.hz_tree.specs.grammar.StatementRows.{labelled_row, statement_by}
use Rattle.hz_parse_expr.proofs.RowLaws.{second_made}
use Rattle.hz_parse_stmt.proofs.statements.statement.Goals as goal

pub returns-else-is_labelled : goal.returns-else-is_labelled
returns-else-is_labelled c =
    let look = c.args.look in
    λ context. second_made (is_async look) (is_name look.one && is_colon look.two) (bad.Outside outside.Async)
    (labelled_row context) (statement_by context look look.one) c.unlabelled.result c.args.parts.now
    c.unlabelled.new.parts (sym c.is_labelled.ensures ∙ c.if-is_labelled.false) (c.unlabelled.ensures context look)
