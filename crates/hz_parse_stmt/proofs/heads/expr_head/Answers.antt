use Rattle.std.proofs.Common.{◌&&◌, ◌∙◌, sym}
use Rattle.hz_tree.specs.declared.outside.BadKind.TheVariants as bad
use Rattle.hz_tree.specs.declared.outside.OutsideKind.TheVariants as outside
use Rattle.hz_tree.specs.grammar.Classes.{is_async_word, is_of}
use Rattle.hz_tree.specs.grammar.HeadRows.{is_no_left}
use Rattle.hz_parse_stmt.specs.Heads.{left_row, no_left_row}
use Rattle.hz_parse_expr.proofs.RowLaws.{first_made}
use Rattle.hz_parse_stmt.proofs.heads.expr_head.Goals as goal

pub returns-then-is_no_left : goal.returns-then-is_no_left
returns-then-is_no_left c =
    let context = c.args.context in
    let look = c.args.look in
    first_made (is_async_word look.one && is_of look.two) (is_no_left context look) (bad.Outside outside.Async)
    (no_left_row context) (left_row context) c.begins_expr.result c.args.parts.now c.begins_expr.new.parts
    (sym c.is_no_left.ensures ∙ c.if-is_no_left.true) (c.begins_expr.ensures context)
