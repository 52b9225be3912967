use Rattle.std.proofs.Common.{◌∙◌, sym}
use Rattle.hz_parse_expr.proofs.OperationLaws.{arrow_made}
use Rattle.hz_parse_expr.proofs.operations.operands.operation.Goals as goal

pub returns-then-is_arrow : goal.returns-then-is_arrow
returns-then-is_arrow g c =
    arrow_made (g.N.Numbers.functions c.args.numbers.now) c.args.loosest c.args.context c.args.look c.arrow.result
    c.args.parts.now c.arrow.new.parts (sym c.is_arrow.ensures ∙ c.if-is_arrow.true) c.arrow.ensures
