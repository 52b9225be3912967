use Rattle.std.proofs.Common.{◌∙◌, sym}
use Rattle.hz_parse_expr.proofs.OperationLaws.{no_yield_made, yield_made}
use Rattle.hz_parse_expr.proofs.operations.operands.no_arrow.Goals as goal

pub returns-then-begins_yield : goal.returns-then-begins_yield
returns-then-begins_yield c =
    λ loosest context. yield_made loosest context c.args.may_yield c.args.one c.yields.result c.args.parts.now
    c.yields.new.parts (sym c.begins_yield.ensures ∙ c.if-begins_yield.true) (c.yields.ensures loosest context)

pub returns-else-begins_yield : goal.returns-else-begins_yield
returns-else-begins_yield c =
    λ loosest context. no_yield_made loosest context c.args.may_yield c.args.one c.operand.result c.args.parts.now
    c.operand.new.parts (sym c.begins_yield.ensures ∙ c.if-begins_yield.false) (c.operand.ensures loosest context)
