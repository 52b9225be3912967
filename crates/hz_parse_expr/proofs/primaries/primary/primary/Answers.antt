use Rattle.hz_parse_expr.proofs.PrimaryLaws.{expressed_made, primary_made}
use Rattle.hz_parse_expr.proofs.primaries.primary.primary.Goals as goal

pub returns-in-Function : goal.returns-in-Function
returns-in-Function g c =
    λ context. expressed_made (g.N.Numbers.functions c.args.numbers.now) context c.args.look
    c.function_expression.result c.args.parts.now c.function_expression.new.parts c.in-Function.is
    (c.function_expression.ensures context)

pub returns-in_default : goal.returns-in_default
returns-in_default g c =
    λ context. primary_made (g.N.Numbers.functions c.args.numbers.now) context c.args.look c.without_function.result
    c.args.parts.now c.without_function.new.parts c.in_default.not-Function (c.without_function.ensures context)
