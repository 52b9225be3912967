use Rattle.hz_parse_expr.proofs.ParameterLaws.{first_parameter}
use Rattle.hz_parse_expr.proofs.functions.parameters.parameters.Goals as goal

pub returns-in_default : goal.returns-in_default
returns-in_default c =
    first_parameter c.args.one c.first_parameter.result c.args.parts.now c.first_parameter.new.parts
    c.in_default.not-RightParen c.in_default.not-Ellipsis c.first_parameter.ensures
