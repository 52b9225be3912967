use Rattle.hz_parse_expr.proofs.MakesLaws.{first_prop}
use Rattle.hz_parse_expr.proofs.properties.object.props.Goals as goal

pub returns-in_default : goal.returns-in_default
returns-in_default c =
    λ context. first_prop context c.args.one c.first_item.result c.args.parts.now c.first_item.new.parts
    c.in_default.not-RightBrace c.first_item.ensures
