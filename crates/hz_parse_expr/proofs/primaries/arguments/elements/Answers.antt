use Rattle.hz_parse_expr.proofs.MakesLaws.{first_element}
use Rattle.hz_parse_expr.proofs.primaries.arguments.elements.Goals as goal

pub returns-in_default : goal.returns-in_default
returns-in_default c =
    λ context. first_element context c.args.one c.first_item.result c.args.parts.now c.first_item.new.parts
    c.in_default.not-RightBracket c.in_default.not-Comma c.first_item.ensures
