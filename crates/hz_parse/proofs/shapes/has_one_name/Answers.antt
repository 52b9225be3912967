use Rattle.std.proofs.Common.{ap, sym, ◌∙◌}
use Rattle.hz_stands.specs.Plain.{shape_by}
use Rattle.hz_parse.specs.Given as spec
use Rattle.hz_parse.proofs.FunctionShapes.{listed_kind, name_by_paren}
use Rattle.hz_parse.proofs.shapes.has_one_name.Goals as goal

pub returns-in-Arrow : goal.returns-in-Arrow
returns-in-Arrow c =
    name_by_paren c.args.first c.is_paren.result c.is_paren.ensures
    ∙ ap (λ kind. spec.has_one_name (shape_by kind c.args.first)) (sym c.in-Arrow.is)

pub returns-in_default : goal.returns-in_default
returns-in_default c = listed_kind c.args.kind c.args.first c.in_default.not-Arrow
