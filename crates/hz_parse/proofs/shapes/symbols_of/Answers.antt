use Rattle.std.proofs.Common.{ap, sym, ◌∙◌}
use Rattle.hz_stands.specs.Plain.{shape_by}
use Rattle.hz_stands.specs.Stands.{written}
use Rattle.hz_parse.proofs.FunctionShapes.{other_kind}
use Rattle.hz_parse.proofs.shapes.symbols_of.Goals as goal

pub returns-in-Generator : goal.returns-in-Generator
returns-in-Generator c =
    c.generator_symbols.ensures
    ∙ ap (λ kind. (written (shape_by kind c.args.first)).symbols) (sym c.in-Generator.is)

pub returns-in-Arrow : goal.returns-in-Arrow
returns-in-Arrow c =
    c.arrow_symbols.ensures
    ∙ ap (λ kind. (written (shape_by kind c.args.first)).symbols) (sym c.in-Arrow.is)

pub returns-in-Method : goal.returns-in-Method
returns-in-Method c = ap (λ kind. (written (shape_by kind c.args.first)).symbols) (sym c.in-Method.is)

pub returns-in_default : goal.returns-in_default
returns-in_default c =
    ap (λ shape. (written shape).symbols)
    (other_kind c.args.kind c.args.first c.in_default.not-Generator c.in_default.not-Arrow c.in_default.not-Method)
