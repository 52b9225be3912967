use Rattle.hz_tree.specs.declared.class.Class.TheVariants as k
use Rattle.hz_parse_expr.specs.Functions.{expressed}
use Rattle.hz_parse_expr.proofs.RowLaws.{made_by}
use Rattle.hz_parse_expr.proofs.PrimaryLaws.{function_made}
use Rattle.hz_parse_expr.proofs.primaries.functions.function_expression.Goals as goal

pub returns-in-Star : goal.returns-in-Star
returns-in-Star g c =
    λ context. made_by (expressed (g.N.Numbers.functions c.args.numbers.now) context) c.args.two k.Star
    c.generator.result c.args.parts.now c.generator.new.parts c.in-Star.is (c.generator.ensures context)

pub returns-in_default : goal.returns-in_default
returns-in_default g c =
    λ context. function_made (g.N.Numbers.functions c.args.numbers.now) context c.args.two c.function.result
    c.args.parts.now c.function.new.parts c.in_default.not-Star (c.function.ensures context)
