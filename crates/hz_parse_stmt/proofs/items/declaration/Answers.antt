use Rattle.hz_tree.specs.declared.class.Class.TheVariants as k
use Rattle.hz_parse_stmt.specs.Items.{declared}
use Rattle.hz_parse_expr.proofs.RowLaws.{made_by}
use Rattle.hz_parse_stmt.proofs.RowLaws.{function_made}
use Rattle.hz_parse_stmt.proofs.items.declaration.Goals as goal

pub returns-in-Star : goal.returns-in-Star
returns-in-Star g c =
    λ context. made_by (declared (g.N.Numbers.functions c.args.numbers.now) context) c.args.two k.Star
    c.generator.result c.args.parts.now c.generator.new.parts c.in-Star.is (c.generator.ensures context)

pub returns-in_default : goal.returns-in_default
returns-in_default g c =
    λ context. function_made (g.N.Numbers.functions c.args.numbers.now) context c.args.two c.function.result
    c.args.parts.now c.function.new.parts c.in_default.not-Star (c.function.ensures context)
