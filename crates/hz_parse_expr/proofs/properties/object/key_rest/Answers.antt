use Rattle.hz_tree.specs.declared.class.Class.TheVariants as k
use Rattle.hz_parse_expr.specs.Properties.{key_rest_cut}
use Rattle.hz_parse_expr.proofs.PropertyLaws.{no_rest_made}
use Rattle.hz_parse_expr.proofs.RowLaws.{made_by}
use Rattle.hz_parse_expr.proofs.properties.object.key_rest.Goals as goal

pub returns-in-Colon : goal.returns-in-Colon
returns-in-Colon g c =
    λ context. made_by (key_rest_cut (g.N.Numbers.functions c.args.numbers.now) context c.args.look) c.args.look.one
    k.Colon c.valued.result c.args.parts.now c.valued.new.parts c.in-Colon.is (c.valued.ensures context c.args.look)

pub returns-in-LeftParen : goal.returns-in-LeftParen
returns-in-LeftParen g c =
    λ context. made_by (key_rest_cut (g.N.Numbers.functions c.args.numbers.now) context c.args.look) c.args.look.one
    k.LeftParen c.method.result c.args.parts.now c.method.new.parts c.in-LeftParen.is (c.method.ensures context
    c.args.look)

pub returns-in_default : goal.returns-in_default
returns-in_default g c =
    λ context. no_rest_made (g.N.Numbers.functions c.args.numbers.now) context c.args.look c.args.look.one
    c.args.parts.now c.in_default.not-Colon c.in_default.not-LeftParen
