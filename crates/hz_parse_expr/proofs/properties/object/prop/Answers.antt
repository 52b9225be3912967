use Rattle.hz_tree.specs.declared.class.Class.TheVariants as k
use Rattle.hz_parse_expr.proofs.PropertyLaws.{plain_made, prop_made}
use Rattle.hz_parse_expr.proofs.properties.object.prop.Goals as goal

pub returns-in-Ellipsis : goal.returns-in-Ellipsis
returns-in-Ellipsis g c =
    λ context. prop_made (g.N.Numbers.functions c.args.numbers.now) context c.args.look k.Ellipsis
    c.spread_prop.result c.args.parts.now c.spread_prop.new.parts c.in-Ellipsis.is (c.spread_prop.ensures context
    c.args.look)

pub returns-in-Star : goal.returns-in-Star
returns-in-Star g c =
    λ context. prop_made (g.N.Numbers.functions c.args.numbers.now) context c.args.look k.Star c.generator.result
    c.args.parts.now c.generator.new.parts c.in-Star.is (c.generator.ensures context c.args.look)

pub returns-in-Get : goal.returns-in-Get
returns-in-Get g c =
    λ context. prop_made (g.N.Numbers.functions c.args.numbers.now) context c.args.look k.Get c.getter_prop.result
    c.args.parts.now c.getter_prop.new.parts c.in-Get.is (c.getter_prop.ensures context)

pub returns-in-Set : goal.returns-in-Set
returns-in-Set g c =
    λ context. prop_made (g.N.Numbers.functions c.args.numbers.now) context c.args.look k.Set c.setter_prop.result
    c.args.parts.now c.setter_prop.new.parts c.in-Set.is (c.setter_prop.ensures context)

pub returns-in_default : goal.returns-in_default
returns-in_default g c =
    λ context. plain_made (g.N.Numbers.functions c.args.numbers.now) context c.args.look c.plain_prop.result
    c.args.parts.now c.plain_prop.new.parts c.in_default.not-Ellipsis c.in_default.not-Star c.in_default.not-Get
    c.in_default.not-Set (c.plain_prop.ensures context)
