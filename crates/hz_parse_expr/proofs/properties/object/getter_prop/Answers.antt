use Rattle.std.proofs.Common.{true, false, sym, ◌∙◌}
use Rattle.hz_tree.specs.grammar.Classes.{begins_key}
use Rattle.hz_parse_expr.proofs.PropertyLaws.{getter_made}
use Rattle.hz_parse_expr.proofs.properties.object.getter_prop.Goals as goal

pub returns-then-begins_key : goal.returns-then-begins_key
returns-then-begins_key g c =
    λ context. getter_made (g.N.Numbers.functions c.args.numbers.now) context c.args.look (begins_key c.args.look.two)
    true c.getter.result c.args.parts.now c.getter.new.parts (sym c.begins_key.ensures ∙ c.if-begins_key.true)
    (c.getter.ensures context c.args.look)

pub returns-else-begins_key : goal.returns-else-begins_key
returns-else-begins_key g c =
    λ context. getter_made (g.N.Numbers.functions c.args.numbers.now) context c.args.look (begins_key c.args.look.two)
    false c.plain_prop.result c.args.parts.now c.plain_prop.new.parts
    (sym c.begins_key.ensures ∙ c.if-begins_key.false) (c.plain_prop.ensures context)
