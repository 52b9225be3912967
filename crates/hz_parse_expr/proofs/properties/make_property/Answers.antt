use Rattle.std.proofs.Common.{Ok}
use Rattle.hz_tree.specs.declared.nonterminal.Nonterminal.TheVariants as n
use Rattle.hz_parse_expr.proofs.PropertyLaws.{shorthand_end_made}
use Rattle.hz_parse_expr.proofs.RowLaws.{row_made}
use Rattle.hz_parse_expr.proofs.properties.make_property.Goals as goal

pub returns-in-Props : goal.returns-in-Props
returns-in-Props g c =
    row_made (g.N.Numbers.functions c.args.numbers.now) c.args.mark.nonterminal (n.Props c.in-Props.field-0)
    c.args.mark.look c.props.result c.args.parts.now c.props.new.parts c.in-Props.is (c.props.ensures
    c.in-Props.field-0)

pub returns-in-MoreProps : goal.returns-in-MoreProps
returns-in-MoreProps g c =
    row_made (g.N.Numbers.functions c.args.numbers.now) c.args.mark.nonterminal (n.MoreProps c.in-MoreProps.field-0)
    c.args.mark.look c.more_props.result c.args.parts.now c.more_props.new.parts c.in-MoreProps.is
    (c.more_props.ensures c.in-MoreProps.field-0)

pub returns-in-Prop : goal.returns-in-Prop
returns-in-Prop g c =
    row_made (g.N.Numbers.functions c.args.numbers.now) c.args.mark.nonterminal (n.Prop c.in-Prop.field-0)
    c.args.mark.look c.prop.result c.args.parts.now c.prop.new.parts c.in-Prop.is (c.prop.ensures c.in-Prop.field-0)

pub returns-in-ShorthandEnd : goal.returns-in-ShorthandEnd
returns-in-ShorthandEnd g c =
    row_made (g.N.Numbers.functions c.args.numbers.now) c.args.mark.nonterminal n.ShorthandEnd c.args.mark.look
    (Ok tt) c.args.parts.now c.args.parts.now c.in-ShorthandEnd.is (shorthand_end_made c.args.mark.look.one
    c.args.parts.now)

pub returns-in-KeyRest : goal.returns-in-KeyRest
returns-in-KeyRest g c =
    row_made (g.N.Numbers.functions c.args.numbers.now) c.args.mark.nonterminal (n.KeyRest c.in-KeyRest.field-0)
    c.args.mark.look c.key_rest.result c.args.parts.now c.key_rest.new.parts c.in-KeyRest.is (c.key_rest.ensures
    c.in-KeyRest.field-0)

pub returns-in-Key : goal.returns-in-Key
returns-in-Key g c =
    row_made (g.N.Numbers.functions c.args.numbers.now) c.args.mark.nonterminal (n.Key c.in-Key.field-0)
    c.args.mark.look c.key.result c.args.parts.now c.key.new.parts c.in-Key.is (c.key.ensures c.in-Key.field-0
    c.args.mark.look)
