use Rattle.hz_tree.specs.declared.nonterminal.Nonterminal.TheVariants as n
use Rattle.hz_parse_expr.proofs.RowLaws.{row_made}
use Rattle.hz_parse_stmt.proofs.make.make_item.Goals as goal

pub returns-in-Script : goal.returns-in-Script
returns-in-Script g c =
    row_made (g.N.Numbers.functions c.args.numbers.now) c.args.mark.nonterminal n.Script c.args.mark.look
    c.script.result c.args.parts.now c.script.new.parts c.in-Script.is c.script.ensures

pub returns-in-Items : goal.returns-in-Items
returns-in-Items g c =
    row_made (g.N.Numbers.functions c.args.numbers.now) c.args.mark.nonterminal (n.Items c.in-Items.field-0)
    c.args.mark.look c.items.result c.args.parts.now c.items.new.parts c.in-Items.is (c.items.ensures
    c.in-Items.field-0)

pub returns-in-Item : goal.returns-in-Item
returns-in-Item g c =
    row_made (g.N.Numbers.functions c.args.numbers.now) c.args.mark.nonterminal (n.Item c.in-Item.field-0)
    c.args.mark.look c.item.result c.args.parts.now c.item.new.parts c.in-Item.is (c.item.ensures c.in-Item.field-0)

pub returns-in-Binds : goal.returns-in-Binds
returns-in-Binds g c =
    row_made (g.N.Numbers.functions c.args.numbers.now) c.args.mark.nonterminal (n.Binds c.in-Binds.word
    c.in-Binds.field-1) c.args.mark.look c.binds.result c.args.parts.now c.binds.new.parts c.in-Binds.is
    (c.binds.ensures c.in-Binds.field-1)

pub returns-in-Bind : goal.returns-in-Bind
returns-in-Bind g c =
    row_made (g.N.Numbers.functions c.args.numbers.now) c.args.mark.nonterminal (n.Bind c.in-Bind.word
    c.in-Bind.field-1) c.args.mark.look c.bind.result c.args.parts.now c.bind.new.parts c.in-Bind.is (c.bind.ensures
    c.in-Bind.field-1)

pub returns-in-MoreBinds : goal.returns-in-MoreBinds
returns-in-MoreBinds g c =
    row_made (g.N.Numbers.functions c.args.numbers.now) c.args.mark.nonterminal (n.MoreBinds c.in-MoreBinds.word
    c.in-MoreBinds.field-1) c.args.mark.look c.more_binds.result c.args.parts.now c.more_binds.new.parts
    c.in-MoreBinds.is (c.more_binds.ensures c.in-MoreBinds.field-1)

pub returns-in-Initial : goal.returns-in-Initial
returns-in-Initial g c =
    row_made (g.N.Numbers.functions c.args.numbers.now) c.args.mark.nonterminal (n.Initial c.in-Initial.word
    c.in-Initial.field-1) c.args.mark.look c.initial.result c.args.parts.now c.initial.new.parts c.in-Initial.is
    (c.initial.ensures c.in-Initial.field-1)

pub returns-in-Semi : goal.returns-in-Semi
returns-in-Semi g c =
    row_made (g.N.Numbers.functions c.args.numbers.now) c.args.mark.nonterminal n.Semi c.args.mark.look c.semi.result
    c.args.parts.now c.semi.new.parts c.in-Semi.is c.semi.ensures

pub returns-in-LooseSemi : goal.returns-in-LooseSemi
returns-in-LooseSemi g c =
    row_made (g.N.Numbers.functions c.args.numbers.now) c.args.mark.nonterminal n.LooseSemi c.args.mark.look
    c.loose_semi.result c.args.parts.now c.loose_semi.new.parts c.in-LooseSemi.is c.loose_semi.ensures
