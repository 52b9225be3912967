use Rattle.std.proofs.Common.{Ok}
use Rattle.hz_tree.specs.declared.nonterminal.Nonterminal.TheVariants as n
use Rattle.hz_parse_expr.proofs.PrimaryLaws.{word_made}
use Rattle.hz_parse_expr.proofs.RowLaws.{row_made}
use Rattle.hz_parse_expr.proofs.primaries.make_primary.Goals as goal

pub returns-in-OptionalTail : goal.returns-in-OptionalTail
returns-in-OptionalTail g c =
    row_made (g.N.Numbers.functions c.args.numbers.now) c.args.mark.nonterminal (n.OptionalTail c.in-OptionalTail.field-0)
    c.args.mark.look c.optional_tail.result c.args.parts.now c.optional_tail.new.parts c.in-OptionalTail.is
    (c.optional_tail.ensures c.in-OptionalTail.field-0)

pub returns-in-Word : goal.returns-in-Word
returns-in-Word g c =
    row_made (g.N.Numbers.functions c.args.numbers.now) c.args.mark.nonterminal n.Word c.args.mark.look (Ok tt)
    c.args.parts.now c.args.parts.now c.in-Word.is (word_made c.args.mark.look c.args.parts.now)

pub returns-in-Members : goal.returns-in-Members
returns-in-Members g c =
    row_made (g.N.Numbers.functions c.args.numbers.now) c.args.mark.nonterminal (n.Members c.in-Members.field-0)
    c.args.mark.look c.members.result c.args.parts.now c.members.new.parts c.in-Members.is
    (c.members.ensures c.in-Members.field-0)

pub returns-in-NewArgs : goal.returns-in-NewArgs
returns-in-NewArgs g c =
    row_made (g.N.Numbers.functions c.args.numbers.now) c.args.mark.nonterminal (n.NewArgs c.in-NewArgs.field-0)
    c.args.mark.look c.new_args.result c.args.parts.now c.new_args.new.parts c.in-NewArgs.is
    (c.new_args.ensures c.in-NewArgs.field-0)

pub returns-in-Args : goal.returns-in-Args
returns-in-Args g c =
    row_made (g.N.Numbers.functions c.args.numbers.now) c.args.mark.nonterminal (n.Args c.in-Args.field-0)
    c.args.mark.look c.args-in-Args.result c.args.parts.now c.args-in-Args.new.parts c.in-Args.is
    (c.args-in-Args.ensures c.in-Args.field-0)

pub returns-in-Arguments : goal.returns-in-Arguments
returns-in-Arguments g c =
    row_made (g.N.Numbers.functions c.args.numbers.now) c.args.mark.nonterminal (n.Arguments c.in-Arguments.field-0)
    c.args.mark.look c.arguments.result c.args.parts.now c.arguments.new.parts c.in-Arguments.is
    (c.arguments.ensures c.in-Arguments.field-0)

pub returns-in-MoreArguments : goal.returns-in-MoreArguments
returns-in-MoreArguments g c =
    row_made (g.N.Numbers.functions c.args.numbers.now) c.args.mark.nonterminal (n.MoreArguments c.in-MoreArguments.field-0)
    c.args.mark.look c.more_arguments.result c.args.parts.now c.more_arguments.new.parts c.in-MoreArguments.is
    (c.more_arguments.ensures c.in-MoreArguments.field-0)

pub returns-in-Argument : goal.returns-in-Argument
returns-in-Argument g c =
    row_made (g.N.Numbers.functions c.args.numbers.now) c.args.mark.nonterminal (n.Argument c.in-Argument.field-0)
    c.args.mark.look c.argument.result c.args.parts.now c.argument.new.parts c.in-Argument.is
    (c.argument.ensures c.in-Argument.field-0)

pub returns-in-Primary : goal.returns-in-Primary
returns-in-Primary g c =
    row_made (g.N.Numbers.functions c.args.numbers.now) c.args.mark.nonterminal (n.Primary c.in-Primary.field-0)
    c.args.mark.look c.primary.result c.args.parts.now c.primary.new.parts c.in-Primary.is
    (c.primary.ensures c.in-Primary.field-0)

pub returns-in-TemplateRest : goal.returns-in-TemplateRest
returns-in-TemplateRest g c =
    row_made (g.N.Numbers.functions c.args.numbers.now) c.args.mark.nonterminal (n.TemplateRest c.in-TemplateRest.field-0)
    c.args.mark.look c.template_rest.result c.args.parts.now c.template_rest.new.parts c.in-TemplateRest.is
    (c.template_rest.ensures c.in-TemplateRest.field-0 c.args.mark.look)

pub returns-in-Elements : goal.returns-in-Elements
returns-in-Elements g c =
    row_made (g.N.Numbers.functions c.args.numbers.now) c.args.mark.nonterminal (n.Elements c.in-Elements.field-0)
    c.args.mark.look c.elements.result c.args.parts.now c.elements.new.parts c.in-Elements.is
    (c.elements.ensures c.in-Elements.field-0)

pub returns-in-MoreElements : goal.returns-in-MoreElements
returns-in-MoreElements g c =
    row_made (g.N.Numbers.functions c.args.numbers.now) c.args.mark.nonterminal (n.MoreElements c.in-MoreElements.field-0)
    c.args.mark.look c.more_elements.result c.args.parts.now c.more_elements.new.parts c.in-MoreElements.is
    (c.more_elements.ensures c.in-MoreElements.field-0)
