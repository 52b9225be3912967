use Rattle.hz_tree.specs.declared.class.Class.TheVariants as k
use Rattle.hz_tree.specs.grammar.PrimaryRows.{template_rest_by}
use Rattle.hz_parse_expr.proofs.RowLaws.{made_by}
use Rattle.hz_parse_expr.proofs.primaries.templates.template_rest.Goals as goal

pub returns-in-TemplateMiddle : goal.returns-in-TemplateMiddle
returns-in-TemplateMiddle c =
    λ context look. made_by (template_rest_by context look) c.args.one k.TemplateMiddle c.middle.result
    c.args.parts.now c.middle.new.parts c.in-TemplateMiddle.is (c.middle.ensures context look)
