use Rattle.std.proofs.Common.{◌∙◌, [], ◌∷◌, ap}
use Rattle.hz_tree.specs.declared.class.Class.TheVariants as k
use Rattle.hz_tree.specs.grammar.PrimaryRows.{primary_by}
use Rattle.hz_parts.specs.declared.parts.Parts.{Parts as Stacks}
use Rattle.hz_parts.specs.Values.{seen_token, seen_told}
use Rattle.hz_parse_expr.proofs.RowLaws.{made_of}
use Rattle.hz_parse_expr.proofs.TemplateLaws.{template_made}
use Rattle.hz_parse_expr.proofs.primaries.templates.whole.Goals as goal

pub returns : goal.returns
returns c =
    λ context look. made_of (primary_by context look k.TemplateWhole) _ c.template.result c.args.parts.now
    c.template.new.parts c.template.ensures
    (λ h parts below e.
    let begun = seen_told parts.0 in
    let first = seen_token parts.1.0 in
    template_made begun (first.text ∷ []) [] c.last_text.new.parts c.template.new.parts below h
    (c.in_ok-last_text.ensures first (begun ∷ below.seen) (ap (λ (s : Stacks). s.seen) e)
    ∙ ap (λ (s : Stacks). record s {
      seen = begun ∷ below.seen;
      texts = (first.text ∷ []) ∷ s.texts;
      lists = [] ∷ s.lists;
    }) e))
