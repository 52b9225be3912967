use Rattle.std.proofs.Common.{◌∷◌}
use Rattle.hz_tree.specs.declared.class.Class.TheVariants as k
use Rattle.hz_tree.specs.grammar.PrimaryRows.{template_rest_by}
use Rattle.hz_parts.specs.Values.{push_list, push_texts, push_tree, seen_token}
use Rattle.hz_parse_expr.proofs.MakesLaws.{item_made}
use Rattle.hz_parse_expr.proofs.RowLaws.{made_of}
use Rattle.hz_parse_expr.proofs.TemplateLaws.{text_made}
use Rattle.hz_parse_expr.proofs.primaries.templates.middle.Goals as goal

pub returns : goal.returns
returns c =
    λ context look. made_of (template_rest_by context look k.TemplateMiddle) _ c.first_item.result c.args.parts.now
    c.first_item.new.parts c.first_item.ensures
    (λ h parts below e.
    let first = seen_token parts.0 in
    let hole = parts.1.0 in
    let rest = parts.1.1.1.0 in
    item_made hole rest.1 c.first_text.new.parts c.first_item.new.parts (push_texts (first.text ∷ rest.0) below) h
    (text_made first rest.0 c.args.parts.now c.first_text.new.parts (push_list rest.1 (push_tree hole below))
    c.in_ok-first_text.ensures e))
