use Rattle.std.proofs.Common.{◌∷◌}
use Rattle.hz_tree.specs.declared.class.Class.TheVariants as k
use Rattle.hz_tree.specs.grammar.PrimaryRows.{primary_by}
use Rattle.hz_parts.specs.Values.{push_list, push_seen, push_texts, push_tree, seen_token, seen_told}
use Rattle.hz_parse_expr.proofs.MakesLaws.{item_made}
use Rattle.hz_parse_expr.proofs.RowLaws.{made_of}
use Rattle.hz_parse_expr.proofs.TemplateLaws.{template_made, text_made}
use Rattle.hz_parse_expr.proofs.primaries.templates.with_holes.Goals as goal

pub returns : goal.returns
returns c =
    λ context look. made_of (primary_by context look k.TemplateHead) _ c.template.result c.args.parts.now
    c.template.new.parts c.template.ensures
    (λ h parts below e.
    let begun = seen_told parts.0 in
    let first = seen_token parts.1.0 in
    let hole = parts.1.1.0 in
    let rest = parts.1.1.1.1.0 in
    template_made begun (first.text ∷ rest.0) (hole ∷ rest.1) c.first_item.new.parts c.template.new.parts below h
    (item_made hole rest.1 c.first_text.new.parts c.first_item.new.parts
    (push_texts (first.text ∷ rest.0) (push_seen begun below)) c.in_ok-first_item.ensures
    (text_made first rest.0 c.args.parts.now c.first_text.new.parts
    (push_list rest.1 (push_tree hole (push_seen begun below))) c.in_ok-first_text.ensures e)))
