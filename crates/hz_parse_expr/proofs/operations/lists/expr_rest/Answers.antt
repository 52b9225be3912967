use Rattle.std.proofs.Common.{◌∙◌, ap, drop}
use Rattle.hz_tree.specs.declared.class.Class.TheVariants as k
use Rattle.hz_tree.specs.grammar.ExpressionRows.{expr_rest_row}
use Rattle.hz_parts.specs.declared.parts.Parts.{Parts}
use Rattle.hz_parse_expr.proofs.MakesLaws.{item_made}
use Rattle.hz_parse_expr.proofs.OperationLaws.{expr_end_made}
use Rattle.hz_parse_expr.proofs.RowLaws.{made_by, made_of}
use Rattle.hz_parse_expr.proofs.operations.lists.expr_rest.Goals as goal

pub returns-in-Comma : goal.returns-in-Comma
returns-in-Comma c =
    λ listed context. made_by (expr_rest_row listed context) c.args.one k.Comma c.first_item.result c.args.parts.now
    c.first_item.new.parts c.in-Comma.is
    (made_of (expr_rest_row listed context k.Comma) _ c.first_item.result c.args.parts.now c.first_item.new.parts
    c.first_item.ensures
    (λ h parts below e. item_made parts.1.0 parts.1.1.1.0 c.past_token.new.parts c.first_item.new.parts below h
    (c.past_token.ensures ∙ ap (λ (p : Parts). record p { seen = drop 1 p.seen }) e)))

pub returns-in_default : goal.returns-in_default
returns-in_default c =
    λ listed context. expr_end_made listed context c.args.one c.no_items.result c.args.parts.now c.no_items.new.parts
    c.in_default.not-Comma c.no_items.ensures
