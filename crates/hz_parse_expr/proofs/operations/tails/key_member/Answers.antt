use Rattle.std.proofs.Common.{◌∷◌, ◌∙◌, ap, map}
use Rattle.hz_tree.specs.declared.class.Class.TheVariants as k
use Rattle.hz_tree.specs.declared.tree.Tree.TheVariants as t
use Rattle.hz_tree.specs.grammar.OperatorRows.{tails_by}
use Rattle.hz_parts.specs.declared.parts.Parts.{Parts}
use Rattle.hz_parts.specs.Values.{push_behind, seen_token, shown}
use Rattle.hz_parse_expr.proofs.MakesLaws.{item_made}
use Rattle.hz_parse_expr.proofs.RowLaws.{made_of}
use Rattle.hz_parse_expr.proofs.operations.tails.key_member.Goals as goal

pub returns : goal.returns
returns c =
    λ tailed loosest context look. made_of (tails_by tailed loosest context look k.LeftBracket) _ c.first_item.result
    c.args.parts.now c.first_item.new.parts c.first_item.ensures
    (λ h parts below e.
    let first = seen_token parts.0 in
    let key = parts.1.0 in
    let after = parts.1.1.1.1.1.0 in
    let tree = t.Index first.at key in
    item_made tree after.tails c.index.new.parts c.first_item.new.parts (push_behind (map shown after.operators) below)
    h
    (c.in_ok-index.ensures first (seen_token parts.1.1.1.0) below.seen key below.trees (ap (λ (p : Parts). p.seen) e)
    (ap (λ (p : Parts). p.trees) e)
    ∙ ap (λ (p : Parts). record p { seen = below.seen; trees = tree ∷ below.trees }) e))
