use Rattle.std.proofs.Common.{◌∙◌, ◌∷◌, ap}
use Rattle.hz_tree.specs.declared.class.Class.TheVariants as k
use Rattle.hz_tree.specs.declared.tree.Tree.TheVariants as t
use Rattle.hz_tree.specs.grammar.PrimaryRows.{members_row}
use Rattle.hz_parts.specs.declared.parts.Parts.{Parts as Stacks}
use Rattle.hz_parts.specs.Values.{seen_token}
use Rattle.hz_parse_expr.proofs.MakesLaws.{item_made}
use Rattle.hz_parse_expr.proofs.RowLaws.{made_of}
use Rattle.hz_parse_expr.proofs.primaries.members.index_before.Goals as goal

pub returns : goal.returns
returns c =
    λ context. made_of (members_row context k.LeftBracket) _ c.first_item.result c.args.parts.now
    c.first_item.new.parts c.first_item.ensures
    (λ h parts below e.
    let first = seen_token parts.0 in
    let key = parts.1.0 in
    let last = seen_token parts.1.1.1.0 in
    let tree = t.Index first.at key in
    item_made tree parts.1.1.1.1.1.0 c.index.new.parts c.first_item.new.parts below h
    (c.in_ok-index.ensures first last below.seen key below.trees (ap (λ (s : Stacks). s.seen) e)
    (ap (λ (s : Stacks). s.trees) e)
    ∙ ap (λ (s : Stacks). record s { seen = below.seen; trees = tree ∷ below.trees }) e))
