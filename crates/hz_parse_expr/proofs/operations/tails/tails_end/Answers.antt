use Rattle.std.proofs.Common.{[], Bool, true, ◌∙◌, ap, subst, sym}
use Rattle.hz_tree.specs.declared.nonterminal.Nonterminal.TheVariants as n
use Rattle.hz_tree.specs.grammar.OperatorRows.{tails_end}
use Rattle.hz_parts.specs.Makes.{Makes}
use Rattle.hz_parts.specs.Values.{push_list}
use Rattle.hz_parse_expr.proofs.RowLaws.{made_of}
use Rattle.hz_parse_expr.proofs.operations.tails.tails_end.Goals as goal

pub returns-then-tailed : goal.returns-then-tailed
returns-then-tailed c =
    let loosest = c.args.loosest in
    let context = c.args.context in
    subst (λ (tailed : Bool). Makes (n.Tails tailed loosest context) (tails_end tailed loosest context c.args.look)
    c.no_items.result c.args.parts.now c.no_items.new.parts)
    (sym c.if-tailed.true)
    (made_of (tails_end true loosest context c.args.look) _ c.no_items.result c.args.parts.now c.no_items.new.parts
    c.no_items.ensures (λ h parts below e. h ∙ ap (push_list []) e))

pub returns-else-tailed : goal.returns-else-tailed
returns-else-tailed c =
    let loosest = c.args.loosest in
    let context = c.args.context in
    subst (λ (tailed : Bool). Makes (n.Tails tailed loosest context) (tails_end tailed loosest context c.args.look)
    c.untailed.result c.args.parts.now c.untailed.new.parts)
    (sym c.if-tailed.false) c.untailed.ensures
