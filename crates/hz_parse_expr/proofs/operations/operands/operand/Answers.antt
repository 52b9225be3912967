use Rattle.std.proofs.Common.{◌∙◌, ap, map, None, Some, sym}
use Rattle.hz_tree.specs.declared.tree.Tree.{Tree}
use Rattle.hz_tree.specs.declared.tree.Tree.TheVariants as t
use Rattle.hz_tree.specs.grammar.OperatorRows.{operand_row, tailed}
use Rattle.hz_tree.specs.grammar.Operators.{unary_operator}
use Rattle.hz_parts.specs.Values.{push_tree, seen_token, seen_told, shown}
use Rattle.hz_parse_expr.proofs.OperationLaws.{made_where, operated_shown}
use Rattle.hz_parse_expr.proofs.RowLaws.{made_of}
use Rattle.hz_parse_expr.proofs.operations.operands.operand.Goals as goal

pub returns-in-Some : goal.returns-in-Some
returns-in-Some c =
    let operator = c.in-Some.operator in
    λ loosest context. made_where (operand_row loosest context c.args.one) (unary_operator c.args.one) (Some operator)
    c.unary.result c.args.parts.now c.unary.new.parts (sym c.unary_operator.ensures ∙ c.in-Some.is)
    (made_of (operand_row loosest context c.args.one (Some operator)) _ c.unary.result c.args.parts.now
    c.unary.new.parts c.unary.ensures
    (λ h parts below e.
    h (seen_told parts.0) (seen_token parts.1.0) parts.1.1.0 (map shown parts.1.1.1.1.1.1.0) below e
    ∙ ap (λ (tree : Tree). push_tree tree below)
    (operated_shown (t.Unary parts.0.at operator parts.1.1.0) parts.1.1.1.1.1.1.0)))

pub returns-in-None : goal.returns-in-None
returns-in-None c =
    λ loosest context. made_where (operand_row loosest context c.args.one) (unary_operator c.args.one) None
    c.primary.result c.args.parts.now c.primary.new.parts (sym c.unary_operator.ensures ∙ c.in-None.is)
    (made_of (operand_row loosest context c.args.one None) _ c.primary.result c.args.parts.now c.primary.new.parts
    c.primary.ensures
    (λ h parts below e.
    h parts.0 parts.1.0.tails (map shown parts.1.0.operators) below e
    ∙ ap (λ (tree : Tree). push_tree tree below)
    (operated_shown (tailed parts.0 parts.1.0.tails) parts.1.0.operators)))
