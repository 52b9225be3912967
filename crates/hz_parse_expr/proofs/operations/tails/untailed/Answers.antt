use Rattle.hz_tree.specs.declared.operator.Level.TheVariants as level
use Rattle.hz_tree.specs.grammar.OperatorRows.{rests_row}
use Rattle.hz_parse_expr.proofs.OperationLaws.{untailed_made}
use Rattle.hz_parse_expr.proofs.operations.tails.untailed.Goals as goal

pub returns : goal.returns
returns c =
    untailed_made c.args.loosest c.args.context (rests_row c.args.loosest level.Update c.args.context c.args.look)
    c.no_items.result c.args.parts.now c.rests.new.parts c.no_items.new.parts c.in_ok-rests.ensures c.no_items.ensures
