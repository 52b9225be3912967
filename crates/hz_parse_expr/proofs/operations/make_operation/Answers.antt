use Rattle.std.proofs.Common.{Ok}
use Rattle.hz_tree.specs.declared.nonterminal.Nonterminal.TheVariants as n
use Rattle.hz_parse_expr.proofs.OperationLaws.{arrow_body_made}
use Rattle.hz_parse_expr.proofs.RowLaws.{row_made}
use Rattle.hz_parse_expr.proofs.operations.make_operation.Goals as goal

pub returns-in-Expr : goal.returns-in-Expr
returns-in-Expr g c =
    row_made (g.N.Numbers.functions c.args.numbers.now) c.args.mark.nonterminal (n.Expr c.in-Expr.field-0)
    c.args.mark.look c.expr.result c.args.parts.now c.expr.new.parts c.in-Expr.is (c.expr.ensures c.in-Expr.field-0)

pub returns-in-ExprRest : goal.returns-in-ExprRest
returns-in-ExprRest g c =
    row_made (g.N.Numbers.functions c.args.numbers.now) c.args.mark.nonterminal (n.ExprRest c.in-ExprRest.field-0
    c.in-ExprRest.field-1) c.args.mark.look c.expr_rest.result c.args.parts.now c.expr_rest.new.parts c.in-ExprRest.is
    (c.expr_rest.ensures c.in-ExprRest.field-0 c.in-ExprRest.field-1)

pub returns-in-Operation : goal.returns-in-Operation
returns-in-Operation g c =
    row_made (g.N.Numbers.functions c.args.numbers.now) c.args.mark.nonterminal (n.Operation c.in-Operation.loosest
    c.in-Operation.context) c.args.mark.look c.operation.result c.args.parts.now c.operation.new.parts
    c.in-Operation.is c.operation.ensures

pub returns-in-Tails : goal.returns-in-Tails
returns-in-Tails g c =
    row_made (g.N.Numbers.functions c.args.numbers.now) c.args.mark.nonterminal (n.Tails c.in-Tails.tailed
    c.in-Tails.loosest c.in-Tails.context) c.args.mark.look c.tails.result c.args.parts.now c.tails.new.parts
    c.in-Tails.is c.tails.ensures

pub returns-in-Rests : goal.returns-in-Rests
returns-in-Rests g c =
    row_made (g.N.Numbers.functions c.args.numbers.now) c.args.mark.nonterminal (n.Rests c.in-Rests.loosest
    c.in-Rests.tightest c.in-Rests.context) c.args.mark.look c.rests.result c.args.parts.now c.rests.new.parts
    c.in-Rests.is c.rests.ensures

pub returns-in-ArrowSign : goal.returns-in-ArrowSign
returns-in-ArrowSign g c =
    row_made (g.N.Numbers.functions c.args.numbers.now) c.args.mark.nonterminal n.ArrowSign c.args.mark.look
    c.arrow_sign.result c.args.parts.now c.arrow_sign.new.parts c.in-ArrowSign.is c.arrow_sign.ensures

pub returns-in-ArrowBody : goal.returns-in-ArrowBody
returns-in-ArrowBody g c =
    row_made (g.N.Numbers.functions c.args.numbers.now) c.args.mark.nonterminal (n.ArrowBody c.in-ArrowBody.field-0)
    c.args.mark.look (Ok tt) c.args.parts.now c.args.parts.now c.in-ArrowBody.is
    (arrow_body_made c.in-ArrowBody.field-0 c.args.mark.look.one c.args.parts.now)

pub returns-in-YieldValue : goal.returns-in-YieldValue
returns-in-YieldValue g c =
    row_made (g.N.Numbers.functions c.args.numbers.now) c.args.mark.nonterminal (n.YieldValue c.in-YieldValue.field-0)
    c.args.mark.look c.yield_value.result c.args.parts.now c.yield_value.new.parts c.in-YieldValue.is
    (c.yield_value.ensures c.in-YieldValue.field-0)
