use Rattle.hz_tree.specs.declared.nonterminal.Nonterminal.TheVariants as n
use Rattle.hz_parse_expr.proofs.RowLaws.{row_made}
use Rattle.hz_parse_stmt.proofs.make.make_head.Goals as goal

pub returns-in-ForOpen : goal.returns-in-ForOpen
returns-in-ForOpen c =
    λ functions. row_made functions c.args.mark.nonterminal n.ForOpen c.args.mark.look c.for_open.result
    c.args.parts.now c.for_open.new.parts c.in-ForOpen.is c.for_open.ensures

pub returns-in-Head : goal.returns-in-Head
returns-in-Head c =
    λ functions. row_made functions c.args.mark.nonterminal (n.Head c.in-Head.context) c.args.mark.look c.head.result
    c.args.parts.now c.head.new.parts c.in-Head.is c.head.ensures

pub returns-in-DeclaredHead : goal.returns-in-DeclaredHead
returns-in-DeclaredHead c =
    λ functions. row_made functions c.args.mark.nonterminal (n.DeclaredHead c.in-DeclaredHead.word
    c.in-DeclaredHead.field-1) c.args.mark.look c.declared_head.result c.args.parts.now c.declared_head.new.parts
    c.in-DeclaredHead.is (c.declared_head.ensures c.in-DeclaredHead.field-1)

pub returns-in-LeftHead : goal.returns-in-LeftHead
returns-in-LeftHead c =
    λ functions. row_made functions c.args.mark.nonterminal (n.LeftHead c.in-LeftHead.field-0) c.args.mark.look
    c.left_head.result c.args.parts.now c.left_head.new.parts c.in-LeftHead.is (c.left_head.ensures
    c.in-LeftHead.field-0)

pub returns-in-OptionalExpr : goal.returns-in-OptionalExpr
returns-in-OptionalExpr c =
    λ functions. row_made functions c.args.mark.nonterminal (n.OptionalExpr c.in-OptionalExpr.field-0)
    c.args.mark.look c.optional_expr.result c.args.parts.now c.optional_expr.new.parts c.in-OptionalExpr.is
    (c.optional_expr.ensures c.in-OptionalExpr.field-0)
