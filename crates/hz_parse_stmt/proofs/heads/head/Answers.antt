use Rattle.hz_tree.specs.declared.class.Class.TheVariants as k
use Rattle.hz_tree.specs.grammar.HeadRows.{head_by}
use Rattle.hz_parse_expr.proofs.RowLaws.{made_by}
use Rattle.hz_parse_stmt.proofs.heads.head.Goals as goal

pub returns-in-Var : goal.returns-in-Var
returns-in-Var c =
    made_by (head_by c.args.context c.args.look) c.args.look.one k.Var c.var_head.result c.args.parts.now
    c.var_head.new.parts c.in-Var.is (c.var_head.ensures c.args.context c.args.look)

pub returns-in-Semicolon : goal.returns-in-Semicolon
returns-in-Semicolon c =
    made_by (head_by c.args.context c.args.look) c.args.look.one k.Semicolon c.no_first.result c.args.parts.now
    c.no_first.new.parts c.in-Semicolon.is (c.no_first.ensures c.args.context c.args.look)
