use Rattle.std.proofs.Common.{Ok}
use Rattle.hz_tree.specs.declared.nonterminal.Nonterminal.TheVariants as n
use Rattle.hz_parse_expr.proofs.RowLaws.{row_made}
use Rattle.hz_parse_stmt.proofs.RowLaws.{thrown_made}
use Rattle.hz_parse_stmt.proofs.make.make_own_statement.Goals as goal

pub returns-in-Statement : goal.returns-in-Statement
returns-in-Statement c =
    λ functions. row_made functions c.args.mark.nonterminal (n.Statement c.in-Statement.field-0) c.args.mark.look
    c.statement.result c.args.parts.now c.statement.new.parts c.in-Statement.is (c.statement.ensures
    c.in-Statement.field-0)

pub returns-in-Block : goal.returns-in-Block
returns-in-Block c =
    λ functions. row_made functions c.args.mark.nonterminal (n.Block c.in-Block.field-0) c.args.mark.look
    c.block.result c.args.parts.now c.block.new.parts c.in-Block.is (c.block.ensures c.in-Block.field-0)

pub returns-in-Else : goal.returns-in-Else
returns-in-Else c =
    λ functions. row_made functions c.args.mark.nonterminal (n.Else c.in-Else.field-0) c.args.mark.look
    c.otherwise.result c.args.parts.now c.otherwise.new.parts c.in-Else.is (c.otherwise.ensures c.in-Else.field-0)

pub returns-in-Label : goal.returns-in-Label
returns-in-Label c =
    λ functions. row_made functions c.args.mark.nonterminal (n.Label c.in-Label.jump) c.args.mark.look c.label.result
    c.args.parts.now c.label.new.parts c.in-Label.is c.label.ensures

pub returns-in-ReturnValue : goal.returns-in-ReturnValue
returns-in-ReturnValue c =
    λ functions. row_made functions c.args.mark.nonterminal (n.ReturnValue c.in-ReturnValue.field-0) c.args.mark.look
    c.return_value.result c.args.parts.now c.return_value.new.parts c.in-ReturnValue.is (c.return_value.ensures
    c.in-ReturnValue.field-0)

pub returns-in-ThrowValue : goal.returns-in-ThrowValue
returns-in-ThrowValue c =
    λ functions. row_made functions c.args.mark.nonterminal (n.ThrowValue c.in-ThrowValue.field-0) c.args.mark.look
    (Ok tt) c.args.parts.now c.args.parts.now c.in-ThrowValue.is (thrown_made c.in-ThrowValue.field-0 c.args.mark.look
    c.args.mark.look.one_newline c.args.parts.now)

pub returns-in-Clauses : goal.returns-in-Clauses
returns-in-Clauses c =
    λ functions. row_made functions c.args.mark.nonterminal (n.Clauses c.in-Clauses.field-0 c.in-Clauses.has_default)
    c.args.mark.look c.clauses.result c.args.parts.now c.clauses.new.parts c.in-Clauses.is (c.clauses.ensures
    c.in-Clauses.field-0)

pub returns-in-Handlers : goal.returns-in-Handlers
returns-in-Handlers c =
    λ functions. row_made functions c.args.mark.nonterminal (n.Handlers c.in-Handlers.field-0) c.args.mark.look
    c.handlers.result c.args.parts.now c.handlers.new.parts c.in-Handlers.is (c.handlers.ensures
    c.in-Handlers.field-0)

pub returns-in-CatchClause : goal.returns-in-CatchClause
returns-in-CatchClause c =
    λ functions. row_made functions c.args.mark.nonterminal (n.CatchClause c.in-CatchClause.field-0) c.args.mark.look
    c.catch_clause.result c.args.parts.now c.catch_clause.new.parts c.in-CatchClause.is (c.catch_clause.ensures
    c.in-CatchClause.field-0)

pub returns-in-CatchName : goal.returns-in-CatchName
returns-in-CatchName c =
    λ functions. row_made functions c.args.mark.nonterminal n.CatchName c.args.mark.look c.catch_name.result
    c.args.parts.now c.catch_name.new.parts c.in-CatchName.is c.catch_name.ensures

pub returns-in-Finally : goal.returns-in-Finally
returns-in-Finally c =
    λ functions. row_made functions c.args.mark.nonterminal (n.Finally c.in-Finally.field-0) c.args.mark.look
    c.finally.result c.args.parts.now c.finally.new.parts c.in-Finally.is (c.finally.ensures c.in-Finally.field-0)
