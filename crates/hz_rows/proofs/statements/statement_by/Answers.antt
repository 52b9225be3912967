use Rattle.std.proofs.Common.{rules}
use Rattle.hz_rows.proofs.statements.statement_by.Goals as goal

pub returns-in-If : goal.returns-in-If
returns-in-If c = let h = c.if_statement.ensures c.args.look in search rules

pub returns-in-Do : goal.returns-in-Do
returns-in-Do c = let h = c.do_statement.ensures c.args.look in search rules

pub returns-in-While : goal.returns-in-While
returns-in-While c = let h = c.while_statement.ensures c.args.look in search rules

pub returns-in-For : goal.returns-in-For
returns-in-For c = let h = c.for_statement.ensures c.args.look in search rules

pub returns-in-Try : goal.returns-in-Try
returns-in-Try c = let h = c.try_statement.ensures c.args.look in search rules
