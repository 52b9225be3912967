use Rattle.std.proofs.Common.{rules}
use Rattle.hz_rows.proofs.Rows.{clauses_row-default, clauses_row-first_default}
use Rattle.hz_rows.proofs.statements.clauses_row.Goals as goal

pub returns-then-has_default : goal.returns-then-has_default
returns-then-has_default c =
    rw (clauses_row-default c.args.context c.args.has_default c.args.one c.in-Default.is c.if-has_default.true)
    (search rules)

pub returns-else-has_default : goal.returns-else-has_default
returns-else-has_default c =
    rw (clauses_row-first_default c.args.context c.args.has_default c.args.one c.in-Default.is c.if-has_default.false)
    c.push-else-has_default.ensures
