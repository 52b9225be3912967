use Rattle.std.proofs.Common.{true, false}
use Rattle.hz_tree.specs.declared.class.Class.TheVariants as k
use Rattle.hz_parse_stmt.proofs.RowLaws.{clauses_made_by}
use Rattle.hz_parse_stmt.proofs.handlers.clauses.Goals as goal

pub returns-then-has_default : goal.returns-then-has_default
returns-then-has_default c =
    λ context. clauses_made_by context c.args.has_default true c.args.one k.Default c.no_clauses.result
    c.args.parts.now c.no_clauses.new.parts c.if-has_default.true c.in-Default.is (c.no_clauses.ensures context)

pub returns-else-has_default : goal.returns-else-has_default
returns-else-has_default c =
    λ context. clauses_made_by context c.args.has_default false c.args.one k.Default c.default_clause.result
    c.args.parts.now c.default_clause.new.parts c.if-has_default.false c.in-Default.is
    (c.default_clause.ensures context)
