use Rattle.hz_parse_stmt.proofs.RowLaws.{no_initial_made}
use Rattle.hz_parse_stmt.proofs.variables.initial.Goals as goal

pub returns-in_default : goal.returns-in_default
returns-in_default c =
    λ context. no_initial_made c.args.word context c.args.one c.no_value.result c.args.parts.now c.no_value.new.parts
    c.in_default.not-Assign c.no_value.ensures
