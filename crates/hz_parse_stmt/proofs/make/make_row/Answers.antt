use Rattle.std.proofs.Common.{sym, ◌∙◌}
use Rattle.hz_parse_stmt.proofs.GroupLaws.{other_is_expression}
use Rattle.hz_parse_stmt.proofs.make.make_row.Goals as goal

pub returns-in-Other : goal.returns-in-Other
returns-in-Other g c =
    c.make_expression.ensures
    (other_is_expression c.args.mark.nonterminal (sym c.group_of.ensures ∙ c.in-Other.is))
