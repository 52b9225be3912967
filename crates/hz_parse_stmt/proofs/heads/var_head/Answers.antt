use Rattle.hz_tree.specs.declared.class.Class.TheVariants as k
use Rattle.hz_tree.specs.grammar.HeadRows.{head_by}
use Rattle.hz_parts.specs.Values.{seen_token, shown_name}
use Rattle.hz_parse_expr.proofs.RowLaws.{made_of}
use Rattle.hz_parse_stmt.proofs.heads.var_head.Goals as goal

pub returns : goal.returns
returns c =
    λ context look. made_of (head_by context look k.Var) _ c.declares.result c.args.parts.now c.declares.new.parts
    c.declares.ensures
    (λ h parts below. h (seen_token parts.0) (seen_token parts.1.1.1.0) parts.1.0 (shown_name parts.1.1.0)
    parts.1.1.1.1.0 below)
