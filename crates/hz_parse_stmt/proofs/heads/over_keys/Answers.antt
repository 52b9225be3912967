use Rattle.hz_tree.specs.declared.class.Class.TheVariants as k
use Rattle.hz_tree.specs.grammar.HeadRows.{declared_head_row}
use Rattle.hz_parts.specs.Values.{seen_token}
use Rattle.hz_parse_expr.proofs.RowLaws.{made_of}
use Rattle.hz_parse_stmt.proofs.heads.over_keys.Goals as goal

pub returns : goal.returns
returns c =
    λ word context. made_of (declared_head_row word context k.In) _ c.goes_over.result c.args.parts.now c.goes_over.new.parts
    c.goes_over.ensures (λ h parts below. h (seen_token parts.0) parts.1.0 below)
