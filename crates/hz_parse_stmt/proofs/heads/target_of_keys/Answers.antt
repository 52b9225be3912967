use Rattle.hz_tree.specs.declared.class.Class.TheVariants as k
use Rattle.hz_tree.specs.grammar.HeadRows.{left_head_row}
use Rattle.hz_parts.specs.Values.{seen_token}
use Rattle.hz_parse_expr.proofs.RowLaws.{made_of}
use Rattle.hz_parse_stmt.proofs.heads.target_of_keys.Goals as goal

pub returns : goal.returns
returns c =
    λ context. made_of (left_head_row context k.In) _ c.target_of.result c.args.parts.now c.target_of.new.parts
    c.target_of.ensures (λ h parts below. h (seen_token parts.1.1.0) parts.1.1.1.0 below)
