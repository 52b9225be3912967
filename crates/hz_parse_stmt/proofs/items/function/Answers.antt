use Rattle.hz_tree.specs.declared.class.Class.TheVariants as k
use Rattle.hz_parts.specs.Values.{seen_token}
use Rattle.hz_parse_stmt.specs.Items.{declared}
use Rattle.hz_parse_expr.proofs.RowLaws.{made_of}
use Rattle.hz_parse_stmt.proofs.items.function.Goals as goal

pub returns : goal.returns
returns g c =
    λ context. made_of (declared (g.N.Numbers.functions c.args.numbers.now) context k.Name) _ c.inner.result
    c.args.parts.now c.inner.new.parts c.inner.ensures
    (λ h parts below. h (seen_token parts.1.0) parts.0.at parts.1.1.0 below)
