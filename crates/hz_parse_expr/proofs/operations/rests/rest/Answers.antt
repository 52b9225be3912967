use Rattle.std.proofs.Common.{◌∷◌, ◌∙◌, ap, map}
use Rattle.hz_tree.specs.declared.class.Class.TheVariants as k
use Rattle.hz_tree.specs.grammar.OperatorRows.{rest_row}
use Rattle.hz_parts.specs.declared.parts.Behind.TheVariants as behind
use Rattle.hz_parts.specs.declared.parts.Parts.{Parts}
use Rattle.hz_parts.specs.Values.{seen_token, shown}
use Rattle.hz_parse_expr.proofs.OperationLaws.{operator_made}
use Rattle.hz_parse_expr.proofs.RowLaws.{made_by, made_of}
use Rattle.hz_parse_expr.proofs.operations.rests.rest.Goals as goal

pub returns-in-Question : goal.returns-in-Question
returns-in-Question c =
    λ loosest tightest context. made_by (rest_row loosest tightest context) c.args.one k.Question c.chooses.result
    c.args.parts.now c.chooses.new.parts c.in-Question.is
    (made_of (rest_row loosest tightest context k.Question) _ c.chooses.result c.args.parts.now c.chooses.new.parts
    c.chooses.ensures
    (λ h parts below e.
    let more = map shown parts.1.1.1.1.1.1.1.0 in
    h (seen_token parts.0) (seen_token parts.1.1.1.0) below.seen parts.1.0 parts.1.1.1.1.0 below.trees more
    below.behind (ap (λ (p : Parts). p.seen) e) (ap (λ (p : Parts). p.trees) e) (ap (λ (p : Parts). p.behind) e)
    ∙ ap (λ (p : Parts). record p {
      seen = below.seen;
      trees = below.trees;
      behind = (behind.Chooses parts.1.0 parts.1.1.1.1.0 ∷ more) ∷ below.behind;
    }) e))

pub returns-in_default : goal.returns-in_default
returns-in_default c =
    λ loosest tightest context. operator_made loosest tightest context c.args.one c.operator.result c.args.parts.now
    c.operator.new.parts c.in_default.not-Question (c.operator.ensures loosest tightest context)
