use Rattle.std.proofs.Common.{[], ◌∷◌, ◌∙◌, ap, map, None, Some, sym}
use Rattle.hz_tree.specs.grammar.OperatorRows.{operator_row}
use Rattle.hz_tree.specs.grammar.Operators.{assign_operator, binary_operator, update_operator}
use Rattle.hz_parts.specs.declared.parts.Behind.TheVariants as behind
use Rattle.hz_parts.specs.declared.parts.Parts.{Parts}
use Rattle.hz_parts.specs.Values.{seen_token, shown}
use Rattle.hz_parse_expr.proofs.OperationLaws.{made_where}
use Rattle.hz_parse_expr.proofs.RowLaws.{made_of}
use Rattle.hz_parse_expr.proofs.operations.rests.operator.Goals as goal

pub returns-in-Some : goal.returns-in-Some
returns-in-Some c =
    let one = c.args.one in
    let operator = c.in-Some.operator in
    λ loosest tightest context.
    made_where
    (λ found. operator_row loosest tightest context one found (update_operator one) (binary_operator one))
    (assign_operator one) (Some operator) c.assigns.result c.args.parts.now c.assigns.new.parts
    (sym c.assign_operator.ensures ∙ c.in-Some.is)
    (made_of
    (operator_row loosest tightest context one (Some operator) (update_operator one) (binary_operator one)) _
    c.assigns.result c.args.parts.now c.assigns.new.parts c.assigns.ensures
    (λ h parts below e.
    h (seen_token parts.1.0) below.seen parts.1.1.0 below.trees (ap (λ (p : Parts). p.seen) e)
    (ap (λ (p : Parts). p.trees) e)
    ∙ ap (λ (p : Parts). record p {
      seen = below.seen;
      trees = below.trees;
      behind = (behind.Assigns operator parts.1.1.0 ∷ []) ∷ p.behind;
    }) e))

pub returns-in-Some-update_operator : goal.returns-in-Some-update_operator
returns-in-Some-update_operator c =
    let one = c.args.one in
    let operator = c.in-Some-update_operator.operator in
    λ loosest tightest context.
    made_where
    (λ found. operator_row loosest tightest context one found (update_operator one) (binary_operator one))
    (assign_operator one) None c.updates.result c.args.parts.now c.updates.new.parts
    (sym c.assign_operator.ensures ∙ c.in_default.is)
    (made_where
    (λ found. operator_row loosest tightest context one None found (binary_operator one))
    (update_operator one) (Some operator) c.updates.result c.args.parts.now c.updates.new.parts
    (sym c.update_operator.ensures ∙ c.in-Some-update_operator.is)
    (made_of (operator_row loosest tightest context one None (Some operator) (binary_operator one)) _
    c.updates.result c.args.parts.now c.updates.new.parts c.updates.ensures
    (λ h parts below e.
    let more = map shown parts.1.1.1.0 in
    h (seen_token parts.1.0) below.seen more below.behind (ap (λ (p : Parts). p.seen) e)
    (ap (λ (p : Parts). p.behind) e)
    ∙ ap (λ (p : Parts). record p {
      seen = below.seen;
      behind = (behind.Updates operator ∷ more) ∷ below.behind;
    }) e)))

pub returns-in-Some-binary_operator : goal.returns-in-Some-binary_operator
returns-in-Some-binary_operator c =
    let one = c.args.one in
    let operator = c.in-Some-binary_operator.operator in
    λ loosest tightest context.
    made_where
    (λ found. operator_row loosest tightest context one found (update_operator one) (binary_operator one))
    (assign_operator one) None c.joins.result c.args.parts.now c.joins.new.parts
    (sym c.assign_operator.ensures ∙ c.in_default.is)
    (made_where
    (λ found. operator_row loosest tightest context one None found (binary_operator one))
    (update_operator one) None c.joins.result c.args.parts.now c.joins.new.parts
    (sym c.update_operator.ensures ∙ c.in_default-update_operator.is)
    (made_where (operator_row loosest tightest context one None None) (binary_operator one) (Some operator)
    c.joins.result c.args.parts.now c.joins.new.parts
    (sym c.binary_operator.ensures ∙ c.in-Some-binary_operator.is)
    (made_of (operator_row loosest tightest context one None None (Some operator)) _ c.joins.result
    c.args.parts.now c.joins.new.parts c.joins.ensures
    (λ h parts below e.
    let more = map shown parts.1.1.1.1.0 in
    h (seen_token parts.0) below.seen parts.1.0 below.trees more below.behind (ap (λ (p : Parts). p.seen) e)
    (ap (λ (p : Parts). p.trees) e) (ap (λ (p : Parts). p.behind) e)
    ∙ ap (λ (p : Parts). record p {
      seen = below.seen;
      trees = below.trees;
      behind = (behind.Joins operator parts.1.0 ∷ more) ∷ below.behind;
    }) e))))
