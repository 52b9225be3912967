-- The tree of a `for` is that of the grammar.
use Rattle.std.proofs.Common.{◌≡◌, ℕ, List, [], ◌∷◌, map, Option, Some, refl, ap}
use Rattle.hz_tree.specs.declared.tree.Tree.{Tree}
use Rattle.hz_tree.specs.declared.tree.Tree.TheVariants as t
use Rattle.hz_tree.specs.grammar.ExpressionRows.{listed}
use Rattle.hz_tree.specs.grammar.HeadRows.{for_tree}
use Rattle.hz_tree.specs.grammar.OperatorRows.{applied}
use Rattle.hz_tree.specs.grammar.Symbols.{AfterFor, begins_expr, begins_left, declares, expression_of, goes_over}
use Rattle.hz_tree.specs.grammar.Symbols.{Behind, assigns, chooses, initialised, joins, target_of, updates}
use Rattle.hz_tree.specs.trees.Places.{place}
use Rattle.hz_parts.specs.Values.{shown, shown_for}
use Rattle.hz_parse_expr.specs.Trees.{operated_by}
use Rattle.hz_parse_stmt.specs.Loops.{tree_for}

operated_shown : (head : Tree) (operators : List Behind) → operated_by head (map shown operators) ≡ applied head operators
operated_shown head [] = refl
operated_shown head (updates operator ∷ more) = operated_shown (t.Postfix (place head) head operator) more
operated_shown head (joins operator right ∷ more) = operated_shown (t.Binary (place head) head operator right) more
operated_shown head (chooses first second ∷ more) = operated_shown (t.Cond (place head) head first second) more
operated_shown head (assigns operator value ∷ more) = operated_shown (t.Assign (place head) head operator value) more

pub tree_for_shown : (at : ℕ) (after : AfterFor) → tree_for at (shown_for after) ≡ for_tree at after
tree_for_shown at (declares word bound (goes_over iteration over) body end) = refl
tree_for_shown at (declares word bound (initialised value more test update) body end) = refl
tree_for_shown at (begins_left left (target_of iteration over) body) = refl
tree_for_shown at (begins_left left (expression_of operators more test update) body) =
    ap (λ (head : Tree). t.ForExpr at (Some (listed head more)) test update body) (operated_shown left operators)
tree_for_shown at (begins_expr first test update body) = refl
