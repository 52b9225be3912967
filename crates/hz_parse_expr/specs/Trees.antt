-- The trees that makers build by cases.
use Rattle.std.specs.Prelude.{List, [], ◌∷◌}
use Rattle.hz_tree.specs.declared.tree.Tree.{Tree}
use Rattle.hz_tree.specs.declared.tree.Tree.TheVariants as t
use Rattle.hz_tree.specs.trees.Places.{place}
use Rattle.hz_parts.specs.declared.parts.Behind.{Behind}
use Rattle.hz_parts.specs.declared.parts.Behind.TheVariants as behind

-- what an operator makes of its first operand
abbrev pub operation_tree : Tree → Behind → Tree
operation_tree head (behind.Updates operator) = t.Postfix (place head) head operator
operation_tree head (behind.Joins operator right) = t.Binary (place head) head operator right
operation_tree head (behind.Chooses first second) = t.Cond (place head) head first second
operation_tree head (behind.Assigns operator value) = t.Assign (place head) head operator value

-- what several make of it, grouped to the left
abbrev pub operated_by : Tree → List Behind → Tree
operated_by head [] = head
operated_by head (operator ∷ more) = operated_by (operation_tree head operator) more
