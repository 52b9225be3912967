-- The tree of a `for`, from what stands on the stacks.
use Rattle.std.specs.Prelude.{ℕ, ◌∷◌, Option, Some}
use Rattle.hz_tree.specs.declared.operator.DeclarationWord.{DeclarationWord}
use Rattle.hz_tree.specs.declared.tree.Bound.{Bound}
use Rattle.hz_tree.specs.declared.tree.Tree.{Tree}
use Rattle.hz_tree.specs.declared.tree.Tree.TheVariants as t
use Rattle.hz_tree.specs.grammar.ExpressionRows.{listed}
use Rattle.hz_parts.specs.declared.heads.AfterFor.{AfterFor}
use Rattle.hz_parts.specs.declared.heads.AfterFor.TheVariants.{BeginsExpr, BeginsLeft, Declares}
use Rattle.hz_parts.specs.declared.heads.AfterLeft.{AfterLeft}
use Rattle.hz_parts.specs.declared.heads.AfterLeft.TheVariants.{ExpressionOf, TargetOf}
use Rattle.hz_parts.specs.declared.heads.AfterName.{AfterName}
use Rattle.hz_parts.specs.declared.heads.AfterName.TheVariants.{GoesOver, Initialised}
use Rattle.hz_parse_expr.specs.Trees.{operated_by}

abbrev pub declared_tree_for : (at : ℕ) → DeclarationWord → Bound → AfterName → (body : Tree) → (end : Option ℕ) → Tree
declared_tree_for at word bound (GoesOver iteration over) body end =
    t.ForDeclared at word bound iteration over body end
declared_tree_for at word bound (Initialised value more test update) body end =
    t.ForBinds at word (t.Bind bound.at word bound.name value ∷ more) test update body end

abbrev pub left_tree_for : (at : ℕ) → (left : Tree) → AfterLeft → (body : Tree) → Tree
left_tree_for at left (TargetOf iteration over) body = t.ForLeft at left iteration over body
left_tree_for at left (ExpressionOf operators more test update) body =
    t.ForExpr at (Some (listed (operated_by left operators) more)) test update body

abbrev pub tree_for : (at : ℕ) → AfterFor → Tree
tree_for at (Declares word bound after body end) = declared_tree_for at word bound after body end
tree_for at (BeginsLeft left after body) = left_tree_for at left after body
tree_for at (BeginsExpr first test update body) = t.ForExpr at first test update body
