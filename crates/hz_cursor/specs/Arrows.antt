-- Which of the parentheses of a source begin the parameters of an arrow.
use Rattle.std.specs.Prelude.{Bool, if◌then◌else◌, List, [], ◌∷◌}
use Rattle.hz_tree.specs.declared.class.Class.{Class}
use Rattle.hz_tree.specs.declared.class.Bracket.TheVariants.{Round}
use Rattle.hz_tree.specs.grammar.Look.{arrow_behind}
use Rattle.hz_tree.specs.grammar.Classes.{is_paren}

-- for each `(` in order, whether `=>` stands behind the `)` that matches it
abbrev pub arrows : List Class → List Bool
arrows [] = []
arrows (c ∷ cs) = if is_paren c then arrow_behind (Round ∷ []) cs ∷ arrows cs else arrows cs
