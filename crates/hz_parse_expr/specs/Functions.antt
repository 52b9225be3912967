-- The row of a function's expression, in which the function is left out.
use Rattle.std.specs.Prelude.{List, Some}
use Rattle.hz_tree.specs.declared.class.Class.{Class}
use Rattle.hz_tree.specs.declared.index.FunctionInfo.{FunctionInfo}
use Rattle.hz_tree.specs.declared.nonterminal.Context.{Context}
use Rattle.hz_tree.specs.declared.nonterminal.Nonterminal.TheVariants as n
use Rattle.hz_tree.specs.grammar.PrimaryRows.{function_expression_row}
use Rattle.hz_tree.specs.grammar.Symbols.{Row}
use Rattle.hz_cuts.specs.Rows.{cut_by}
use Rattle.hz_cuts.specs.Skips.{expression_skip}

abbrev pub expressed : List FunctionInfo → (c : Context) → (two : Class) → Row (n.Primary c)
expressed functions c two =
    cut_by (n.Primary c) (function_expression_row c two) (Some (expression_skip functions c two))
