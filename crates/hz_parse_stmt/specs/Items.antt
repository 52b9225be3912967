-- The row of a function's declaration, in which the function is left out.
use Rattle.std.specs.Prelude.{List, Some}
use Rattle.hz_tree.specs.declared.class.Class.{Class}
use Rattle.hz_tree.specs.declared.index.FunctionInfo.{FunctionInfo}
use Rattle.hz_tree.specs.declared.nonterminal.Context.{Context}
use Rattle.hz_tree.specs.declared.nonterminal.Nonterminal.TheVariants as n
use Rattle.hz_tree.specs.grammar.StatementRows.{declaration_row}
use Rattle.hz_tree.specs.grammar.Symbols.{Row}
use Rattle.hz_cuts.specs.Rows.{cut_by}
use Rattle.hz_cuts.specs.Skips.{declaration_skip}

abbrev pub declared : List FunctionInfo → (c : Context) → (two : Class) → Row (n.Item c)
declared functions c two = cut_by (n.Item c) (declaration_row c two) (Some (declaration_skip functions c two))
