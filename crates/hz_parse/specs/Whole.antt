-- What is read from the middle of a source: symbols, with the functions in them known, up to what is left.
use Rattle.std.specs.Prelude.{◌≡◌, ◌≢◌, true, false, List, [], All}
use Rattle.hz_tree.specs.declared.index.FunctionInfo.{FunctionInfo}
use Rattle.hz_tree.specs.declared.symbol.Symbol.{Symbol}
use Rattle.hz_tree.specs.grammar.Look.{Terminal}
use Rattle.hz_tree.specs.grammar.Symbols.{Parts, Value}
use Rattle.hz_tree.specs.reading.Reading.{Got, end_behind, read_all, reads}
use Rattle.hz_cuts.specs.Rows.{is_enter, some_symbol}
use Rattle.hz_own.specs.Known.{Known}
use Rattle.hz_own.specs.Owned.{Owned, owns}
use Rattle.hz_stands.specs.Nodes.{part_nodes}
use Rattle.hz_alone.specs.Alone.{ToldBefore}
use Rattle.hz_parse.specs.Leads.{calm, no_marks}

-- The symbols are read of these terminals, and so many of the tokens are own ones; each function in what is read is known
-- by its number, and where one of them that is an arrow starts the grammar sees that one begins.
pub record Whole (functions : List FunctionInfo) (right : List Symbol) (ts : List Terminal) : Type 0 where
  pub parts : Parts Value right
  pub counts : Parts Owned right
  pub rest : List Terminal
  pub read : read_all reads right ts ≡ Got parts rest
  pub owned : read_all owns right ts ≡ Got counts rest
  pub known : All (Known functions) (part_nodes right parts)
  pub told : All (ToldBefore ts (end_behind rest)) functions
  pub some : rest ≢ []

-- symbols of rows, between which no function opens
abbrev pub IsPlain : List Symbol → Type 0
IsPlain right = (no_marks right ≡ true) × ((some_symbol is_enter right ≡ false) × (calm false right ≡ true))
