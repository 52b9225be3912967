-- A function is read with counts: these are of the tokens that are its own.
use Rattle.std.specs.Prelude.{◌≡◌, List, Some, None, length}
use Rattle.std.specs.List.{slice_get}
use Rattle.hz_tree.specs.declared.index.FunctionInfo.{FunctionInfo}
use Rattle.hz_tree.specs.declared.tree.FunctionKind.TheVariants as kind
use Rattle.hz_tree.specs.grammar.Look.{terminals}
use Rattle.hz_tree.specs.grammar.Symbols.{Parts}
use Rattle.hz_tree.specs.reading.Reading.{Got, read_all}
use Rattle.hz_tree.specs.tokens.Text.{Text}
use Rattle.hz_tree.specs.trees.FunctionTrees.{number_at, own_tokens}
use Rattle.hz_stands.specs.Nodes.{FunctionNode}
use Rattle.hz_stands.specs.Stands.{written, Standing}
use Rattle.hz_own.specs.Owned.{Owned, counted, owns}

-- the entry of a script
abbrev pub script_info : Text → FunctionInfo
script_info source = record { start = 0; end = length source; kind = kind.Script; length = 0; parent = None }

-- where the function stands, its symbols are read with counts, of as many tokens as are its own
pub record OwnCounted (functions : List FunctionInfo) (source : Text) (f : FunctionNode)
    (h : Standing f (terminals source)) : Type 0 where
  pub info : FunctionInfo
  pub found : slice_get functions (number_at functions f.at) ≡ Some info
  pub counts : Parts Owned (written h.shape).symbols
  pub read : read_all owns (written h.shape).symbols h.from ≡ Got counts h.left
  pub same : counted (written h.shape).symbols counts ≡ own_tokens functions source (number_at functions f.at) info
