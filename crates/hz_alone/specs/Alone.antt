-- What else is known of a function of a script that is read alone.
use Rattle.std.specs.Prelude.{◌≡◌, ℕ, ◌<◌, true, List, ◌∷◌, ◌++◌, All, Some}
use Rattle.std.specs.List.{slice_get}
use Rattle.hz_tree.specs.declared.index.FunctionInfo.{FunctionInfo}
use Rattle.hz_tree.specs.declared.tree.FunctionKind.TheVariants as kind
use Rattle.hz_tree.specs.grammar.Look.{Terminal, look, begins_arrow}
use Rattle.hz_tree.specs.grammar.Symbols.{Parts}
use Rattle.hz_tree.specs.reading.Reading.{Got, read_all}
use Rattle.hz_tree.specs.tokens.Text.{Text}
use Rattle.hz_tree.specs.trees.FunctionTrees.{number_at, own_tokens}
use Rattle.hz_middle.specs.Place.{beginning, left}
use Rattle.hz_stands.specs.Nodes.{FunctionNode, part_nodes}
use Rattle.hz_stands.specs.Stands.{written}
use Rattle.hz_own.specs.Known.{Known}
use Rattle.hz_own.specs.Owned.{Owned, counted, owns}
use Rattle.hz_alone.specs.Functions.{ReadAlone}

-- the functions in what is read are known by their numbers
pub record KnownWithin (functions : List FunctionInfo) (source : Text) (f : FunctionNode) : Type 0 where
  pub known : (a : ReadAlone source f) → All (Known functions) (part_nodes (written a.shape).symbols a.parts)

-- It is read with counts, up to the same place, of as many tokens as are its own.
pub record OwnAlone (functions : List FunctionInfo) (source : Text) (f : FunctionNode) (a : ReadAlone source f)
    : Type 0 where
  pub info : FunctionInfo
  pub found : slice_get functions (number_at functions f.at) ≡ Some info
  pub counts : Parts Owned (written a.shape).symbols
  pub read : read_all owns (written a.shape).symbols (left (beginning source f.at)) ≡ Got counts a.rest
  pub same : counted (written a.shape).symbols counts ≡ own_tokens functions source (number_at functions f.at) info

-- if it is an arrow, the terminal at its start begins one, where it stands before this end
abbrev pub ToldBefore : (seen : List Terminal) → (end : ℕ) → FunctionInfo → Type 0
ToldBefore seen end info =
    info.kind ≡ kind.Arrow → (before after : List Terminal) (t : Terminal) → seen ≡ before ++ t ∷ after
    → t.token.at ≡ info.start → t.token.at < end → begins_arrow (look (t ∷ after)) ≡ true

-- Its reader sees where arrows begin, up to where it ends.
pub record ArrowsAlone (functions : List FunctionInfo) (source : Text) (f : FunctionNode) : Type 0 where
  pub told : All (ToldBefore (left (beginning source f.at)) f.end) functions
