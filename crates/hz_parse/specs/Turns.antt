-- What a reader of one function keeps from turn to turn.
use Rattle.std.specs.Prelude.{◌≡◌, ◌≢◌, ℕ, ◌+◌, ◌*◌, ◌<◌, ◌≤◌, ◌==◌, ◌&&◌, Bool, true, false, if◌then◌else◌, List, []}
use Rattle.std.specs.Prelude.{◌∷◌, length, Some, None, All}
use Rattle.std.specs.List.{slice_get}
use Rattle.hz_tree.specs.declared.index.FunctionInfo.{FunctionInfo}
use Rattle.hz_tree.specs.declared.nonterminal.Nonterminal.{Nonterminal}
use Rattle.hz_tree.specs.declared.symbol.Symbol.{Symbol}
use Rattle.hz_tree.specs.declared.tree.FunctionKind.{FunctionKind}
use Rattle.hz_tree.specs.declared.tree.FunctionKind.TheVariants as kind
use Rattle.hz_tree.specs.grammar.Classes.{is_paren}
use Rattle.hz_tree.specs.grammar.Look.{Terminal, look}
use Rattle.hz_tree.specs.reading.Reading.{end_behind, place_ahead}
use Rattle.hz_tree.specs.reading.Stack.{work}
use Rattle.hz_tree.specs.sources.Refusals.{functions as functions_in}
use Rattle.hz_tree.specs.tokens.Text.{Text}
use Rattle.hz_tree.specs.trees.FunctionTrees.{number_at}
use Rattle.hz_middle.specs.Place.{Place, left}
use Rattle.hz_own.specs.Known.{Known}
use Rattle.hz_own.specs.Lined.{Lined}
use Rattle.hz_alone.specs.Alone.{ToldBefore}
use Rattle.hz_parts.specs.declared.mark.Mark.{Mark}
use Rattle.hz_parts.specs.declared.parts.Parts.{Parts as Stacks}
use Rattle.hz_parse.specs.declared.reader.Reader.{Reader}
use Rattle.hz_parse.specs.Asked.{asks}
use Rattle.hz_parse.specs.Leads.{Leads, Reaches, unmarked}

-- ---- arrows

abbrev pub is_arrow_kind : FunctionKind → Bool
is_arrow_kind kind.Arrow = true
is_arrow_kind _ = false

-- whether one of the functions is an arrow that starts at this place
abbrev pub arrow_at : List FunctionInfo → (place : ℕ) → Bool
arrow_at functions place =
    elim (slice_get functions (number_at functions place))
    [ None ↦ false | Some info ↦ info.start == place && is_arrow_kind info.kind ]

-- what is told of an arrow where the nonterminal is read
abbrev pub arrow_told : List FunctionInfo → Nonterminal → List Terminal → Bool
arrow_told functions m ts = asks m && (is_paren (look ts).one && arrow_at functions (place_ahead ts))

-- The terminals ahead stand in line, and where an arrow starts before this end, the terminal there begins one.
pub record Ahead (functions : List FunctionInfo) (source : Text) (end : ℕ) (ts : List Terminal) : Type 0 where
  pub told : All (ToldBefore ts end) functions
  pub place : ℕ
  pub lined : Lined source place ts

-- ---- what is left to do

-- the symbols without those that stand for marks
abbrev pub bare : List Symbol → List Symbol
bare [] = []
bare (x ∷ xs) = if unmarked x then x ∷ bare xs else bare xs

abbrev pub measure : List Symbol → List Mark → List Terminal → ℕ
measure symbols marks ts = 2 * work (bare symbols) ts + length marks

-- ---- turns

abbrev pub functions_of_reader : Reader → List FunctionInfo
functions_of_reader r = functions_in r.numbers.index.now.source

-- The reader comes to this end, with so many steps in all.
pub record Going (r : Reader) (place : Place) (steps : ℕ) (last : List Terminal) (whole : Stacks) (total : ℕ)
    : Type 0 where
  pub own : ℕ
  pub leads : Leads (functions_of_reader r) (Known (functions_of_reader r)) (Reaches last whole) false r.opened r.symbols
      r.marks (left place) r.parts own
  pub counted : steps + own ≡ total
  pub ahead : Ahead (functions_of_reader r) place.source (end_behind last) (left place)
  pub some : last ≢ []
  pub inside : place.at ≤ length place.source
  pub same : place.source ≡ r.numbers.index.now.source

abbrev pub with_symbol : Symbol → Reader → Reader
with_symbol symbol r = record r { symbols = symbol ∷ r.symbols }

-- with this symbol before the others it comes to some end
pub record Ready (symbol : Symbol) (r : Reader) (place : Place) (steps : ℕ) : Type 0 where
  pub last : List Terminal
  pub whole : Stacks
  pub total : ℕ
  pub going : Going (with_symbol symbol r) place steps last whole total

-- Past the symbol the reader comes to the same end, and less is left to do.
pub record Turned (symbol : Symbol) (old : Reader) (from : Place) (before : ℕ) (new : Reader) (to : Place) (after : ℕ)
    : Type 0 where
  pub goes : (last : List Terminal) (whole : Stacks) (total : ℕ)
      → Going (with_symbol symbol old) from before last whole total → Going new to after last whole total
  pub less : measure new.symbols new.marks (left to) < measure (symbol ∷ old.symbols) old.marks (left from)

-- the reader is at the end: this was made, and so many steps were taken
pub record Reached (r : Reader) (place : Place) (steps : ℕ) (last : List Terminal) (whole : Stacks) (total : ℕ)
    : Type 0 where
  pub left : left place ≡ last
  pub made : r.parts ≡ whole
  pub counted : steps ≡ total
