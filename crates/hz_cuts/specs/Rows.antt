-- What each row makes, where functions are cut out: the same of parts that are cut, or, in the row of a function, what
-- has the function's number in the place of the function.
use Rattle.std.specs.Prelude.{◌≡◌, Bool, true, false, ◌&&◌, ◌||◌, List, [], ◌∷◌, Option, Some, None}
use Rattle.hz_tree.specs.declared.index.FunctionInfo.{FunctionInfo}
use Rattle.hz_tree.specs.declared.nonterminal.Nonterminal.{Nonterminal}
use Rattle.hz_tree.specs.declared.signal.Signal.TheVariants as tell
use Rattle.hz_tree.specs.declared.symbol.Symbol.{Symbol}
use Rattle.hz_tree.specs.declared.symbol.Symbol.TheVariants as s
use Rattle.hz_tree.specs.grammar.Symbols.{Parts, Value, Row, goes, refuses}
use Rattle.hz_tree.specs.grammar.Table.{row}
use Rattle.hz_tree.specs.reading.Reading.{Reading, Got, Stuck, Deeper, Table}
use Rattle.hz_cuts.specs.Cuts.{cut_value, cut_parts}
use Rattle.hz_cuts.specs.Skips.{Skip, inside, whole, front_parts, skip_of}

-- ---- symbols

abbrev pub is_enter : Symbol → Bool
is_enter (s.Tell tell.Enter) = true
is_enter _ = false

abbrev pub is_close : Symbol → Bool
is_close (s.Tell tell.Close) = true
is_close _ = false

-- it ends a part of a tree, and nothing is told beside it
abbrev pub is_plain : Symbol → Bool
is_plain (s.Tell tell.Join) = true
is_plain (s.Tell (tell.Node shape)) = true
is_plain (s.Tell (tell.End node)) = true
is_plain _ = false

abbrev pub some_symbol : (Symbol → Bool) → List Symbol → Bool
some_symbol test [] = false
some_symbol test (first ∷ more) = test first || some_symbol test more

abbrev pub all_plain : List Symbol → Bool
all_plain [] = true
all_plain (first ∷ more) = is_plain first && all_plain more

-- ---- rows

-- No function is entered, and what is made of the parts is cut where the parts are.
abbrev pub KeepsRow : List FunctionInfo → (m : Nonterminal) → Row m → Type 0
KeepsRow functions m (goes right make) =
    (some_symbol is_enter right ≡ false)
    × ((p : Parts Value right) → cut_value functions m (make p) ≡ make (cut_parts functions right p))
KeepsRow functions m (refuses cause) = Unit {0}

-- A function is entered once, and left at the first `Close` behind that, behind which no token is taken and nothing is
-- told. What is made, with the number of the function, is made of the parts before the function.
pub record SkipsRow (functions : List FunctionInfo) (m : Nonterminal) (r : Row m) (skip : Skip m) : Type 0 where
  pub make : Parts Value (whole skip) → Value m
  pub same : r ≡ goes (whole skip) make
  pub before : some_symbol is_enter skip.front ≡ false
  pub within : some_symbol is_close skip.middle ≡ false
  pub behind : all_plain skip.back ≡ true
  pub made : (p : Parts Value (whole skip)) → cut_value functions m (make p)
      ≡ skip.make (cut_parts functions skip.front (front_parts skip.front (inside skip) p))

abbrev pub CutsRow : List FunctionInfo → (m : Nonterminal) → Row m → Option (Skip m) → Type 0
CutsRow functions m r None = KeepsRow functions m r
CutsRow functions m r (Some skip) = SkipsRow functions m r skip

-- ---- readings

-- the row, of which what stands for a function has its number in the place of the function
abbrev pub cut_by : (m : Nonterminal) → Row m → Option (Skip m) → Row m
cut_by m r None = r
cut_by m r (Some skip) = goes (whole skip) (λ parts. skip.make (front_parts skip.front (inside skip) parts))

abbrev pub cut_row : List FunctionInfo → Table Value
cut_row functions m l = cut_by m (row m l) (skip_of functions m l)

abbrev pub cut_reading : List FunctionInfo → (m : Nonterminal) → Reading (Value m) → Reading (Value m)
cut_reading functions m (Got v rest) = Got (cut_value functions m v) rest
cut_reading functions m (Stuck cause ts) = Stuck cause ts
cut_reading functions m Deeper = Deeper

-- ---- stacks

abbrev pub left_by : (closes : Bool) → (others left : List Symbol) → List Symbol
left_by true others left = others
left_by false others left = left

-- what is left of a stack of symbols behind the first `Close`
abbrev pub left_at_close : List Symbol → List Symbol
left_at_close [] = []
left_at_close (first ∷ more) = left_by (is_close first) more (left_at_close more)
