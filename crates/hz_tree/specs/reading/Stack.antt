-- What a stack of symbols makes of tokens: the reading without its tree, and the number of moves that it takes.
use Rattle.std.specs.Prelude.{ℕ, zero, suc, ◌+◌, List, [], ◌∷◌, ◌++◌}
use Rattle.hz_tree.specs.declared.outside.BadKind.{BadKind}
use Rattle.hz_tree.specs.declared.nonterminal.Nonterminal.{Nonterminal}
use Rattle.hz_tree.specs.declared.symbol.Symbol.{Symbol}
use Rattle.hz_tree.specs.declared.symbol.Symbol.TheVariants as s
use Rattle.hz_tree.specs.grammar.Look.{Terminal, look}
use Rattle.hz_tree.specs.grammar.Symbols.{Parts, RowOf, goes, refuses}
use Rattle.hz_tree.specs.reading.Reading.{Reading, Got, Stuck, Deeper, Reader, read_one, read_all, reads_to, enough}
use Rattle.hz_tree.specs.grammar.Signals.{Event}
use Rattle.hz_tree.specs.reading.Reading.{Events, told, event_row, tells}

-- ---- verdicts

pub data Verdict : Type 0 where
  Through : List Event → List Terminal → Verdict  -- all symbols are read, with these events; the tokens are left
  At : BadKind → List Terminal → Verdict  -- stuck at the first of these tokens
  Lost : Verdict  -- this does not arise

abbrev pub verdict : (symbols : List Symbol) → Reading (Parts Events symbols) → Verdict
verdict symbols (Got parts rest) = Through (told symbols parts) rest
verdict symbols (Stuck cause ts) = At cause ts
verdict symbols Deeper = Lost

-- the symbols are read one behind the other
unfoldable pub ends : List Symbol → List Terminal → Verdict
ends symbols ts = verdict symbols (read_all tells symbols ts)

-- the verdict where these events came before
abbrev pub before : List Event → Verdict → Verdict
before events (Through more rest) = Through (events ++ more) rest
before events (At cause ts) = At cause ts
before events Lost = Lost

-- ---- moves: one for each symbol that leaves the stack

abbrev pub if_got : {A : Type 0} → Reading A → (List Terminal → ℕ) → ℕ
if_got (Got a rest) next = next rest
if_got (Stuck cause ts) next = 0
if_got Deeper next = 0

abbrev pub moves_one : (moves : Nonterminal → List Terminal → ℕ) → Symbol → List Terminal → ℕ
moves_one moves (s.Read nonterminal) ts = suc (moves nonterminal ts)
moves_one moves _ ts = 1

abbrev pub moves_all : (moves : Nonterminal → List Terminal → ℕ) → Reader Events → List Symbol → List Terminal → ℕ
moves_all moves reads [] ts = 0
moves_all moves reads (symbol ∷ more) ts =
    moves_one moves symbol ts + if_got (read_one reads symbol ts) (moves_all moves reads more)

abbrev pub moves_row : (moves : Nonterminal → List Terminal → ℕ) → Reader Events → (nonterminal : Nonterminal) →
    RowOf Events nonterminal → List Terminal → ℕ
moves_row moves reads nonterminal (goes right make) ts = moves_all moves reads right ts
moves_row moves reads nonterminal (refuses cause) ts = 0

-- the moves that a nonterminal takes once it has left the stack
unfoldable pub moves_to : ℕ → Nonterminal → List Terminal → ℕ
moves_to zero nonterminal ts = 0
moves_to (suc depth) nonterminal ts =
    moves_row (moves_to depth) (reads_to event_row depth) nonterminal (event_row nonterminal (look ts)) ts

unfoldable pub moves : Nonterminal → List Terminal → ℕ
moves nonterminal ts = moves_to (enough ts) nonterminal ts

unfoldable pub work : List Symbol → List Terminal → ℕ
work symbols ts = moves_all moves tells symbols ts
