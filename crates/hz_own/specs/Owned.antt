-- How many tokens a reading takes that stand in no function: the reading without its tree, with a count in its place.
use Rattle.std.specs.Prelude.{ℕ, ◌+◌, Bool, true, false, List, [], ◌∷◌}
use Rattle.hz_tree.specs.declared.class.Class.{Class}
use Rattle.hz_tree.specs.declared.class.Class.TheVariants as k
use Rattle.hz_tree.specs.declared.nonterminal.Nonterminal.{Nonterminal}
use Rattle.hz_tree.specs.declared.signal.Signal.{Signal}
use Rattle.hz_tree.specs.declared.signal.Signal.TheVariants as tell
use Rattle.hz_tree.specs.declared.symbol.Symbol.{Symbol}
use Rattle.hz_tree.specs.declared.symbol.Symbol.TheVariants as s
use Rattle.hz_tree.specs.grammar.Symbols.{Parts, RowOf, goes, refuses}
use Rattle.hz_tree.specs.grammar.Table.{row}
use Rattle.hz_tree.specs.reading.Reading.{Reader, Table, reads_by}

abbrev pub Owned : Nonterminal → Type 0
Owned nonterminal = ℕ

-- the end of the source is no token of any function
abbrev pub taken : Class → ℕ
taken k.End = 0
taken _ = 1

-- whether a function is open behind the signal
abbrev pub open_behind : Signal → (opened : Bool) → Bool
open_behind (tell.Open node kind) opened = true
open_behind tell.Close opened = false
open_behind signal opened = opened

-- what is in a function that opens here does not count
abbrev pub unless_open : (opened : Bool) → ℕ → ℕ
unless_open true count = 0
unless_open false count = count

abbrev pub counted_from : (opened : Bool) → (right : List Symbol) → Parts Owned right → ℕ
counted_from opened [] counts = 0
counted_from opened (s.Take wanted ∷ more) counts =
    unless_open opened (taken wanted) + counted_from opened more counts.1
counted_from opened (s.Read nonterminal ∷ more) counts =
    unless_open opened counts.0 + counted_from opened more counts.1
counted_from opened (s.Tell signal ∷ more) counts = counted_from (open_behind signal opened) more counts.1

abbrev pub counted : (right : List Symbol) → Parts Owned right → ℕ
counted right counts = counted_from false right counts

abbrev pub counting : {Value : Nonterminal → Type 0} {nonterminal : Nonterminal} → RowOf Value nonterminal →
    RowOf Owned nonterminal
counting (goes right make) = goes right (counted right)
counting (refuses cause) = refuses cause

abbrev pub own_row : Table Owned
own_row nonterminal l = counting (row nonterminal l)

-- the count of the reading, in place of its tree
abbrev pub owns : Reader Owned
owns = reads_by own_row
