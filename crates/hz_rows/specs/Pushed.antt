-- What expanding a nonterminal does to the stack of symbols, whose top is the first of the list.
use Rattle.std.specs.Prelude.{◌≡◌, List, ◌++◌, Result, Ok, Err}
use Rattle.hz_tree.specs.declared.symbol.Symbol.{Symbol}
use Rattle.hz_tree.specs.grammar.Table.{Step, pushes, fails}
use Rattle.hz_rows.specs.declared.stop.Stop.{Stop}
use Rattle.hz_rows.specs.declared.stop.Stop.TheVariants.{Memory, Refused}

-- The right-hand side lies on the stack, its first symbol on top; or the row's cause is the answer, and the stack is
-- as it was. Memory can be wanting only where there is a right-hand side, and the stack is then left open.
abbrev pub Pushed : Step → Result (Unit {0}) Stop → (old new : List Symbol) → Type 0
Pushed (pushes right) (Ok done) old new = new ≡ right ++ old
Pushed (pushes right) (Err Memory) old new = Unit {0}
Pushed (pushes right) (Err (Refused cause)) old new = ⊥
Pushed (fails cause) (Ok done) old new = ⊥
Pushed (fails cause) (Err Memory) old new = ⊥
Pushed (fails cause) (Err (Refused found)) old new = (found ≡ cause) × (new ≡ old)
