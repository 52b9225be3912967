-- What a row makes of the parts that stand on the stacks.
use Rattle.std.specs.Prelude.{◌≡◌, false, List, [], ◌∷◌, Option, Some, None, Result, Ok, Err}
use Rattle.hz_list.specs.declared.out_of_memory.Memory.{Memory}
use Rattle.hz_tree.specs.declared.index.FunctionInfo.{FunctionInfo}
use Rattle.hz_tree.specs.declared.nonterminal.Nonterminal.{Nonterminal}
use Rattle.hz_tree.specs.declared.tree.Tree.{Tree}
use Rattle.hz_tree.specs.grammar.Symbols.{Parts, goes, refuses, Row, Value}
use Rattle.hz_cuts.specs.Rows.{cut_row}
use Rattle.hz_parts.specs.declared.mark.Mark.{Mark}
use Rattle.hz_parts.specs.declared.parts.Parts.{Parts as Stacks}
use Rattle.hz_parts.specs.Values.{push_parts, push_value}

-- the row in hand, in which a function is left out for its number
abbrev pub row_of : List FunctionInfo → (mark : Mark) → Row mark.nonterminal
row_of functions mark = cut_row functions mark.nonterminal mark.look

-- the parts of the row stood on top, and what it makes of them stands in their place
abbrev pub MakesRow : (m : Nonterminal) → Row m → (old new : Stacks) → Type 0
MakesRow m (goes right make) old new =
    (parts : Parts Value right) (below : Stacks) → old ≡ push_parts false right parts below
    → new ≡ push_value m (make parts) below
MakesRow m (refuses cause) old new = Unit {0}

-- Memory leaves the stacks open.
abbrev pub Makes : (m : Nonterminal) → Row m → Result (Unit {0}) Memory → (old new : Stacks) → Type 0
Makes m r (Ok done) old new = MakesRow m r old new
Makes m r (Err memory) old new = Unit {0}

-- the uppermost tree is taken away, where there is one
abbrev pub TakesTree : Result (Option Tree) Memory → (old new : Stacks) → Type 0
TakesTree (Ok None) old new = old.trees ≡ []
TakesTree (Ok (Some tree)) old new = (old.trees ≡ tree ∷ new.trees) × (new ≡ record old { trees = new.trees })
TakesTree (Err memory) old new = Unit {0}
