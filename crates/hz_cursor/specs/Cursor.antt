-- What a cursor means.
use Rattle.std.specs.Prelude.{◌≡◌, ℕ, ◌≤◌, Bool, true, false, List, drop, length, map}
use Rattle.hz_tree.specs.declared.class.Class.{Class}
use Rattle.hz_tree.specs.declared.look.Look.{Look}
use Rattle.hz_tree.specs.grammar.Classes.{class_of}
use Rattle.hz_tree.specs.grammar.Look.{Terminal, look, stuck, terminals_from}
use Rattle.hz_tree.specs.reading.Reading.{takes, Got, Stuck}
use Rattle.hz_tree.specs.sources.Refusals.{max_length}
use Rattle.hz_tree.specs.tokens.Text.{Text}
use Rattle.hz_tree.specs.tokens.Tokens.{Lexeme, tokens}
use Rattle.hz_scan.specs.Order.{InOrder}
use Rattle.hz_cursor.specs.declared.stored.Stored.{Stored}
use Rattle.hz_cursor.specs.Arrows.{arrows}
use Rattle.hz_cursor.specs.Stored.{stored, longs}

-- the terminals behind so many tokens, of which the last one ends at the place
abbrev pub left : (source : Text) → (taken end : ℕ) → List Terminal
left source taken end = terminals_from end (drop taken (tokens source))

-- what the cursor keeps of the tokens that are left
pub record Keeps (source : Text) (end : ℕ) (kept : List Stored) (long : List ℕ) (flags : List Bool)
    (ts : List Lexeme) : Type 0 where
  pub kept_are : kept ≡ stored end ts
  pub long_are : long ≡ longs end ts
  pub flags_are : flags ≡ arrows (map class_of ts)
  pub order : InOrder source end ts

pub record IsCursor (source : Text) (taken end : ℕ) (kept : List Stored) (long : List ℕ) (flags : List Bool)
    (seen : Look) : Type 0 where
  pub keeps : Keeps source end (drop taken kept) long flags (drop taken (tokens source))
  pub within : taken ≤ length kept
  pub short : length source ≤ max_length
  pub seen_is : seen ≡ look (left source taken end)

-- the first of the terminals is taken where the grammar takes it for the class, and else none
abbrev pub Eats : (wanted : Class) → (old new : List Terminal) → Bool → Type 0
Eats wanted old new false = (takes wanted old ≡ Stuck (stuck (look old)) old) × (new ≡ old)
Eats wanted old new true = (x : Terminal) × (takes wanted old ≡ Got x new)
