-- What a stack of symbols and the rows in hand lead to, for a reader that skips functions.
use Rattle.std.specs.Prelude.{◌≡◌, ℕ, ◌+◌, Bool, true, false, not, ◌&&◌, ◌||◌, List, [], ◌∷◌, ◌++◌, All}
use Rattle.hz_tree.specs.declared.class.Class.{Class}
use Rattle.hz_tree.specs.declared.class.Class.TheVariants as k
use Rattle.hz_tree.specs.declared.index.FunctionInfo.{FunctionInfo}
use Rattle.hz_tree.specs.declared.nonterminal.Nonterminal.{Nonterminal}
use Rattle.hz_tree.specs.declared.nonterminal.Nonterminal.TheVariants as n
use Rattle.hz_tree.specs.declared.signal.Signal.TheVariants as tell
use Rattle.hz_tree.specs.declared.symbol.Symbol.{Symbol}
use Rattle.hz_tree.specs.declared.symbol.Symbol.TheVariants as s
use Rattle.hz_tree.specs.grammar.Look.{Terminal}
use Rattle.hz_tree.specs.grammar.Symbols.{goes, refuses, Row, Parts, Value}
use Rattle.hz_tree.specs.reading.Reading.{Got, end_behind, read_all, reads, takes, told_ahead}
use Rattle.hz_laws.specs.Middle.{Balances}
use Rattle.hz_cuts.specs.Cuts.{cut_value}
use Rattle.hz_cuts.specs.Rows.{is_close, some_symbol}
use Rattle.hz_stands.specs.Nodes.{FunctionNode, value_nodes}
use Rattle.hz_parts.specs.declared.mark.Mark.{Mark}
use Rattle.hz_parts.specs.declared.parts.Parts.{Parts as Stacks}
use Rattle.hz_parts.specs.Makes.{row_of}
use Rattle.hz_parts.specs.Values.{after, push_parts, push_value, push_seen, push_told, seen_token}
use Rattle.hz_own.specs.Owned.{open_behind, owns, taken, unless_open}

-- ---- one symbol

-- Behind the symbols of a row stands this one, in place of the mark. No row takes what is no token.
abbrev pub is_mark : Class → Bool
is_mark k.Malformed = true
is_mark _ = false

abbrev pub mark_symbol : Symbol
mark_symbol = s.Take k.Malformed

abbrev pub unmarked : Symbol → Bool
unmarked (s.Take wanted) = not (is_mark wanted)
unmarked _ = true

abbrev pub no_marks : List Symbol → Bool
no_marks [] = true
no_marks (x ∷ xs) = unmarked x && no_marks xs

-- the row in hand made its value of the parts that stood on top
abbrev pub MadeRow : (m : Nonterminal) → Row m → (old new : Stacks) → Type 0
MadeRow m (goes right make) old new =
    (parts : Parts Value right) × (below : Stacks) × ((old ≡ push_parts false right parts below)
    × (new ≡ push_value m (make parts) below))
MadeRow m (refuses cause) old new = ⊥

-- A token is taken, and so many of the own tokens are left.
pub record Taking (opened : Bool) (wanted : Class) (ts : List Terminal) (p : Stacks) (own : ℕ)
    (next : List Terminal → Stacks → ℕ → Type 0) : Type 0 where
  pub token : Terminal
  pub rest : List Terminal
  pub others : ℕ
  pub got : takes wanted ts ≡ Got token rest
  pub counted : own ≡ unless_open opened (taken wanted) + others
  pub goes_on : next rest (push_seen (seen_token token) p) others

-- a name, which stands between the place at which a function is opened and that at which it is entered
abbrev pub is_named : Nonterminal → Bool
is_named (n.Bound role) = true
is_named n.OwnName = true
is_named _ = false

-- A nonterminal is read; its functions are known.
pub record ReadingOne (functions : List FunctionInfo) (Known : FunctionNode → Type 0) (opened : Bool) (m : Nonterminal)
    (ts : List Terminal) (p : Stacks) (own : ℕ) (next : List Terminal → Stacks → ℕ → Type 0) : Type 0 where
  pub value : Value m
  pub tokens : ℕ
  pub rest : List Terminal
  pub others : ℕ
  pub read : reads m ts ≡ Got value rest
  pub owned : owns m ts ≡ Got tokens rest
  pub known : All Known (value_nodes m value)
  pub named : (not opened || is_named m) ≡ true
  pub counted : own ≡ unless_open opened tokens + others
  pub goes_on : next rest (push_value m (cut_value functions m value) p) others

-- The function that was opened last is passed over, with its parameters and its body: it is known, and ends before what
-- is left.
pub record Skipping (Known : FunctionNode → Type 0) (more : List Symbol) (ts : List Terminal) (p : Stacks)
    (next : List Terminal → Type 0) : Type 0 where
  pub function : FunctionNode
  pub others : List ℕ
  pub rest : List Terminal
  pub known : Known function
  pub opened : p.opened ≡ function.at ∷ others
  pub ends : end_behind rest ≡ function.end
  pub middle : List Symbol
  pub behind : List Symbol
  pub split : more ≡ middle ++ s.Tell tell.Close ∷ behind
  pub within : some_symbol is_close middle ≡ false
  pub unmarked : no_marks middle ≡ true
  pub parts : Parts Value middle
  pub read : read_all reads middle ts ≡ Got parts rest
  pub passed : Balances [] ts rest
  pub goes_on : next rest

-- The uppermost mark comes up.
pub record Making (functions : List FunctionInfo) (mark : Mark) (p : Stacks) (next : Stacks → Type 0) : Type 0 where
  pub new : Stacks
  pub made : MadeRow mark.nonterminal (row_of functions mark) p new
  pub goes_on : next new

abbrev pub Marked : List FunctionInfo → List Mark → Stacks → (List Mark → Stacks → Type 0) → Type 0
Marked functions [] p next = ⊥
Marked functions (mark ∷ others) p next = Making functions mark p (next others)

abbrev pub Either : Bool → (A B : Type 0) → Type 0
Either true A B = A
Either false A B = B

-- ---- all symbols

abbrev pub opened_behind : Symbol → (opened : Bool) → Bool
opened_behind (s.Take wanted) opened = opened
opened_behind (s.Read m) opened = opened
opened_behind (s.Tell signal) opened = open_behind signal opened

-- what is read behind the place at which a function is opened is a name
abbrev pub calm : (opened : Bool) → List Symbol → Bool
calm opened [] = true
calm opened (s.Take wanted ∷ more) = calm opened more
calm opened (s.Read m ∷ more) = (not opened || is_named m) && calm opened more
calm opened (s.Tell signal ∷ more) = calm (open_behind signal opened) more

-- whether a function is open behind the symbols
abbrev pub opened_last : (opened : Bool) → List Symbol → Bool
opened_last opened [] = opened
opened_last opened (symbol ∷ more) = opened_last (opened_behind symbol opened) more

-- The symbols are read of the tokens and the marked rows are made, up to stacks and tokens at the end, and so many
-- tokens are own ones: those at which no function is open. Inside of a function that was passed over nothing is read.
abbrev pub Leads : List FunctionInfo → (FunctionNode → Type 0) → (List Terminal → Stacks → Type 0)
    → (inside opened : Bool) → List Symbol → List Mark → List Terminal → Stacks → (own : ℕ) → Type 0
Leads functions Known End inside opened [] marks ts p own = (own ≡ 0) × End ts p
Leads functions Known End true opened (symbol ∷ more) marks ts p own =
    Leads functions Known End (after true symbol) (opened_behind symbol opened) more marks ts p own
Leads functions Known End false opened (s.Take wanted ∷ more) marks ts p own =
    Either (is_mark wanted)
    (Marked functions marks p (λ others q. Leads functions Known End false opened more others ts q own))
    (Taking opened wanted ts p own
    (λ rest q others. Leads functions Known End false opened more marks rest q others))
Leads functions Known End false opened (s.Read m ∷ more) marks ts p own =
    ReadingOne functions Known opened m ts p own
    (λ rest q others. Leads functions Known End false opened more marks rest q others)
Leads functions Known End false opened (s.Tell tell.Enter ∷ more) marks ts p own =
    Skipping Known more ts p (λ rest. Leads functions Known End true opened more marks rest p own)
Leads functions Known End false opened (s.Tell signal ∷ more) marks ts p own =
    Leads functions Known End false (open_behind signal opened) more marks ts (push_told signal (told_ahead ts) p) own

-- at the end these tokens are left, and this was made
abbrev pub Reaches : (last : List Terminal) → (whole : Stacks) → List Terminal → Stacks → Type 0
Reaches last whole ts p = (ts ≡ last) × (p ≡ whole)
