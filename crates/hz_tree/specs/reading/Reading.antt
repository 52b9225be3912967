-- What the grammar makes of tokens. A reading never goes back: the table has one row for a nonterminal and the next
-- two tokens.
use Rattle.std.specs.Prelude.{ℕ, zero, suc, ◌+◌, ◌*◌, Bool, false, if◌then◌else◌, List, [], ◌∷◌, ◌++◌, length}
use Rattle.hz_tree.specs.declared.class.Class.{Class}
use Rattle.hz_tree.specs.declared.outside.BadKind.{BadKind}
use Rattle.hz_tree.specs.declared.outside.BadKind.TheVariants as bad
use Rattle.hz_tree.specs.declared.nonterminal.Nonterminal.{Nonterminal}
use Rattle.hz_tree.specs.declared.symbol.Symbol.{Symbol}
use Rattle.hz_tree.specs.declared.symbol.Symbol.TheVariants as s
use Rattle.hz_tree.specs.declared.look.Look.{Look}
use Rattle.hz_tree.specs.grammar.Classes.{fits}
use Rattle.hz_tree.specs.grammar.Look.{Terminal, look, stuck}
use Rattle.hz_tree.specs.grammar.Signals.{Told, Event, event}
use Rattle.hz_tree.specs.declared.token.TokenKind.{TokenKind}
use Rattle.hz_tree.specs.declared.token.TokenKind.TheVariants as kind
use Rattle.hz_tree.specs.grammar.Symbols.{Part, Parts, RowOf, goes, refuses, Value}
use Rattle.hz_tree.specs.grammar.Table.{row}
use Rattle.hz_tree.specs.tokens.Text.{Text}

-- ---- readings

pub data Reading (A : Type 0) : Type 0 where
  Got : A → List Terminal → Reading A  -- the tokens are those that are left
  Stuck : BadKind → List Terminal → Reading A  -- at the first of these tokens
  Deeper : Reading A  -- the bound on the depth was too low

abbrev pub and_then : {A B : Type 0} → Reading A → (A → List Terminal → Reading B) → Reading B
and_then (Got a ts) next = next a ts
and_then (Stuck cause ts) next = Stuck cause ts
and_then Deeper next = Deeper

-- a token of a class
abbrev pub takes : Class → List Terminal → Reading Terminal
takes wanted [] = Stuck bad.Syntax []
takes wanted (x ∷ ts) = if fits wanted x.class then Got x ts else Stuck (stuck (look (x ∷ ts))) (x ∷ ts)

-- the place of the next token
abbrev pub place_ahead : List Terminal → ℕ
place_ahead [] = 0
place_ahead (x ∷ ts) = x.token.at

-- the place at which the token before it ends
abbrev pub end_behind : List Terminal → ℕ
end_behind [] = 0
end_behind (x ∷ ts) = x.behind

abbrev pub text_ahead : List Terminal → Text
text_ahead [] = []
text_ahead (x ∷ ts) = x.token.text

abbrev pub has_octal : TokenKind → Bool
has_octal (kind.Text octal) = octal
has_octal _ = false

-- the next token is a string literal with a legacy octal escape
abbrev pub octal_ahead : List Terminal → Bool
octal_ahead [] = false
octal_ahead (x ∷ ts) = has_octal x.token.kind

abbrev pub told_ahead : List Terminal → Told
told_ahead ts =
    record { at = place_ahead ts; text = text_ahead ts; octal = octal_ahead ts; behind = end_behind ts }

-- ---- the table unfolded

-- what a reader of nonterminals makes of a symbol, of a list of symbols, and of a row
abbrev pub Reader : (Value : Nonterminal → Type 0) → Type 0
Reader Value = (nonterminal : Nonterminal) → List Terminal → Reading (Value nonterminal)

abbrev pub read_one : {Value : Nonterminal → Type 0} → Reader Value → (symbol : Symbol) → List Terminal →
    Reading (Part Value symbol)
read_one reads (s.Take wanted) ts = takes wanted ts
read_one reads (s.Read nonterminal) ts = reads nonterminal ts
read_one reads (s.Tell signal) ts = Got (told_ahead ts) ts

abbrev pub read_all : {Value : Nonterminal → Type 0} → Reader Value → (right : List Symbol) → List Terminal →
    Reading (Parts Value right)
read_all reads [] ts = Got tt ts
read_all reads (symbol ∷ more) ts =
    and_then (read_one reads symbol ts) (λ v rest. and_then (read_all reads more rest) (λ vs end. Got (v, vs) end))

abbrev pub by_row : {Value : Nonterminal → Type 0} → Reader Value → (nonterminal : Nonterminal) →
    RowOf Value nonterminal → List Terminal → Reading (Value nonterminal)
by_row reads nonterminal (goes right make) ts = and_then (read_all reads right ts) (λ vs rest. Got (make vs) rest)
by_row reads nonterminal (refuses cause) ts = Stuck cause ts

abbrev pub Table : (Value : Nonterminal → Type 0) → Type 0
Table Value = (nonterminal : Nonterminal) → Look → RowOf Value nonterminal

-- with at most so many rows within each other
unfoldable pub reads_to : {Value : Nonterminal → Type 0} → Table Value → ℕ → Reader Value
reads_to table zero nonterminal ts = Deeper
reads_to table (suc depth) nonterminal ts = by_row (reads_to table depth) nonterminal (table nonterminal (look ts)) ts

-- more than the depth of any reading of these tokens
abbrev pub enough : List Terminal → ℕ
enough ts = 16 * length ts + 16

unfoldable pub reads_by : {Value : Nonterminal → Type 0} → Table Value → Reader Value
reads_by table nonterminal ts = reads_to table (enough ts) nonterminal ts

-- the tree that the nonterminal gives
abbrev pub reads : Reader Value
reads = reads_by row

-- ---- events: what a reading tells, in the order of the tokens

abbrev pub Events : Nonterminal → Type 0
Events nonterminal = List Event

abbrev pub told : (right : List Symbol) → Parts Events right → List Event
told [] parts = []
told (s.Take wanted ∷ more) parts = told more parts.1
told (s.Read nonterminal ∷ more) parts = parts.0 ++ told more parts.1
told (s.Tell signal ∷ more) parts = event signal parts.0 ∷ told more parts.1

abbrev pub telling : {Value : Nonterminal → Type 0} {nonterminal : Nonterminal} → RowOf Value nonterminal →
    RowOf Events nonterminal
telling (goes right make) = goes right (told right)
telling (refuses cause) = refuses cause

abbrev pub event_row : Table Events
event_row nonterminal l = telling (row nonterminal l)

-- the events of the reading, in place of its tree
abbrev pub tells : Reader Events
tells = reads_by event_row
