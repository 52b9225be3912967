-- Where a reader that counts no brace of before finds other tokens than the source has.
use Rattle.std.specs.Prelude.{◌≡◌, Bool, true, false, not, ◌&&◌, ◌⊎◌, List, [], ◌∷◌, ◌++◌}
use Rattle.hz_tree.specs.declared.class.Class.{Class}
use Rattle.hz_tree.specs.declared.class.Class.TheVariants as k
use Rattle.hz_tree.specs.declared.nonterminal.Nonterminal.TheVariants as n
use Rattle.hz_tree.specs.declared.symbol.Symbol.{Symbol}
use Rattle.hz_tree.specs.declared.symbol.Symbol.TheVariants as s
use Rattle.hz_tree.specs.grammar.Look.{Terminal}
use Rattle.hz_tree.specs.grammar.Symbols.{Parts, Value}
use Rattle.hz_tree.specs.reading.Reading.{Got, end_behind, has_octal, read_all, reads}
use Rattle.hz_laws.specs.Middle.{braces_behind}

-- what the `}` is with which a template goes on behind a hole
abbrev pub goes_on : Class → Bool
goes_on k.TemplateMiddle = true
goes_on k.TemplateTail = true
goes_on k.Malformed = true
goes_on _ = false

-- A hole of a template ends here. A reader that does not know of the hole sees the end of a block.
pub record EndsHole (of_source seen : Terminal) : Type 0 where
  pub hole : goes_on of_source.class ≡ true
  pub brace : seen.class ≡ k.RightBrace
  pub at : of_source.token.at ≡ seen.token.at
  pub newline : of_source.token.newline ≡ seen.token.newline
  pub octal : has_octal of_source.token.kind ≡ has_octal seen.token.kind
  pub behind : of_source.behind ≡ seen.behind
  pub arrow : of_source.arrow ≡ seen.arrow

-- What is seen of the source's terminals: all as they are, or up to a token that ends a hole. These braces were opened
-- since the beginning.
pub record Parted (opened : List Bool) (of_source seen : List Terminal) : Type 0 where
  pub before : List Terminal
  pub ending : Terminal
  pub more : List Terminal
  pub brace : Terminal
  pub others : List Terminal
  pub source_is : of_source ≡ before ++ ending ∷ more
  pub seen_is : seen ≡ before ++ brace ∷ others
  pub ends : EndsHole ending brace
  pub closed : braces_behind before opened ≡ []

abbrev pub SeenAs : (opened : List Bool) → (of_source seen : List Terminal) → Type 0
SeenAs opened of_source seen = (of_source ≡ seen) ⊎ Parted opened of_source seen

-- the terminals of a reader that begins at the first of them: it has not seen what stands before
abbrev pub begun : List Terminal → List Terminal
begun [] = []
begun (x ∷ ts) = record x { token = record x.token { newline = false }; behind = x.token.at } ∷ ts

-- ---- symbols that are read from the middle

-- The first of them takes the first token, whatever stands before that.
abbrev pub opens : List Symbol → Bool
opens (s.Take wanted ∷ more) = true
opens (s.Read n.Params ∷ more) = true
opens (s.Read (n.Bound role) ∷ more) = true
opens _ = false

abbrev pub is_told : Symbol → Bool
is_told (s.Tell signal) = true
is_told _ = false

-- nothing is told between them
abbrev pub untold : List Symbol → Bool
untold [] = true
untold (first ∷ more) = not (is_told first) && untold more

-- the same parts, but for the first token
abbrev pub SameBehind : (right : List Symbol) → (parts others : Parts Value right) → Type 0
SameBehind [] parts others = parts ≡ others
SameBehind (s.Take wanted ∷ more) parts others = parts.1 ≡ others.1
SameBehind (s.Read m ∷ more) parts others = parts ≡ others
SameBehind (s.Tell signal ∷ more) parts others = parts ≡ others

-- Of what is seen the same is read, up to the same place.
pub record ReadsAlike (right : List Symbol) (parts : Parts Value right) (rest seen : List Terminal) : Type 0 where
  pub others : Parts Value right
  pub left : List Terminal
  pub read : read_all reads right seen ≡ Got others left
  pub same : SameBehind right parts others
  pub behind : SeenAs [] rest left
  pub end : end_behind left ≡ end_behind rest
