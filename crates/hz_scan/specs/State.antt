-- What a scanner means.
use Rattle.std.specs.Prelude.{◌≡◌, ℕ, ◌+◌, ◌≤◌, Bool, if◌then◌else◌, Option, Some, None, is_some, unwrap_or, length}
use Rattle.std.specs.Prelude.{slice_range}
use Rattle.hz_tree.specs.tokens.Text.{Text}
use Rattle.hz_tree.specs.tokens.Tokens.{Lexeme, token_behind, is_last}

pub record State : Type 0 where
  pub source : Text
  -- the place behind the last token that was given
  pub place : ℕ
  -- the last token of the list, once it was given
  pub ended : Option Lexeme

abbrev pub starting : Text → ℕ → State
starting source place = record { source = source; place = place; ended = None }

-- the token that a scanner gives
unfoldable pub token_from : (hole : Bool) → State → Lexeme
token_from hole s = unwrap_or s.ended (token_behind hole s.source s.place)

-- the scanner behind a token
abbrev pub past : State → Lexeme → State
past s t = if is_last t.kind then record s { ended = Some t } else record s { place = t.at + length t.text }

-- the scanner when it has given a token
unfoldable pub behind : (hole : Bool) → State → State
behind hole s = if is_some s.ended then s else past s (token_behind hole s.source s.place)

-- the token's text is the source's slice at its place, and lies inside the source behind this place
pub record Lies (source : Text) (place : ℕ) (t : Lexeme) : Type 0 where
  pub after : place ≤ t.at
  pub inside : t.at + length t.text ≤ length source
  pub slice : t.text ≡ slice_range source t.at (t.at + length t.text)
