-- Terminals that stand in line, one behind the other.
use Rattle.std.specs.Prelude.{◌≡◌, ℕ, ◌≤◌, false, List, [], ◌∷◌, length}
use Rattle.hz_tree.specs.declared.token.TokenKind.TheVariants.{End}
use Rattle.hz_tree.specs.grammar.Classes.{class_of}
use Rattle.hz_tree.specs.grammar.Look.{Terminal}
use Rattle.hz_tree.specs.tokens.Text.{Text}
use Rattle.hz_tree.specs.tokens.Tokens.{Lexeme, is_last}
use Rattle.hz_scan.specs.State.{Lies}
use Rattle.hz_scan.specs.Order.{end_of}

-- a token before others is not the last one, and has a text
abbrev pub GoesOn : Lexeme → (more : List Terminal) → Type 0
GoesOn t [] = Unit {0}
GoesOn t more = (is_last t.kind ≡ false) × (1 ≤ length t.text)

-- The terminal is of its token's class, and lies in the source at or behind `place`, where the one before it ends. The
-- end of the source is its own.
pub record InLine (source : Text) (place : ℕ) (t : Terminal) (more : List Terminal) : Type 0 where
  pub class : t.class ≡ class_of t.token
  pub behind : t.behind ≡ place
  pub lies : Lies source place t.token
  pub goes_on : GoesOn t.token more
  pub ends : t.token.kind ≡ End → t.token.at ≡ length source

abbrev pub Lined : (source : Text) → (place : ℕ) → List Terminal → Type 0
Lined source place [] = Unit {0}
Lined source place (t ∷ ts) = InLine source place t ts × Lined source (end_of t.token) ts
