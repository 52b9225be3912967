-- The tokens of a source, one after the other.
use Rattle.std.specs.Prelude.{◌≡◌, ℕ, ◌+◌, Bool, List, [], ◌∷◌, Option, Some, None, length}
use Rattle.hz_tree.specs.declared.token.Token.{Token}
use Rattle.hz_tree.specs.tokens.Text.{Text}
use Rattle.hz_tree.specs.tokens.Tokens.{Lexeme, lexeme, braces}
use Rattle.hz_scan.specs.State.{Lies}

-- the first of the tokens, or none where none is left
abbrev pub Gives : (old new : List Lexeme) → Option Token → Type 0
Gives old new None = (old ≡ []) × (new ≡ [])
Gives old new (Some t) = old ≡ lexeme t ∷ new

-- the place behind a token
abbrev pub end_of : Lexeme → ℕ
end_of t = t.at + length t.text

-- each token lies inside the source behind the one before it, the first one behind the place
abbrev pub InOrder : (source : Text) → (place : ℕ) → List Lexeme → Type 0
InOrder source place [] = Unit {0}
InOrder source place (t ∷ ts) = Lies source place t × InOrder source (end_of t) ts

-- the braces that are open behind these tokens, where the others were open before them
abbrev pub braces_behind : List Lexeme → List Bool → List Bool
braces_behind [] opened = opened
braces_behind (t ∷ ts) opened = braces_behind ts (braces t opened)
