-- A place of a source, and what a reader that stands there has before it.
use Rattle.std.specs.Prelude.{◌≡◌, ℕ, ◌+◌, ◌≤◌, Bool, true, false, if◌then◌else◌, List, [], ◌∷◌, length}
use Rattle.std.specs.Prelude.{Option, Some, None, is_none, option_map, IfSome, Result, Ok, Err}
use Rattle.hz_list.specs.declared.out_of_memory.Memory.{Memory}
use Rattle.hz_tree.specs.declared.class.Class.{Class}
use Rattle.hz_tree.specs.declared.class.Class.TheVariants as k
use Rattle.hz_tree.specs.declared.look.Look.{Look}
use Rattle.hz_tree.specs.declared.token.Token.{Token}
use Rattle.hz_tree.specs.declared.token.TokenKind.{TokenKind}
use Rattle.hz_tree.specs.declared.token.TokenKind.TheVariants as kind
use Rattle.hz_tree.specs.grammar.Classes.{class_of}
use Rattle.hz_tree.specs.grammar.Look.{Terminal, begins_parameters, look, stuck, terminals_from}
use Rattle.hz_tree.specs.reading.Reading.{takes, Got, Stuck}
use Rattle.hz_tree.specs.tokens.Text.{Text}
use Rattle.hz_tree.specs.tokens.Tokens.{Lexeme, lexeme, token_behind, tokens_from, is_last, in_hole, braces}

pub record Place : Type 0 where
  pub source : Text
  pub opened : List Bool  -- the braces that are open, those of before the reader's beginning left out
  pub at : ℕ  -- where the token before it ends, or where the reader began
  pub ended : Bool  -- the last token lies before it

-- where a reader begins
abbrev pub beginning : Text → ℕ → Place
beginning source at = record { source = source; opened = []; at = at; ended = false }

abbrev pub tokens_left : Place → List Lexeme
tokens_left p = if p.ended then [] else tokens_from p.opened p.source p.at

-- the terminals that are left
abbrev pub left : Place → List Terminal
left p = terminals_from p.at (tokens_left p)

-- the next token, and the place behind it
abbrev pub first : Place → Option Lexeme
first p = if p.ended then None else Some (token_behind (in_hole p.opened) p.source p.at)

abbrev pub past : Place → Lexeme → Place
past p t = record p { opened = braces t p.opened; at = t.at + length t.text; ended = is_last t.kind }

-- the next terminal, where this is the next token
abbrev pub terminal : Place → Lexeme → Terminal
terminal p t =
    record {
      token = t;
      class = class_of t;
      behind = p.at;
      arrow = begins_parameters (class_of t) (tokens_left (past p t));
    }

-- the token behind the first one
abbrev pub second : Place → Option Lexeme → Option Lexeme
second p None = None
second p (Some t) = first (past p t)

-- ---- what is in view

abbrev pub seen_class : Option Lexeme → Class
seen_class None = k.End
seen_class (Some t) = class_of t

abbrev pub seen_newline : Option Lexeme → Bool
seen_newline None = false
seen_newline (Some t) = t.newline

abbrev pub shown : (one two : Option Lexeme) → (arrow : Bool) → Look
shown one two arrow = record {
  one = seen_class one;
  one_newline = seen_newline one;
  two = seen_class two;
  two_newline = seen_newline two;
  arrow = arrow;
}

-- what the next token is
abbrev pub kind_ahead : List Terminal → TokenKind
kind_ahead [] = kind.End
kind_ahead (x ∷ ts) = x.token.kind

-- ---- what a reader keeps

abbrev pub place_of : Text → List Bool → ℕ → Option Token → Place
place_of source opened at one = record { source = source; opened = opened; at = at; ended = is_none one }

abbrev pub Inside : Text → Token → Type 0
Inside source t = t.at + length t.text.now ≤ length source

pub record Keeps (p : Place) (one two : Option Token) : Type 0 where
  pub within : p.at ≤ length p.source
  pub one_is : option_map lexeme one ≡ first p
  pub two_is : option_map lexeme two ≡ second p (option_map lexeme one)
  pub one_inside : IfSome one (Inside p.source)
  pub two_inside : IfSome two (Inside p.source)

-- The first of the terminals is taken where the grammar takes it for the class.
pub record Took (wanted : Class) (old new : Place) : Type 0 where
  pub token : Lexeme
  pub next : first old ≡ Some token
  pub moved : new ≡ past old token
  pub taken : takes wanted (left old) ≡ Got (terminal old token) (left new)

-- it is taken, or nothing is
abbrev pub Eats : (wanted : Class) → (old new : Place) → Result Bool Memory → Type 0
Eats wanted old new (Ok true) = Took wanted old new
Eats wanted old new (Ok false) = (takes wanted (left old) ≡ Stuck (stuck (look (left old))) (left old)) × (new ≡ old)
Eats wanted old new (Err memory) = Unit {0}
