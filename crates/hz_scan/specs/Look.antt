-- The next two tokens, as the rules of the grammar test them.
use Rattle.std.specs.Prelude.{Bool, false, ◌&&◌, ◌||◌, Option, unwrap_or}
use Rattle.hz_tree.specs.declared.class.Class.TheVariants as k
use Rattle.hz_tree.specs.declared.look.Look.{Look}
use Rattle.hz_tree.specs.grammar.Classes.{class_of, is_paren}
use Rattle.hz_tree.specs.tokens.Tokens.{Lexeme}
use Rattle.hz_scan.specs.declared.look.Seen.{Seen}

-- what is tested of a token
abbrev pub seen : Lexeme → Seen
seen t = record { class = class_of t; newline = t.newline }

-- where no token is left
abbrev pub nothing : Seen
nothing = record { class = k.End; newline = false }

-- of two that are there, or stand for none
abbrev pub look_of : (one two : Seen) → (arrow : Bool) → Look
look_of one two arrow = record {
  one = one.class;
  one_newline = one.newline;
  two = two.class;
  two_newline = two.newline;
  arrow = (is_paren one.class || is_paren two.class) && arrow;
}

-- `arrow` tells whether the first of the two that is a `(` begins the parameters of an arrow
abbrev pub look_at : (one two : Option Seen) → (arrow : Bool) → Look
look_at one two arrow = look_of (unwrap_or one nothing) (unwrap_or two nothing) arrow
