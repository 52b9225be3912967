-- What the grammar sees of the tokens that are left: their classes, and what it tests before it takes a rule.
use Rattle.std.specs.Prelude.{ℕ, ◌+◌, Bool, true, false, not, ◌&&◌, ◌||◌, List, [], ◌∷◌, length, map, Some, None}
use Rattle.hz_tree.specs.declared.class.Class.{Class}
use Rattle.hz_tree.specs.declared.class.Class.TheVariants as k
use Rattle.hz_tree.specs.declared.class.Bracket.{Bracket}
use Rattle.hz_tree.specs.declared.class.Bracket.TheVariants as bracket
use Rattle.hz_tree.specs.declared.look.Look.{Look}
use Rattle.hz_tree.specs.declared.outside.BadKind.{BadKind}
use Rattle.hz_tree.specs.declared.outside.BadKind.TheVariants as bad
use Rattle.hz_tree.specs.declared.outside.OutsideKind.TheVariants as outside
use Rattle.hz_tree.specs.tokens.Text.{Text}
use Rattle.hz_tree.specs.tokens.Tokens.{Lexeme, tokens}
use Rattle.hz_tree.specs.grammar.Classes.{class_of, is_name, is_arrow, is_function, is_paren, is_async_word}
use Rattle.hz_tree.specs.grammar.Classes.{bracketing, still_open}

-- ---- terminals

-- a token as the grammar sees it
pub record Terminal : Type 0 where
  pub token : Lexeme
  pub class : Class
  pub behind : ℕ  -- the place at which the token before it ends
  pub arrow : Bool  -- it is a `(`, and `=>` stands behind the `)` that matches it

-- Whether `=>` stands behind the token with which the last of these brackets is closed. They are open, the inner ones
-- first. A token that closes another bracket than the innermost one leaves all of them open for good.
abbrev pub arrow_behind : List Bracket → List Class → Bool
arrow_behind opened [] = false
arrow_behind [] (c ∷ cs) = is_arrow c
arrow_behind (b ∷ opened) (c ∷ cs) =
    elim (still_open (bracketing c) b opened) [ None ↦ false | Some now ↦ arrow_behind now cs ]

abbrev pub begins_parameters : Class → List Lexeme → Bool
begins_parameters k.LeftParen ts = arrow_behind (bracket.Round ∷ []) (map class_of ts)
begins_parameters _ ts = false

-- the tokens as terminals, where the token before them ends at `behind`
abbrev pub terminals_from : (behind : ℕ) → List Lexeme → List Terminal
terminals_from behind [] = []
terminals_from behind (t ∷ ts) =
    record { token = t; class = class_of t; behind = behind; arrow = begins_parameters (class_of t) ts }
    ∷ terminals_from (t.at + length t.text) ts

unfoldable pub terminals : Text → List Terminal
terminals source = terminals_from 0 (tokens source)

-- ---- the next two tokens

abbrev pub first_arrow : Class → (one two : Bool) → Bool
first_arrow k.LeftParen one two = one
first_arrow _ one two = two

abbrev pub look : List Terminal → Look
look [] = record { one = k.End; one_newline = false; two = k.End; two_newline = false; arrow = false }
look (x ∷ []) =
    record { one = x.class; one_newline = x.token.newline; two = k.End; two_newline = false; arrow = x.arrow }
look (x ∷ y ∷ ts) =
    record {
      one = x.class;
      one_newline = x.token.newline;
      two = y.class;
      two_newline = y.token.newline;
      arrow = first_arrow x.class x.arrow y.arrow;
    }

-- `async`, and behind it on the same line `function`, a name, or the parameters of an arrow
abbrev pub is_async : Look → Bool
is_async l =
    is_async_word l.one && (not l.two_newline && (is_function l.two || (is_name l.two || (is_paren l.two && l.arrow))))

-- an arrow function: a name or parameters, and `=>`
abbrev pub begins_arrow : Look → Bool
begins_arrow l = (is_name l.one && is_arrow l.two) || (is_paren l.one && l.arrow)

-- ---- why the grammar is stuck at a token

abbrev pub cause_by : Class → (async : Bool) → BadKind
cause_by k.Class async = bad.Outside outside.Class
cause_by k.Import async = bad.Outside outside.Module
cause_by k.Export async = bad.Outside outside.Module
cause_by k.With async = bad.Outside outside.With
cause_by k.Super async = bad.Outside outside.Super
cause_by k.Async true = bad.Outside outside.Async
cause_by k.BigInt async = bad.Outside outside.BigInt
cause_by k.NumberForm async = bad.Outside outside.NumberForm
cause_by k.PrivateName async = bad.Outside outside.PrivateName
cause_by k.IdentifierEscape async = bad.Outside outside.IdentifierEscape
cause_by k.HtmlComment async = bad.Outside outside.HtmlComment
cause_by k.Character async = bad.Outside outside.Character
cause_by _ async = bad.Syntax

-- where no rule says otherwise
abbrev pub stuck : Look → BadKind
stuck l = cause_by l.one (is_async l)
