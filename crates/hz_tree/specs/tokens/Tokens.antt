-- The tokens of a source (ECMA-262, clause 12), where `/` never begins a regular expression.
use Rattle.std.specs.Prelude.{ℕ, zero, suc, ◌+◌, ◌-◌, Bool, true, false, ◌&&◌, ◌||◌, if◌then◌else◌, ◌==◌, nat_le}
use Rattle.std.specs.Prelude.{List, [], ◌∷◌, length, drop, slice_index, slice_range, slice_index_or, codes}
use Rattle.std.specs.Char.{is_ascii_digit}
use Rattle.hz_tree.specs.declared.front.Front.{Front}
use Rattle.hz_tree.specs.declared.outside.BadKind.TheVariants.{Syntax, Outside}
use Rattle.hz_tree.specs.declared.outside.OutsideKind.TheVariants.{NumberForm, PrivateName, IdentifierEscape}
use Rattle.hz_tree.specs.declared.outside.OutsideKind.TheVariants.{HtmlComment, Character}
use Rattle.hz_tree.specs.declared.token.Token.{Token}
use Rattle.hz_tree.specs.declared.token.TokenKind.{TokenKind}
use Rattle.hz_tree.specs.declared.token.TokenKind.TheVariants.{Punct, Template, End, Bad}
use Rattle.hz_tree.specs.tokens.Text.{Text, begins}
use Rattle.hz_tree.specs.tokens.Characters.{code_point, starts_name}
use Rattle.hz_tree.specs.tokens.Spaces.{gap}
use Rattle.hz_tree.specs.tokens.Names.{name}
use Rattle.hz_tree.specs.tokens.Numbers.{bad, number}
use Rattle.hz_tree.specs.tokens.Literals.{text, template}
use Rattle.hz_tree.specs.tokens.Punctuators.{punctuator_len}

-- ---- one token

-- `<!--` anywhere, and `-->` before which nothing but white space and comments stands on its line (B.1.1)
abbrev pub is_html_comment : (leads : Bool) → Text → Bool
is_html_comment leads z = begins (codes "<!--") z || (leads && begins (codes "-->") z)

-- a punctuator, or a token that does not begin here: a `/*` that stands here is an unfinished comment
unfoldable pub sign : Text → Front
sign z =
    let len = punctuator_len z in
    if len == 0 || begins (codes "/*") z then bad Syntax else record { kind = Punct; len = len }

-- `\` (92), `#` (35), a character past ASCII, or a sign
unfoldable pub other : Text → Front
other z =
    let b = slice_index z 0 in
    if b == 92 then bad (Outside IdentifierEscape)
    else (if b == 35 then bad (Outside PrivateName)
    else (if nat_le 128 b then bad (Outside Character) else sign z))

-- The token at the front of a text that begins with no space and no comment that is finished. `hole` says whether
-- a `}` (125) goes on with a template, and `leads` whether the token is the first one on its line.
unfoldable pub token : (hole leads : Bool) → Text → Front
token hole leads z =
    let b = slice_index z 0 in
    if length z == 0 then record { kind = End; len = 0 }
    else (if starts_name (code_point z) then name z
    else (if is_ascii_digit b then number z
    else (if b == 46 && is_ascii_digit (slice_index z 1) then bad (Outside NumberForm)
    else (if b == 34 || b == 39 then text z
    else (if b == 96 then template true z
    else (if b == 125 && hole then template false z
    else (if is_html_comment leads z then bad (Outside HtmlComment)
    else other z)))))))

-- ---- the token behind a place of a source

-- a token without where its text lies in memory
pub record Lexeme : Type 0 where
  pub kind : TokenKind
  pub at : ℕ
  pub text : Text
  pub newline : Bool

abbrev pub lexeme : Token → Lexeme
lexeme t = record { kind = t.kind; at = t.at; text = t.text.now; newline = t.newline }

-- The next token behind a place at which the source begins or a token ended. Its newline mark counts from the place.
unfoldable pub token_behind : (hole : Bool) → (source : Text) → (place : ℕ) → Lexeme
token_behind hole source place =
    let space = gap (place == 0) (drop place source) in
    let at = place + space.len in
    let front = token hole (space.marked || place == 0) (drop at source) in
    record { kind = front.kind; at = at; text = slice_range source at (at + front.len); newline = space.marked }

-- ---- all tokens

-- the list of tokens ends with such a one
abbrev pub is_last : TokenKind → Bool
is_last End = true
is_last (Bad cause) = true
is_last _ = false

-- The braces that are open behind a token of this kind and first byte, the innermost first: true where a `${`
-- opened it.
abbrev pub braces_by : TokenKind → ℕ → List Bool → List Bool
braces_by Punct first opened = if first == 123 then false ∷ opened else (if first == 125 then drop 1 opened else opened)
braces_by (Template true false) first opened = true ∷ opened
braces_by (Template false true) first opened = drop 1 opened
braces_by _ first opened = opened

abbrev pub braces : Lexeme → List Bool → List Bool
braces t opened = braces_by t.kind (slice_index t.text 0) opened

-- a `}` goes on with a template exactly where the innermost open brace is one that `${` opened
abbrev pub in_hole : List Bool → Bool
in_hole opened = slice_index_or opened 0 false

-- at most so many tokens behind a place
abbrev pub tokens_to : ℕ → List Bool → (source : Text) → (place : ℕ) → List Lexeme
tokens_to zero opened source place = []
tokens_to (suc more) opened source place =
    let t = token_behind (in_hole opened) source place in
    t ∷ (if is_last t.kind then [] else tokens_to more (braces t opened) source (t.at + length t.text))

-- All tokens behind a place, where these braces are open. Each has a byte, but for the last one.
unfoldable pub tokens_from : List Bool → (source : Text) → (place : ℕ) → List Lexeme
tokens_from opened source place = tokens_to (suc (length source - place)) opened source place

-- the tokens of a source
abbrev pub tokens : Text → List Lexeme
tokens source = tokens_from [] source 0
