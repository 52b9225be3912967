-- The answers to cases, as they are printed.
use Rattle.std.specs.Prelude.{ℕ, ◌+◌, ◌/◌, ◌%◌, Bool, true, false, ◌&&◌, if◌then◌else◌, ◌==◌, nat_lt}
use Rattle.std.specs.Prelude.{nat_le, List, [], ◌∷◌, ◌++◌, map, Option, Some, None, codes, decimal}
use Rattle.std.specs.List.{flat_map, join_by}
use Rattle.hz_tree.specs.declared.index.FunctionInfo.{FunctionInfo}
use Rattle.hz_tree.specs.declared.outside.BadKind.TheVariants as bad
use Rattle.hz_tree.specs.declared.token.TokenKind.{TokenKind}
use Rattle.hz_tree.specs.declared.token.TokenKind.TheVariants as token
use Rattle.hz_tree.specs.declared.tree.FunctionKind.{FunctionKind}
use Rattle.hz_tree.specs.declared.tree.FunctionKind.TheVariants as kind
use Rattle.hz_tree.specs.sources.Shown.{name_of_kind}
use Rattle.hz_tree.specs.tokens.Text.{Text}
use Rattle.hz_tree.specs.tokens.Tokens.{Lexeme}

-- texts one behind the other, with `between` between two
abbrev pub separated : (between : Text) → List Text → Text
separated between words = join_by (λ word. word) between words

-- ---- functions

abbrev pub kind_word : FunctionKind → Text
kind_word kind.Script = codes "Script"
kind_word kind.Function = codes "Function"
kind_word kind.Arrow = codes "Arrow"
kind_word kind.Method = codes "Method"
kind_word kind.Generator = codes "Generator"

abbrev pub parent_word : Option ℕ → Text
parent_word None = []
parent_word (Some parent) = codes " in " ++ decimal parent

-- kind, start, end, length, and the number of the function round it
abbrev pub function_word : FunctionInfo → Text
function_word f = kind_word f.kind ++ (codes " " ++ (decimal f.start ++ (codes ".." ++ (decimal f.end
    ++ (codes " " ++ (decimal f.length ++ parent_word f.parent))))))

abbrev pub function_line : List FunctionInfo → Text
function_line fs = separated (codes ", ") (map function_word fs)

-- ---- tokens

abbrev pub hex_digit : ℕ → ℕ
hex_digit n = if nat_lt n 10 then 48 + n else 87 + n

-- a byte of a token: newline (10), backslash (92), what can be seen in ASCII, and the others
abbrev pub shown_byte : ℕ → Text
shown_byte b = if b == 10 then codes "\\n"
    else (if b == 92 then codes "\\\\"
    else (if nat_le 32 b && nat_lt b 127 then b ∷ []
    else codes "\\x" ++ hex_digit (b / 16) ∷ hex_digit (b % 16) ∷ []))

abbrev pub shown : Text → Text
shown text = flat_map shown_byte text

abbrev pub part_word : (first last : Bool) → Text
part_word true true = codes "whole"
part_word true false = codes "head"
part_word false false = codes "middle"
part_word false true = codes "tail"

-- what a token is, and for the last one its place
abbrev pub token_kind : TokenKind → (at : ℕ) → Text
token_kind token.Name at = codes "n:"
token_kind token.Word at = codes "w:"
token_kind token.Punct at = codes "p:"
token_kind (token.Number value) at = decimal value ++ codes ":"
token_kind (token.Text false) at = codes "t:"
token_kind (token.Text true) at = codes "o:"
token_kind token.OctalNumber at = codes "oct:"
token_kind (token.Template first last) at = part_word first last ++ codes ":"
token_kind token.End at = codes "end@" ++ decimal at
token_kind (token.Bad bad.Syntax) at = codes "Syntax@" ++ decimal at
token_kind (token.Bad (bad.Outside kind)) at = name_of_kind kind ++ (codes "@" ++ decimal at)

abbrev pub mark_word : Bool → Text
mark_word newline = if newline then codes "^" else []

-- the newline mark, what the token is, and its text
abbrev pub token_word : Lexeme → Text
token_word t = mark_word t.newline ++ (token_kind t.kind t.at ++ shown t.text)

abbrev pub token_line : List Lexeme → Text
token_line ts = separated (codes " ") (map token_word ts)
