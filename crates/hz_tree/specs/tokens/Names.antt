-- Names and reserved words (ECMA-262, 12.7).
use Rattle.std.specs.Prelude.{◌+◌, Bool, if◌then◌else◌, List, [], ◌∷◌, take, drop, codes}
use Rattle.std.specs.List.{list_any}
use Rattle.std.specs.Str.{bytes_eq}
use Rattle.hz_tree.specs.declared.front.Front.{Front}
use Rattle.hz_tree.specs.declared.front.Stretch.{Stretch}
use Rattle.hz_tree.specs.declared.token.TokenKind.TheVariants.{Name, Word}
use Rattle.hz_tree.specs.tokens.Text.{Text, none, plain, run}
use Rattle.hz_tree.specs.tokens.Characters.{code_point, char_len, continues_name}

-- ReservedWord (12.7.2) without `await`, and the words that strict code reserves as well
unfoldable pub reserved_words : List Text
reserved_words =
    codes "break" ∷ codes "case" ∷ codes "catch" ∷ codes "class" ∷ codes "const" ∷ codes "continue"
    ∷ codes "debugger" ∷ codes "default" ∷ codes "delete" ∷ codes "do" ∷ codes "else" ∷ codes "enum"
    ∷ codes "export" ∷ codes "extends" ∷ codes "false" ∷ codes "finally" ∷ codes "for" ∷ codes "function"
    ∷ codes "if" ∷ codes "import" ∷ codes "in" ∷ codes "instanceof" ∷ codes "new" ∷ codes "null"
    ∷ codes "return" ∷ codes "super" ∷ codes "switch" ∷ codes "this" ∷ codes "throw" ∷ codes "true"
    ∷ codes "try" ∷ codes "typeof" ∷ codes "var" ∷ codes "void" ∷ codes "while" ∷ codes "with"
    ∷ codes "implements" ∷ codes "interface" ∷ codes "let" ∷ codes "package" ∷ codes "private"
    ∷ codes "protected" ∷ codes "public" ∷ codes "static" ∷ codes "yield" ∷ []

unfoldable pub is_reserved : Text → Bool
is_reserved word = list_any (λ reserved. bytes_eq reserved word) reserved_words

-- a character that goes on with a name
unfoldable pub name_part : Text → Stretch
name_part z = if continues_name (code_point z) then plain (char_len z) else none

-- the name or word at the front of a text whose first character may begin one
unfoldable pub name : Text → Front
name z =
    let len = char_len z + (run name_part (drop (char_len z) z)).len in
    record { kind = if is_reserved (take len z) then Word else Name; len = len }
