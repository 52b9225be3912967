-- Punctuators (ECMA-262, 12.8).
use Rattle.std.specs.Prelude.{ℕ, ◌&&◌, if◌then◌else◌, List, [], ◌∷◌, length, slice_index, codes}
use Rattle.std.specs.Char.{is_ascii_digit}
use Rattle.hz_tree.specs.tokens.Text.{Text, begins}

-- in the order of falling length, so that the first with which a text begins is the longest
abbrev pub punctuators : List Text
punctuators =
    codes ">>>=" ∷ codes "..." ∷ codes "===" ∷ codes "!==" ∷ codes "**=" ∷ codes "<<=" ∷ codes ">>=" ∷ codes ">>>"
    ∷ codes "&&=" ∷ codes "||=" ∷ codes "??="
    ∷ codes "<=" ∷ codes ">=" ∷ codes "==" ∷ codes "!=" ∷ codes "**" ∷ codes "++" ∷ codes "--" ∷ codes "<<" ∷ codes ">>"
    ∷ codes "&&" ∷ codes "||" ∷ codes "??" ∷ codes "?." ∷ codes "+=" ∷ codes "-=" ∷ codes "*=" ∷ codes "/="
    ∷ codes "%=" ∷ codes "&=" ∷ codes "|=" ∷ codes "^=" ∷ codes "=>"
    ∷ codes "{" ∷ codes "}" ∷ codes "(" ∷ codes ")" ∷ codes "[" ∷ codes "]" ∷ codes "." ∷ codes ";" ∷ codes ","
    ∷ codes "<" ∷ codes ">" ∷ codes "+" ∷ codes "-" ∷ codes "*" ∷ codes "/" ∷ codes "%" ∷ codes "&" ∷ codes "|"
    ∷ codes "^" ∷ codes "!" ∷ codes "~" ∷ codes "?" ∷ codes ":" ∷ codes "=" ∷ []

-- the length of the first of the spellings with which the text begins, or 0
abbrev pub first_len : List Text → Text → ℕ
first_len [] z = 0
first_len (spelling ∷ more) z = if begins spelling z then length spelling else first_len more z

-- The length of the punctuator at the front of a text whose first four bytes are these, or 0 where none stands there.
-- `?.` (63 and 46) before a digit is `?` (OptionalChainingPunctuator).
unfoldable pub punctuator_of : (first second third fourth : ℕ) → ℕ
punctuator_of first second third fourth =
    let z = first ∷ second ∷ third ∷ fourth ∷ [] in
    if begins (codes "?.") z && is_ascii_digit third then 1 else first_len punctuators z

unfoldable pub punctuator_len : Text → ℕ
punctuator_len z = punctuator_of (slice_index z 0) (slice_index z 1) (slice_index z 2) (slice_index z 3)
