-- Printed lines as bytes.
use Rattle.std.specs.Prelude.{ℕ, List, [], ◌∷◌, ◌++◌, length, take, Option}
use Rattle.std.specs.Str.{encode_utf8_all}
use Rattle.std.specs.Char.Utf16.{utf16_lossy_chars}
use Rattle.std.specs.Io.KnownBytes.{Appends}
use Rattle.hz_io.specs.Contents.{Told, Gets, GetsFront}

-- a text of UTF-16 units in UTF-8: a high surrogate and the low one behind it are one character, as
-- ECMA-262's CodePointAt (11.1.4) reads them, and any other surrogate becomes U+FFFD
abbrev pub utf8 : List ℕ → List ℕ
utf8 units = encode_utf8_all (utf16_lossy_chars units)

-- the bytes of a line: its text and a newline
abbrev pub line_bytes : List ℕ → List ℕ
line_bytes line = utf8 line ++ 10 ∷ []

-- the bytes of lines, one behind the other
abbrev pub printed : List (List ℕ) → List ℕ
printed [] = []
printed (line ∷ lines) = line_bytes line ++ printed lines

-- a stream got these lines, each by one put
abbrev pub Prints : Told → Told → List (List ℕ) → Type 0
Prints old new lines = Gets old new (printed lines) (length lines)

-- a stream got a front of the bytes of these lines, by one put for each line
abbrev pub PrintsFront : Told → Told → List (List ℕ) → Type 0
PrintsFront old new lines = GetsFront old new (printed lines) (length lines)

-- the same of the first lines among these
abbrev pub PrintsSome : Told → Told → List (List ℕ) → Type 0
PrintsSome old new lines = (n : ℕ) × PrintsFront old new (take n lines)

-- known bytes grow by a front of these
abbrev pub AppendsPrefix : Option (List ℕ) → Option (List ℕ) → List ℕ → Type 0
AppendsPrefix old new bytes = (k : ℕ) × Appends old new (take k bytes)
