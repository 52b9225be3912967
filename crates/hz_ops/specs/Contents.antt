-- What a register holds.
use Rattle.std.specs.Prelude.{ℕ, ◌==◌, ℤ, Bool, false, List, [], ◌∷◌, codes, Option, Some, None, option_map}
use Rattle.std.specs.Option.{option_and_then}
use Rattle.std.specs.List.{join_with_byte}
use Rattle.std.specs.Fmt.{signed_decimal}

-- undefined, a number, a text as its UTF-16 units (ECMA-262, 6.1.4), or an object by its number
pub data Content : Type 0 where
  Undefined : Content
  Number : (value : ℤ) → Content
  Text : (units : List ℕ) → Content
  Object : (number : ℕ) → Content

-- the built-in function `print`, under its global name
abbrev pub print_name : List ℕ
print_name = codes "print"

abbrev pub print_object : Content
print_object = Object 0

abbrev pub is_print : Content → Bool
is_print Undefined = false
is_print (Number z) = false
is_print (Text t) = false
is_print (Object n) = n == 0

-- the text of a content, by ToString (ECMA-262, 7.1.17); an object's is not said here
abbrev pub text_of : Content → Option (List ℕ)
text_of Undefined = Some (codes "undefined")
text_of (Number z) = Some (signed_decimal z)
text_of (Text t) = Some t
text_of (Object n) = None

abbrev pub texts_of : List Content → Option (List (List ℕ))
texts_of [] = Some []
texts_of (x ∷ xs) = option_and_then (λ t. option_map (λ ts. t ∷ ts) (texts_of xs)) (text_of x)

-- the line that `print` prints of its arguments: their texts with a space between each two
abbrev pub line_of : List Content → Option (List ℕ)
line_of xs = option_map (join_with_byte 32) (texts_of xs)
