-- What `+` gives.
use Rattle.std.specs.Prelude.{ℕ, ℤ, List, Option, Some, None}
use Rattle.hz_value.specs.operators.Contents.{Content, Number, Text}

-- a number, or else this text
abbrev pub sum_content : Option ℤ → List ℕ → Content
sum_content (Some z) t = Number z
sum_content None t = Text t
