-- What a value is (ECMA-262, 6.1), whatever world keeps it: a text is its UTF-16 units.
use Rattle.std.specs.Prelude.{ℕ, ℤ, Bool, List}

pub data Content : Type 0 where
  Undefined : Content
  Null : Content
  Boolean : (value : Bool) → Content
  Number : (value : ℤ) → Content
  Text : (units : List ℕ) → Content
  Symbol : (number : ℕ) → Content
  Object : (number : ℕ) → Content
