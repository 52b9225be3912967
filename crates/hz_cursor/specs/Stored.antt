-- Tokens without their texts, as they are stored.
use Rattle.std.specs.Prelude.{◌≡◌, ℕ, ◌-◌, nat_lt, Bool, if◌then◌else◌, List, [], ◌∷◌, ◌++◌, drop, length, option_map}
use Rattle.std.specs.List.{slice_get}
use Rattle.hz_tree.specs.declared.class.Class.{Class}
use Rattle.hz_tree.specs.declared.look.Look.{Look}
use Rattle.hz_tree.specs.grammar.Classes.{class_of, is_paren}
use Rattle.hz_tree.specs.reading.Reading.{has_octal}
use Rattle.hz_tree.specs.tokens.Tokens.{Lexeme}
use Rattle.hz_scan.specs.declared.look.Seen.{Seen}
use Rattle.hz_scan.specs.Look.{look_at}
use Rattle.hz_scan.specs.Order.{end_of}
use Rattle.hz_cursor.specs.declared.stored.Stored.{Stored}
use Rattle.hz_cursor.specs.Marks.{first_or_false}

-- ---- numbers in a byte

-- a number is stored as it is, or 255 stands in its place
abbrev pub shortened : ℕ → ℕ
shortened n = if nat_lt n 255 then n else 255

-- and it stands among the long ones
abbrev pub long_of : ℕ → List ℕ
long_of n = if nat_lt n 255 then [] else n ∷ []

abbrev pub first_or_zero : List ℕ → ℕ
first_or_zero [] = 0
first_or_zero (n ∷ more) = n

-- the number that is stored so, where these long ones are left
abbrev pub full : (short : ℕ) → (long : List ℕ) → ℕ
full short long = if nat_lt short 255 then short else first_or_zero long

-- and the long ones that are left behind it
abbrev pub past_full : (short : ℕ) → (long : List ℕ) → List ℕ
past_full short long = if nat_lt short 255 then long else drop 1 long

-- ---- tokens, where the one before them ends at a place

abbrev pub stored_as : Class → (end : ℕ) → Lexeme → Stored
stored_as c end t = record {
  class = c;
  newline = t.newline;
  octal = has_octal t.kind;
  gap = shortened (t.at - end);
  len =
      shortened (length t.text);
}

abbrev pub long_in : (end : ℕ) → Lexeme → List ℕ
long_in end t = long_of (t.at - end) ++ long_of (length t.text)

abbrev pub stored : (end : ℕ) → List Lexeme → List Stored
stored end [] = []
stored end (t ∷ ts) = stored_as (class_of t) end t ∷ stored (end_of t) ts

abbrev pub longs : (end : ℕ) → List Lexeme → List ℕ
longs end [] = []
longs end (t ∷ ts) = long_in end t ++ longs (end_of t) ts

-- ---- a store of tokens

pub record Kept : Type 0 where
  pub tokens : List Stored
  pub long : List ℕ
  pub end : ℕ  -- the place at which the last one ends

-- with one more token of the class
abbrev pub with_token : Class → Lexeme → Kept → Kept
with_token c t kept = record {
  tokens = kept.tokens ++ stored_as c kept.end t ∷ [];
  long = kept.long ++ long_in kept.end t;
  end = end_of t;
}

-- ---- behind the next token, where these long numbers and these flags of parentheses are left

abbrev pub gap_of : Stored → List ℕ → ℕ
gap_of one long = full one.gap long

abbrev pub len_of : Stored → List ℕ → ℕ
len_of one long = full one.len (past_full one.gap long)

abbrev pub long_behind : Stored → List ℕ → List ℕ
long_behind one long = past_full one.len (past_full one.gap long)

abbrev pub flags_behind : Stored → List Bool → List Bool
flags_behind one flags = if is_paren one.class then drop 1 flags else flags

-- what is taken of them with the token, and what is left then
pub record Taken (one : Stored) (long : List ℕ) (flags : List Bool) (gap len : ℕ) (long' : List ℕ)
    (flags' : List Bool) : Type 0 where
  pub gap_is : gap ≡ gap_of one long
  pub len_is : len ≡ len_of one long
  pub long_is : long' ≡ long_behind one long
  pub flags_are : flags' ≡ flags_behind one flags

-- ---- the next two tokens

abbrev pub seen : Stored → Seen
seen x = record { class = x.class; newline = x.newline }

-- the look of the first two of these, where the flags of the parentheses among them are these
abbrev pub first_two : List Stored → (flags : List Bool) → Look
first_two xs flags =
    look_at (option_map seen (slice_get xs 0)) (option_map seen (slice_get xs 1)) (first_or_false flags)
