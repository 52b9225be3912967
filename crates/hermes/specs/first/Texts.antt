-- First texts: which bytes spell which calls, and where bytes stop beginning such a text.
use Rattle.std.specs.Prelude.{◌≡◌, ◌⊎◌, ℕ, ◌+◌, ◌*◌, ◌<◌, ◌≤◌, Bool, not, ◌&&◌, ◌||◌, ◌==◌, nat_le, nat_lt, IsTrue}
use Rattle.std.specs.Prelude.{MatchBool, List, [], ◌∷◌, ◌++◌, length, take, decimal, codes, flat_map}
use Rattle.std.specs.List.{list_all}
use Rattle.hz_list.specs.declared.limits.TheConstants.{MAX_SAFE}
use Rattle.hermes.specs.declared.first.language.Sign.{Sign}
use Rattle.hermes.specs.declared.first.language.Sign.TheVariants.{Plus, Minus}
use Rattle.hermes.specs.declared.first.language.Term.{Term}
use Rattle.hermes.specs.declared.first.language.Addend.{Addend}
use Rattle.hermes.specs.declared.first.language.Sum.{Sum}
use Rattle.hermes.specs.declared.first.language.Argument.{Argument}
use Rattle.hermes.specs.declared.first.language.Argument.TheVariants as argument

-- The tokens, each a list of bytes. `"use strict";` is one token.
abbrev pub directive : List ℕ
directive = 34 ∷ (codes "use strict" ++ 34 ∷ 59 ∷ [])

abbrev pub sign_byte : Sign → ℕ
sign_byte Plus = 43
sign_byte Minus = 45

abbrev pub factor_tokens : ℕ → List (List ℕ)
factor_tokens n = (42 ∷ []) ∷ decimal n ∷ []

abbrev pub term_tokens : Term → List (List ℕ)
term_tokens t = decimal t.first ∷ flat_map factor_tokens t.others

abbrev pub addend_tokens : Addend → List (List ℕ)
addend_tokens a = (sign_byte a.sign ∷ []) ∷ term_tokens a.term

abbrev pub sum_tokens : Sum → List (List ℕ)
sum_tokens s = term_tokens s.first ++ flat_map addend_tokens s.others

abbrev pub quoted : List ℕ → List ℕ
quoted text = 34 ∷ (text ++ 34 ∷ [])

abbrev pub argument_tokens : Argument → List (List ℕ)
argument_tokens (argument.Text text) = quoted text ∷ []
argument_tokens (argument.Sum s) = sum_tokens s

abbrev pub call_tokens : Argument → List (List ℕ)
call_tokens a = codes "print" ∷ (40 ∷ []) ∷ (argument_tokens a ++ (41 ∷ []) ∷ (59 ∷ []) ∷ [])

abbrev pub first_tokens : List Argument → List (List ℕ)
first_tokens calls = directive ∷ flat_map call_tokens calls

-- A space or a newline.
abbrev pub is_blank : ℕ → Bool
is_blank b = (b == 32) || (b == 10)

-- The bytes are these tokens in order, each with blanks behind it, or none.
abbrev pub Spaced : List (List ℕ) → List ℕ → Type 0
Spaced [] bytes = bytes ≡ []
Spaced (token ∷ tokens) bytes =
    (blanks : List ℕ) × (rest : List ℕ) × (bytes ≡ token ++ (blanks ++ rest)) × IsTrue (list_all is_blank blanks)
    × Spaced tokens rest

-- What may stand in a text and in a sum: the largest number is the greatest safe integer, 254 bytes the longest text.
abbrev pub is_number : ℕ → Bool
is_number n = nat_le n MAX_SAFE

abbrev pub is_text_byte : ℕ → Bool
is_text_byte b = nat_le 32 b && nat_le b 126 && not (b == 34) && not (b == 92)

abbrev pub is_text : List ℕ → Bool
is_text text = nat_le (length text) 254 && list_all is_text_byte text

abbrev pub is_term : Term → Bool
is_term t = is_number t.first && list_all is_number t.others

abbrev pub is_addend : Addend → Bool
is_addend a = is_term a.term

abbrev pub is_sum : Sum → Bool
is_sum s = is_term s.first && list_all is_addend s.others

abbrev pub is_argument : Argument → Bool
is_argument (argument.Text text) = is_text text
is_argument (argument.Sum s) = is_sum s

-- The bytes spell these calls behind a directive, or without one where the text is read as strict.
abbrev pub Spells : Bool → List Argument → List ℕ → Type 0
Spells strict calls bytes = Spaced (first_tokens calls) bytes
    ⊎ (IsTrue strict × Spaced (flat_map call_tokens calls) bytes)

-- The bytes are a first text with these calls.
pub record IsFirst (strict : Bool) (calls : List Argument) (bytes : List ℕ) : Type 0 where
  pub parts : IsTrue (list_all is_argument calls)
  pub spelled : Spells strict calls bytes

-- The bytes spell no other calls.
abbrev pub IsOnly : Bool → List Argument → List ℕ → Type 0
IsOnly strict calls bytes = (others : List Argument) → IsFirst strict others bytes → others ≡ calls

-- Some first text begins with these bytes.
abbrev pub Begins : Bool → List ℕ → Type 0
Begins strict prefix = (calls : List Argument) × (rest : List ℕ) × IsFirst strict calls (prefix ++ rest)

-- The bytes are no first text, and `at` is the length of their longest prefix that begins one.
pub record IsStuck (strict : Bool) (bytes : List ℕ) (at : ℕ) : Type 0 where
  pub unspelled : (calls : List Argument) → IsFirst strict calls bytes → ⊥
  pub within : at ≤ length bytes
  pub begins : Begins strict (take at bytes)
  pub longest : (n : ℕ) → at < n → n ≤ length bytes → Begins strict (take n bytes) → ⊥

-- How many bytes a text has at least, without its directive: nine for each call, two for each further number, and those
-- of its texts.
abbrev pub addend_numbers : List Addend → ℕ
addend_numbers [] = 0
addend_numbers (a ∷ addends) = 1 + length a.term.others + addend_numbers addends

abbrev pub further_numbers : Sum → ℕ
further_numbers s = length s.first.others + addend_numbers s.others

abbrev pub weight_of : Argument → ℕ
weight_of (argument.Text text) = 9 + length text
weight_of (argument.Sum s) = 9 + 2 * further_numbers s

abbrev pub weight : List Argument → ℕ
weight [] = 0
weight (a ∷ calls) = weight_of a + weight calls

-- The text of a file runs with these calls: it has at most 4,095 bytes, and spells these calls alone.
abbrev pub IsAccepted : Bool → List ℕ → List Argument → Type 0
IsAccepted strict file calls = (length file ≤ 4095) × IsFirst strict calls file × IsOnly strict calls file

-- The text of a file is refused at that place: behind 4,095 bytes where it has more, else where it is stuck.
abbrev pub IsRefused : Bool → List ℕ → ℕ → Type 0
IsRefused strict file at = MatchBool (nat_lt 4095 (length file)) (at ≡ 4095) (IsStuck strict file at)
