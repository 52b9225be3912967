-- The number that a text means: ECMA-262's StringToNumber (7.1.4.1) where its value is a safe integer
-- that is written without a point and without an exponent.
use Rattle.std.specs.Prelude.{ℕ, ℤ, pos, neg_ℤ, Bool, ◌&&◌, ◌||◌, nat_lt, nat_le, ◌==◌, if◌then◌else◌, Option, Some}
use Rattle.std.specs.Prelude.{None, List, [], ◌∷◌, reverse, length, option_map}
use Rattle.std.specs.List.{list_all}
use Rattle.std.specs.Char.{digit_value}
use Rattle.std.specs.Str.Parse.{digits_value}
use Rattle.hz_list.specs.declared.limits.TheConstants.{MAX_SAFE}

-- the units that ECMA-262 calls WhiteSpace (12.2) or LineTerminator (12.3)
abbrev pub is_blank : ℕ → Bool
is_blank u =
    (nat_le 9 u && nat_le u 13) || u == 32 || u == 160 || u == 5760 || (nat_le 8192 u && nat_le u 8202)
    || u == 8232 || u == 8233 || u == 8239 || u == 8287 || u == 12288 || u == 65279

-- the text without blanks in front, and without blanks at either end
abbrev pub trim_front : List ℕ → List ℕ
trim_front [] = []
trim_front (u ∷ us) = if is_blank u then trim_front us else u ∷ us

abbrev pub trimmed : List ℕ → List ℕ
trimmed us = reverse (trim_front (reverse (trim_front us)))

-- each unit is a digit of the radix
abbrev pub are_digits : ℕ → List ℕ → Bool
are_digits radix us = list_all (λ u. nat_lt (digit_value u) radix) us

-- the number that one or more digits write, where it is safe
abbrev pub natural_of : ℕ → List ℕ → Option ℕ
natural_of radix us =
    if nat_lt 0 (length us) && are_digits radix us && nat_le (digits_value radix us) MAX_SAFE
    then Some (digits_value radix us) else None

-- the radix that the unit behind a leading `0` tells: `x` or `X`, `o` or `O`, `b` or `B`
abbrev pub radix_named : ℕ → Option ℕ
radix_named u =
    if u == 120 || u == 88 then Some 16
    else if u == 111 || u == 79 then Some 8
    else if u == 98 || u == 66 then Some 2
    else None

-- digits behind a radix, or decimal ones
abbrev pub unsigned_of : List ℕ → Option ℕ
unsigned_of [] = None
unsigned_of (u ∷ []) = natural_of 10 (u ∷ [])
unsigned_of (u ∷ v ∷ us) =
    if u == 48 then prefixed (radix_named v) else natural_of 10 (u ∷ v ∷ us)
  where
    prefixed : Option ℕ → Option ℕ
    prefixed (Some radix) = natural_of radix us
    prefixed None = natural_of 10 (u ∷ v ∷ us)

-- an empty text is 0; `+` or `-` stands before decimal digits alone
abbrev pub number_of : List ℕ → Option ℤ
number_of [] = Some (pos 0)
number_of (u ∷ us) =
    if u == 43 then option_map pos (natural_of 10 us)
    else if u == 45 then option_map (λ n. neg_ℤ (pos n)) (natural_of 10 us)
    else option_map pos (unsigned_of (u ∷ us))

-- the number that a text means
abbrev pub text_value : List ℕ → Option ℤ
text_value us = number_of (trimmed us)
