-- The definitions at small texts.
use Rattle.std.proofs.Common.{◌≡◌, ℕ, [], ◌∷◌, codes, refl}
use Rattle.std.specs.Fmt.{digits}
use Rattle.hz_value.specs.declared.leaving.Left.TheVariants.{NotSafe}
use Rattle.hermes.specs.first.Texts.{directive, first_tokens}
use Rattle.hz_ops.specs.Runs.{Done, LeftFor}
use Rattle.hermes.specs.first.Saying.{lines_of, end_of}
use Rattle.hermes.specs.declared.first.language.Sign.TheVariants.{Plus, Minus}
use Rattle.hermes.specs.declared.first.language.Term.{Term}
use Rattle.hermes.specs.declared.first.language.Argument.{Argument}
use Rattle.hermes.specs.declared.first.language.Argument.TheVariants as argument

abbrev one : ℕ → Term
one n = record { first = n; others = [] }

-- 1 + 2 * 3
abbrev seven : Argument
seven = argument.Sum (record {
  first = one 1;
  others =
      record { sign = Plus; term = record { first = 2; others = 3 ∷ [] } } ∷ [];
})

-- 2 * 3 - 10
abbrev minus_four : Argument
minus_four = argument.Sum (record {
  first = record { first = 2; others = 3 ∷ [] };
  others =
      record { sign = Minus; term = one 10 } ∷ [];
})

-- 9007199254740991 + 1 - 1
abbrev too_large : Argument
too_large = argument.Sum (record {
  first = one 9007199254740991;
  others =
      record { sign = Plus; term = one 1 } ∷ record { sign = Minus; term = one 1 } ∷ [];
})

seven_is_spelled : first_tokens (seven ∷ [])
    ≡ directive ∷ codes "print" ∷ codes "(" ∷ codes "1" ∷ codes "+" ∷ codes "2" ∷ codes "*" ∷ codes "3" ∷ codes ")"
    ∷ codes ";" ∷ []
unfolding digits
seven_is_spelled = refl

seven_is_printed : lines_of (seven ∷ []) ≡ codes "7" ∷ []
unfolding digits
seven_is_printed = refl

two_lines : lines_of (argument.Text (codes "a b") ∷ minus_four ∷ []) ≡ codes "a b" ∷ codes "-4" ∷ []
unfolding digits
two_lines = refl

two_lines_are_done : end_of (argument.Text (codes "a b") ∷ minus_four ∷ []) ≡ Done
two_lines_are_done = refl

-- What was printed stays printed, and nothing comes behind the call that is left.
left_behind_a_line : lines_of (seven ∷ too_large ∷ seven ∷ []) ≡ codes "7" ∷ []
unfolding digits
left_behind_a_line = refl

too_large_is_left : end_of (seven ∷ too_large ∷ seven ∷ []) ≡ LeftFor NotSafe
too_large_is_left = refl

nothing_is_said : lines_of [] ≡ []
nothing_is_said = refl
