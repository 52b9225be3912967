-- What a first text says: the lines that its calls print, and how it ends. The numbers of a sum are
-- multiplied, added and subtracted from left to right, `*` first (ECMA-262, 13.7, 13.8 and 13.15.3). A sum
-- has no value as soon as an operator's result is no safe integer. The script is left at the first call
-- whose sum has no value.
use Rattle.std.specs.Prelude.{ℕ, ℤ, pos, List, [], ◌∷◌, Option, Some, option_map, option_and_then}
use Rattle.std.specs.Option.{option_map_or}
use Rattle.std.specs.Fmt.{signed_decimal}
use Rattle.hz_value.specs.declared.leaving.Left.TheVariants.{NotSafe}
use Rattle.hz_value.specs.Numbers.{sum_of, difference_of, product_of}
use Rattle.hz_ops.specs.Runs.{End, Done, LeftFor}
use Rattle.hermes.specs.declared.first.language.Sign.{Sign}
use Rattle.hermes.specs.declared.first.language.Sign.TheVariants.{Plus, Minus}
use Rattle.hermes.specs.declared.first.language.Term.{Term}
use Rattle.hermes.specs.declared.first.language.Addend.{Addend}
use Rattle.hermes.specs.declared.first.language.Sum.{Sum}
use Rattle.hermes.specs.declared.first.language.Argument.{Argument}
use Rattle.hermes.specs.declared.first.language.Argument.TheVariants as argument

-- z times each of the factors, one after the other
abbrev pub times : ℤ → List ℕ → Option ℤ
times z [] = Some z
times z (n ∷ factors) = option_and_then (λ w. times w factors) (product_of z (pos n))

abbrev pub term_value : Term → Option ℤ
term_value t = times (pos t.first) t.others

-- a number behind a sign, added to z
abbrev pub signed_sum : Sign → ℤ → ℤ → Option ℤ
signed_sum Plus z w = sum_of z w
signed_sum Minus z w = difference_of z w

-- z and the addends, one after the other
abbrev pub plus : ℤ → List Addend → Option ℤ
plus z [] = Some z
plus z (a ∷ addends) =
    option_and_then (λ w. option_and_then (λ x. plus x addends) (signed_sum a.sign z w)) (term_value a.term)

abbrev pub sum_value : Sum → Option ℤ
sum_value s = option_and_then (λ z. plus z s.others) (term_value s.first)

-- the line that a call of `print` prints, in UTF-16 units
abbrev pub line_of_call : Argument → Option (List ℕ)
line_of_call (argument.Text text) = Some text
line_of_call (argument.Sum s) = option_map signed_decimal (sum_value s)

-- one line for each call, up to the first that has none
abbrev pub lines_of : List Argument → List (List ℕ)
lines_of [] = []
lines_of (a ∷ calls) = option_map_or (λ line. line ∷ lines_of calls) (line_of_call a) []

-- done, or left where a call has no line
abbrev pub end_of : List Argument → End
end_of [] = Done
end_of (a ∷ calls) = option_map_or (λ line. end_of calls) (line_of_call a) (LeftFor NotSafe)
