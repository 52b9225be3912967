-- What some first texts say, and the code of one, computed.
use Rattle.std.proofs.Common.{◌≡◌, ℕ, List, [], ◌∷◌, refl}
use Rattle.std.specs.Prelude.{codes}
use Rattle.std.specs.Fmt.{digits}
use Rattle.hz_value.specs.declared.leaving.Left.TheVariants.{NotSafe}
use Rattle.hz_ops.specs.Runs.{Done, LeftFor}
use Rattle.hermes.specs.declared.first.language.Sign.TheVariants.{Plus, Minus}
use Rattle.hermes.specs.declared.first.language.Term.{Term}
use Rattle.hermes.specs.declared.first.language.Addend.{Addend}
use Rattle.hermes.specs.declared.first.language.Argument.{Argument}
use Rattle.hermes.specs.declared.first.language.Argument.TheVariants as argument
use Rattle.hermes.specs.first.Generated.{bytes_of, script_code, script_texts}
use Rattle.hermes.specs.first.Saying.{lines_of, end_of}

abbrev product : ℕ → List ℕ → Term
product n ns = record { first = n; others = ns }

abbrev sum : Term → List Addend → Argument
sum t as' = argument.Sum (record { first = t; others = as' })

-- print(1 + 2 * 3)
abbrev seven : List Argument
seven = sum (product 1 []) (record { sign = Plus; term = product 2 (3 ∷ []) } ∷ []) ∷ []

seven_lines : lines_of seven ≡ codes "7" ∷ []
unfolding digits
seven_lines = refl

seven_ends : end_of seven ≡ Done
seven_ends = refl

-- print("a b"); print(2*3-10)
abbrev text_and_sum : List Argument
text_and_sum = argument.Text (codes "a b")
    ∷ sum (product 2 (3 ∷ [])) (record { sign = Minus; term = product 10 [] } ∷ []) ∷ []

text_and_sum_lines : lines_of text_and_sum ≡ codes "a b" ∷ codes "-4" ∷ []
unfolding digits
text_and_sum_lines = refl

text_and_sum_ends : end_of text_and_sum ≡ Done
text_and_sum_ends = refl

-- print(9007199254740991 + 1 - 1)
abbrev too_large : List Argument
too_large = sum (product 9007199254740991 [])
    (record { sign = Plus; term = product 1 [] } ∷ record { sign = Minus; term = product 1 [] } ∷ []) ∷ []

no_line : lines_of too_large ≡ []
no_line = refl

left : end_of too_large ≡ LeftFor NotSafe
left = refl

-- print(7); print(4503599627370496 * 2 * 0); print("never")
abbrev left_second : List Argument
left_second =
    sum (product 7 []) [] ∷ sum (product 4503599627370496 (2 ∷ 0 ∷ [])) [] ∷ argument.Text (codes "never") ∷ []

first_line_stays : lines_of left_second ≡ codes "7" ∷ []
unfolding digits
first_line_stays = refl

left_at_second : end_of left_second ≡ LeftFor NotSafe
left_at_second = refl

-- no call
nothing_said : lines_of [] ≡ []
nothing_said = refl

nothing_done : end_of [] ≡ Done
nothing_done = refl

-- print(1 - 2 * 200); print("a b")
abbrev sum_and_text : List Argument
sum_and_text =
    sum (product 1 []) (record { sign = Minus; term = product 2 (200 ∷ []) } ∷ []) ∷ argument.Text (codes "a b") ∷ []

sum_and_text_code : script_code sum_and_text
    ≡ 23 ∷ 0 ∷ 0 ∷ 0 ∷ 1 ∷ 1 ∷ 6 ∷ 2 ∷ 1 ∷ 6 ∷ 3 ∷ 2 ∷ 134 ∷ 4 ∷ 0 ∷ 0 ∷ 0 ∷ 0 ∷ 0 ∷ 0 ∷ 0 ∷ 200 ∷ 0 ∷ 0 ∷ 0 ∷ 0
    ∷ 0 ∷ 0 ∷ 0 ∷ 29 ∷ 3 ∷ 3 ∷ 4 ∷ 28 ∷ 2 ∷ 2 ∷ 3 ∷ 83 ∷ 0 ∷ 0 ∷ 1 ∷ 2 ∷ 1 ∷ 23 ∷ 0 ∷ 0 ∷ 0 ∷ 1 ∷ 1 ∷ 7 ∷ 2 ∷ 1
    ∷ 0 ∷ 83 ∷ 0 ∷ 0 ∷ 1 ∷ 2 ∷ 1 ∷ 1 ∷ 0 ∷ 64 ∷ 0 ∷ []
unfolding bytes_of
sum_and_text_code = refl

sum_and_text_texts : script_texts sum_and_text ≡ codes "print" ∷ codes "a b" ∷ []
sum_and_text_texts = refl
