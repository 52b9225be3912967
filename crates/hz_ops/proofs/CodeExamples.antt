-- The meaning of code, computed on code that is written out by hand.
use Rattle.std.proofs.Common.{ℕ, List, [], ◌∷◌, ◌++◌, refl}
use Rattle.std.specs.Prelude.{codes}
use Rattle.std.specs.Fmt.{digits}
use Rattle.hz_value.specs.declared.leaving.Left.TheVariants as left
use Rattle.hz_ops.specs.Table.{op_at}
use Rattle.hz_ops.specs.Activations.{Module}
use Rattle.hz_ops.specs.Runs.{Ends, start_of, Done, LeftFor, BadCode}

-- a module whose only function has this code and six registers
abbrev script : List ℕ → List (List ℕ) → Module
script code texts = record { functions = record { code = code; registers = 6 } ∷ []; texts = texts }

-- LoadGlobal 0, text 0; LoadUndefined 1
abbrev opening : List ℕ
opening = 23 ∷ 0 ∷ 0 ∷ 0 ∷ 1 ∷ 1 ∷ []

-- `print(1 + 2 * 3)` prints `7`
abbrev sum_and_product : Module
sum_and_product = script
    (opening
    ++ 6 ∷ 2 ∷ 1 ∷ 6 ∷ 3 ∷ 2 ∷ 6 ∷ 4 ∷ 3 ∷ []
    ++ 29 ∷ 3 ∷ 3 ∷ 4 ∷ 27 ∷ 2 ∷ 2 ∷ 3 ∷ []
    ++ 83 ∷ 5 ∷ 0 ∷ 1 ∷ 2 ∷ 1 ∷ 64 ∷ 5 ∷ [])
    (codes "print" ∷ [])

prints_seven : Ends sum_and_product (start_of sum_and_product) (codes "7" ∷ []) Done
unfolding op_at digits
prints_seven = record { steps = 9; ended = refl }

-- `print("a b", -4)` prints `a b -4`, and the `print()` behind it an empty line
abbrev text_and_number : Module
text_and_number = script
    (opening
    ++ 7 ∷ 2 ∷ 1 ∷ 0 ∷ 6 ∷ 3 ∷ 252 ∷ []
    ++ 83 ∷ 5 ∷ 0 ∷ 1 ∷ 2 ∷ 2 ∷ 83 ∷ 5 ∷ 0 ∷ 1 ∷ 0 ∷ 0 ∷ 64 ∷ 5 ∷ [])
    (codes "print" ∷ codes "a b" ∷ [])

prints_both : Ends text_and_number (start_of text_and_number) (codes "a b -4" ∷ [] ∷ []) Done
unfolding op_at digits
prints_both = record { steps = 7; ended = refl }

-- `print(1)`, and then `9007199254740991 + 1`, which leaves the run; the integer is in the long form
abbrev too_large : Module
too_large = script
    (opening
    ++ 6 ∷ 2 ∷ 1 ∷ 83 ∷ 5 ∷ 0 ∷ 1 ∷ 2 ∷ 1 ∷ []
    ++ 134 ∷ 3 ∷ 0 ∷ 0 ∷ 0 ∷ 0 ∷ 0 ∷ 0 ∷ 0 ∷ 255 ∷ 255 ∷ 255 ∷ 255 ∷ 255 ∷ 255 ∷ 31 ∷ 0 ∷ []
    ++ 27 ∷ 3 ∷ 3 ∷ 2 ∷ 64 ∷ 5 ∷ [])
    (codes "print" ∷ [])

leaves_at_the_sum : Ends too_large (start_of too_large) (codes "1" ∷ []) (LeftFor left.NotSafe)
unfolding op_at digits
leaves_at_the_sum = record { steps = 6; ended = refl }

-- an integer of 9007199254740992, which is not safe; register 6; text 1; the end of the code; a cut instruction
abbrev unsafe_integer : Module
unsafe_integer = script (134 ∷ 0 ∷ 0 ∷ 0 ∷ 0 ∷ 0 ∷ 0 ∷ 0 ∷ 0 ∷ 0 ∷ 0 ∷ 0 ∷ 0 ∷ 0 ∷ 0 ∷ 32 ∷ 0 ∷ []) []

bad_integer : Ends unsafe_integer (start_of unsafe_integer) [] BadCode
unfolding op_at
bad_integer = record { steps = 1; ended = refl }

bad_register : Ends (script (1 ∷ 6 ∷ []) []) (start_of (script (1 ∷ 6 ∷ []) [])) [] BadCode
unfolding op_at
bad_register = record { steps = 1; ended = refl }

bad_text : Ends (script (7 ∷ 0 ∷ 1 ∷ 0 ∷ []) ([] ∷ [])) (start_of (script (7 ∷ 0 ∷ 1 ∷ 0 ∷ []) ([] ∷ []))) [] BadCode
unfolding op_at
bad_text = record { steps = 1; ended = refl }

bad_end : Ends (script (1 ∷ 0 ∷ []) []) (start_of (script (1 ∷ 0 ∷ []) [])) [] BadCode
unfolding op_at
bad_end = record { steps = 2; ended = refl }

bad_cut : Ends (script (6 ∷ 3 ∷ []) []) (start_of (script (6 ∷ 3 ∷ []) [])) [] BadCode
unfolding op_at
bad_cut = record { steps = 1; ended = refl }
