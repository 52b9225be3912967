-- Printed lines, computed: a surrogate with no partner, a pair, a low surrogate in front, and two lines. Runs of code
-- that was written by hand: what it prints, and how it ends.
use Rattle.std.proofs.Common.{◌≡◌, ℕ, List, [], ◌∷◌, refl}
use Rattle.std.specs.Prelude.{false, codes}
use Rattle.std.specs.Fmt.{digits}
use Rattle.std.specs.Char.{encode_utf8}
use Rattle.std.specs.Char.Utf16.{utf16_chars}
use Rattle.hz_value.specs.declared.leaving.Left.TheVariants as left
use Rattle.hz_file.specs.Layout.{field}
use Rattle.hz_file.specs.Module.{module_of}
use Rattle.hz_file.specs.Image.{program, script_module}
use Rattle.hz_ops.specs.Table.{op_at}
use Rattle.hz_ops.specs.Activations.{Module}
use Rattle.hz_ops.specs.Runs.{Ends, start_of, Done, LeftFor, BadCode}
use Rattle.hermes.specs.FileCode.{code_module}
use Rattle.hermes.specs.Printing.{printed}

lone : printed ((0xD800 ∷ []) ∷ []) ≡ 0xEF ∷ 0xBF ∷ 0xBD ∷ 10 ∷ []
unfolding encode_utf8 utf16_chars
lone = refl

pair : printed ((0xD83D ∷ 0xDE00 ∷ []) ∷ []) ≡ 0xF0 ∷ 0x9F ∷ 0x98 ∷ 0x80 ∷ 10 ∷ []
unfolding encode_utf8 utf16_chars
pair = refl

low_first : printed ((0xDE00 ∷ 0xD83D ∷ 65 ∷ []) ∷ []) ≡ 0xEF ∷ 0xBF ∷ 0xBD ∷ 0xEF ∷ 0xBF ∷ 0xBD ∷ 65 ∷ 10 ∷ []
unfolding encode_utf8 utf16_chars
low_first = refl

two_lines : printed ((0xE9 ∷ []) ∷ [] ∷ (0x20AC ∷ []) ∷ []) ≡ 0xC3 ∷ 0xA9 ∷ 10 ∷ 10 ∷ 0xE2 ∷ 0x82 ∷ 0xAC ∷ 10 ∷ []
unfolding encode_utf8 utf16_chars
two_lines = refl

-- ---- runs

-- the module of a script with six registers and two texts
abbrev script : List ℕ → Module
script code = code_module (script_module (program false [] (codes "print" ∷ codes "a b" ∷ []) 6 code))

-- print(1 + 2 * 3)
sum_prints : let m = script (23 ∷ 0 ∷ 0 ∷ 0 ∷ 1 ∷ 1 ∷ 6 ∷ 2 ∷ 1 ∷ 6 ∷ 3 ∷ 2 ∷ 6 ∷ 4 ∷ 3 ∷ 29 ∷ 3 ∷ 3 ∷ 4 ∷ 27 ∷ 2 ∷ 2
    ∷ 3 ∷ 83 ∷ 5 ∷ 0 ∷ 1 ∷ 2 ∷ 1 ∷ 64 ∷ 5 ∷ []) in
    Ends m (start_of m) (codes "7" ∷ []) Done
unfolding op_at digits
sum_prints = record { steps = 9; ended = refl }

-- print(1), and then 9007199254740991 + 1
unsafe_leaves : let m = script
    (23 ∷ 0 ∷ 0 ∷ 0 ∷ 1 ∷ 1 ∷ 6 ∷ 2 ∷ 1 ∷ 83 ∷ 5 ∷ 0 ∷ 1 ∷ 2 ∷ 1 ∷ 134 ∷ 3 ∷ 0 ∷ 0 ∷ 0 ∷ 0 ∷ 0 ∷ 0 ∷ 0 ∷ 255 ∷ 255 ∷ 255
    ∷ 255 ∷ 255 ∷ 255 ∷ 31 ∷ 0 ∷ 27 ∷ 3 ∷ 3 ∷ 2 ∷ 64 ∷ 5 ∷ []) in
    Ends m (start_of m) (codes "1" ∷ []) (LeftFor left.NotSafe)
unfolding op_at digits
unsafe_leaves = record { steps = 6; ended = refl }

-- register 6, of which there is none
missing_register : let m = script (1 ∷ 6 ∷ 64 ∷ 0 ∷ []) in
    Ends m (start_of m) [] BadCode
unfolding op_at digits
missing_register = record { steps = 1; ended = refl }

-- an end without a Return
missing_end : let m = script (1 ∷ 0 ∷ []) in
    Ends m (start_of m) [] BadCode
unfolding op_at digits
missing_end = record { steps = 2; ended = refl }

-- print("a b", -4) and print()
two_lines_printed : let m = script
    (23 ∷ 0 ∷ 0 ∷ 0 ∷ 1 ∷ 1 ∷ 7 ∷ 2 ∷ 1 ∷ 0 ∷ 6 ∷ 3 ∷ 252 ∷ 83 ∷ 5 ∷ 0 ∷ 1 ∷ 2 ∷ 2 ∷ 83 ∷ 5 ∷ 0 ∷ 1 ∷ 0 ∷ 0 ∷ 64 ∷ 5
    ∷ []) in
    Ends m (start_of m) (codes "a b -4" ∷ [] ∷ []) Done
unfolding op_at digits
two_lines_printed = record { steps = 7; ended = refl }

-- a file that prints a wide text: a pair of surrogates, and a high one behind it
abbrev wide_file : List ℕ
wide_file =
    255 ∷ 72 ∷ 66 ∷ 67 ∷ 87 ∷ 0 ∷ 13 ∷ 10 ∷ 1 ∷ 0 ∷ 0 ∷ 0 ∷ 0 ∷ 0 ∷ 0 ∷ 0 ∷ 201 ∷ 0 ∷ 0 ∷ 0 ∷ 0 ∷ 0 ∷ 0
    ∷ 0 ∷ 218 ∷ 57 ∷ 163 ∷ 238 ∷ 94 ∷ 107 ∷ 75 ∷ 13 ∷ 50 ∷ 85 ∷ 191 ∷ 239 ∷ 149 ∷ 96 ∷ 24 ∷ 144 ∷ 175
    ∷ 216 ∷ 7 ∷ 9 ∷ 0 ∷ 0 ∷ 0 ∷ 0 ∷ 1 ∷ 0 ∷ 0 ∷ 0 ∷ 0 ∷ 0 ∷ 0 ∷ 0 ∷ 2 ∷ 0 ∷ 0 ∷ 0 ∷ 0 ∷ 0 ∷ 0 ∷ 0 ∷ 0
    ∷ 0 ∷ 0 ∷ 0 ∷ 0 ∷ 0 ∷ 0 ∷ 0 ∷ 0 ∷ 0 ∷ 0 ∷ 0 ∷ 0 ∷ 0 ∷ 0 ∷ 0 ∷ 0 ∷ 0 ∷ 0 ∷ 0 ∷ 0 ∷ 0 ∷ 0 ∷ 0 ∷ 18 ∷ 0
    ∷ 0 ∷ 0 ∷ 0 ∷ 0 ∷ 0 ∷ 0 ∷ 11 ∷ 0 ∷ 0 ∷ 0 ∷ 0 ∷ 0 ∷ 0 ∷ 0 ∷ 0 ∷ 0 ∷ 0 ∷ 0 ∷ 0 ∷ 0 ∷ 0 ∷ 0 ∷ 0 ∷ 0 ∷ 0
    ∷ 0 ∷ 0 ∷ 0 ∷ 0 ∷ 0 ∷ 0 ∷ 0 ∷ 0 ∷ 0 ∷ 0 ∷ 0 ∷ 0 ∷ 0 ∷ 1 ∷ 0 ∷ 4 ∷ 0 ∷ 0 ∷ 0 ∷ 0 ∷ 0 ∷ 18 ∷ 0 ∷ 0 ∷ 0
    ∷ 0 ∷ 0 ∷ 0 ∷ 0 ∷ 0 ∷ 0 ∷ 0 ∷ 5 ∷ 11 ∷ 0 ∷ 0 ∷ 3 ∷ 112 ∷ 114 ∷ 105 ∷ 110 ∷ 116 ∷ 61 ∷ 216 ∷ 0 ∷ 222
    ∷ 0 ∷ 216 ∷ 23 ∷ 0 ∷ 0 ∷ 0 ∷ 1 ∷ 1 ∷ 7 ∷ 2 ∷ 1 ∷ 0 ∷ 83 ∷ 3 ∷ 0 ∷ 1 ∷ 2 ∷ 1 ∷ 64 ∷ 3 ∷ 238 ∷ 175
    ∷ 145 ∷ 186 ∷ 133 ∷ 24 ∷ 186 ∷ 85 ∷ 215 ∷ 184 ∷ 35 ∷ 66 ∷ 145 ∷ 156 ∷ 244 ∷ 31 ∷ 106 ∷ 81 ∷ 89 ∷ 139
    ∷ []

wide_prints : let m = code_module (module_of wide_file) in
    Ends m (start_of m) ((0xD83D ∷ 0xDE00 ∷ 0xD800 ∷ []) ∷ []) Done
unfolding op_at module_of field
wide_prints = record { steps = 5; ended = refl }
