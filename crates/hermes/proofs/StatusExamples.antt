-- Lines on standard error, worked out.
use Rattle.std.proofs.Common.{◌≡◌, [], ◌∷◌, ◌++◌, codes, refl}
use Rattle.std.specs.Char.{encode_utf8}
use Rattle.std.specs.Char.Utf16.{utf16_chars}
use Rattle.hermes.specs.declared.status.Status.TheVariants.{Uncaught}
use Rattle.hermes.specs.Statuses.{line_of, code_of}

-- a value without a text to show
empty_description : line_of (Uncaught []) ≡ codes "Uncaught " ++ 10 ∷ []
unfolding encode_utf8 utf16_chars
empty_description = refl

-- a pair of surrogates is one character, and one alone becomes U+FFFD
surrogates : line_of (Uncaught (0xD83D ∷ 0xDE00 ∷ 0xD800 ∷ []))
    ≡ codes "Uncaught " ++ 0xF0 ∷ 0x9F ∷ 0x98 ∷ 0x80 ∷ 0xEF ∷ 0xBF ∷ 0xBD ∷ 10 ∷ []
unfolding encode_utf8 utf16_chars
surrogates = refl

its_code : code_of (Uncaught []) ≡ 1
its_code = refl
