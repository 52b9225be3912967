use Rattle.std.proofs.Common.{◌≡◌, ℕ, List, [], ◌∷◌, String, Vec, string_bytes, refl, arith, option_map}
use Rattle.std.specs.Cmp.Lexicographic.{slice_cmp}
use Rattle.std.specs.Map.{lookup}
use Rattle.std.specs.Ordering.{is_eq, nat_cmp}
use Rattle.std.proofs.lemmas.Map.Text.{is_eq-slice_cmp}
use Rattle.hz_io.specs.InMemory.{file_in, files_of}

-- a file's bytes are found in the entries as in the map
pub file_in_entries : {A B : Type 0} (entries : List (String A × Vec ℕ B)) (name : List ℕ)
    → file_in (files_of entries) name
    ≡ option_map (λ v. v.items) (lookup (λ k. is_eq (slice_cmp nat_cmp name (string_bytes k))) entries)
file_in_entries [] name = refl
file_in_entries (e ∷ es) name = grind (arith, is_eq-slice_cmp name (string_bytes e.0), file_in_entries es name)
