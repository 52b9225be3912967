-- The functions and texts of a module by their numbers.
use Rattle.std.proofs.Common.{◌≡◌, ◌≤◌, ◌<◌, ℕ, zero, suc, ◌+◌, ◌*◌, List, length, map, slice_get, Some, None, refl}
use Rattle.std.proofs.Common.{◌∙◌, ap, arith}
use Rattle.std.proofs.lemmas.Option.{slice_get_past}
use Rattle.std.proofs.lemmas.List.{length-map}
use Rattle.hz_file.specs.Layout.{field, function_count, string_count, strings_at, header_at, entries_from}
use Rattle.hz_file.specs.Module.{module_of, function_at, functions_from, text_of}

length_functions : (bytes : List ℕ) (n at : ℕ) → length (functions_from n at bytes) ≡ n
length_functions bytes zero at = refl
length_functions bytes (suc n) at = ap suc (length_functions bytes n (at + 16))

length_entries : (bytes : List ℕ) (n at : ℕ) → length (entries_from n at bytes) ≡ n
length_entries bytes zero at = refl
length_entries bytes (suc n) at = ap suc (length_entries bytes n (at + 4))

function_is : (bytes : List ℕ) (n at k : ℕ) → k < n →
    slice_get (functions_from n at bytes) k ≡ Some (function_at bytes (at + 16 * k))
function_is bytes zero at k within = absurd (omega arith)
function_is bytes (suc n) at zero within = let same : at ≡ at + 0 = omega arith in
    ap (λ (p : ℕ). Some (function_at bytes p)) same
function_is bytes (suc n) at (suc k) within =
    let same : at + 16 * suc k ≡ at + 16 + 16 * k = omega arith in
    rw same (function_is bytes n (at + 16) k (omega arith))

text_is : (bytes : List ℕ) (n at i : ℕ) → i < n →
    slice_get (map (text_of bytes) (entries_from n at bytes)) i ≡ Some (text_of bytes (field 4 bytes (at + 4 * i)))
text_is bytes zero at i within = absurd (omega arith)
text_is bytes (suc n) at zero within = let same : at ≡ at + 0 = omega arith in
    ap (λ (p : ℕ). Some (text_of bytes (field 4 bytes p))) same
text_is bytes (suc n) at (suc i) within =
    let same : at + 4 * suc i ≡ at + 4 + 4 * i = omega arith in
    rw same (text_is bytes n (at + 4) i (omega arith))

pub function_count_is : (bytes : List ℕ) → length (module_of bytes).functions ≡ function_count bytes
unfolding module_of
function_count_is bytes = length_functions bytes (function_count bytes) (header_at 0)

pub function_shown : (bytes : List ℕ) (k : ℕ) → k < function_count bytes →
    slice_get (module_of bytes).functions k ≡ Some (function_at bytes (header_at k))
unfolding module_of
function_shown bytes k within = function_is bytes (function_count bytes) (header_at 0) k within

pub text_shown : (bytes : List ℕ) (i : ℕ) → i < string_count bytes →
    slice_get (module_of bytes).texts i ≡ Some (text_of bytes (field 4 bytes (strings_at bytes + 4 * i)))
unfolding module_of
text_shown bytes i within = text_is bytes (string_count bytes) (strings_at bytes) i within

pub text_past : (bytes : List ℕ) (i : ℕ) → string_count bytes ≤ i → slice_get (module_of bytes).texts i ≡ None
unfolding module_of
text_past bytes i past =
    let n = string_count bytes in
    let count =
    length-map (entries_from n (strings_at bytes) bytes) (text_of bytes)
    ∙ length_entries bytes n (strings_at bytes) in
    slice_get_past _ i (rw count past)
