-- The rules of the file. Each gives the place where it fails, and None where it holds; within a rule
-- the least place counts. A later rule is asked only where the earlier ones hold.
use Rattle.std.specs.Prelude.{ℕ, ◌+◌, ◌-◌, Bool, not, ◌&&◌, List, [], ◌∷◌, take, drop, length, slice_index, nat_eq}
use Rattle.std.specs.Prelude.{nat_le, nat_lt, if◌then◌else◌, Option, Some, None}
use Rattle.std.specs.List.{list_all, list_any}
use Rattle.std.specs.Option.{option_or}
use Rattle.sha1.specs.Sha1.{sha1}
use Rattle.hz_file.specs.Layout.{part, edition, file_length, function_count, overflow_count, handler_count}
use Rattle.hz_file.specs.Layout.{large_count, code_length, storage_length, strings_at, storage_at, footer_at}
use Rattle.hz_file.specs.Layout.{header_at, field, has_code, is_large, kind_number, code_place, code_size}
use Rattle.hz_file.specs.Layout.{entry_is_wide, entry_place, entry_units, entry_size, entries, text_bytes, wide_units}

-- the place, unless the test holds
abbrev pub unless : Bool → ℕ → Option ℕ
unless test at = if test then None else Some at

-- from 148 bytes to 2 ^ 40; the place is their number
abbrev pub size_rule : List ℕ → Option ℕ
size_rule bytes = unless (nat_le 148 (length bytes) && nat_le (length bytes) 1099511627776) (length bytes)

-- the edition is 1
abbrev pub edition_rule : List ℕ → Option ℕ
edition_rule bytes = unless (nat_eq (edition bytes) 1) 8

-- the place of the first byte that is not 0, of bytes that stand at a place
unfoldable pub first_nonzero : ℕ → List ℕ → Option ℕ
first_nonzero at [] = None
first_nonzero at (x ∷ xs) = if nat_eq x 0 then first_nonzero (at + 1) xs else Some at

-- the bits and bytes of the header that must be 0: the flags' bits but the lowest, the four bytes
-- behind the hash, and the last sixteen
abbrev pub zero_rule : List ℕ → Option ℕ
zero_rule bytes =
    option_or (unless (nat_le (slice_index bytes 12) 1) 12)
    (option_or (first_nonzero 13 (part bytes 13 3))
    (option_or (first_nonzero 44 (part bytes 44 4)) (first_nonzero 112 (part bytes 112 16))))

-- the file's length stands in the header
abbrev pub length_rule : List ℕ → Option ℕ
length_rule bytes = unless (nat_eq (file_length bytes) (length bytes)) 16

-- the sections and the footer fill the file; until more is built there are no overflow entries,
-- handlers or large headers
abbrev pub sections_rule : List ℕ → Option ℕ
sections_rule bytes =
    unless (nat_eq (footer_at bytes + 20) (length bytes) && nat_eq (overflow_count bytes) 0
    && nat_eq (handler_count bytes) 0 && nat_eq (large_count bytes) 0) 48

-- a header at a place: its code is there, it is not large, the field that must be 0 is, and it has no
-- handler; until more is built a stub, a large header and a handler are faults
abbrev pub is_header : List ℕ → ℕ → Bool
is_header bytes at =
    has_code bytes at && not (is_large bytes at) && nat_eq (field 2 bytes (at + 10)) 0
    && nat_eq (field 2 bytes (at + 14)) 0

-- there is one function, the script, with a header that keeps its rules
abbrev pub functions_rule : List ℕ → Option ℕ
functions_rule bytes =
    option_or (unless (nat_eq (function_count bytes) 1) 48)
    (unless (is_header bytes (header_at 0) && nat_eq (kind_number bytes (header_at 0)) 0) (header_at 0))

-- the code is not empty and stands in the code section
abbrev pub code_rule : List ℕ → Option ℕ
code_rule bytes =
    unless (nat_lt 0 (code_size bytes (header_at 0))
    && nat_le (code_place bytes (header_at 0) + code_size bytes (header_at 0)) (code_length bytes)) (header_at 0)

-- the place of the first entry of 255 units or more, which would need an overflow entry
unfoldable pub first_long_text : ℕ → List ℕ → Option ℕ
first_long_text at [] = None
first_long_text at (e ∷ es) = if nat_lt (entry_units e) 255 then first_long_text (at + 4) es else Some at

-- each string entry keeps its rules
abbrev pub entries_rule : List ℕ → Option ℕ
entries_rule bytes = first_long_text (strings_at bytes) (entries bytes)

-- a unit below 128, and one that is not
abbrev pub is_ascii_unit : ℕ → Bool
is_ascii_unit unit = nat_lt unit 128

abbrev pub is_past_ascii : ℕ → Bool
is_past_ascii unit = nat_le 128 unit

-- a text is wide exactly where it has a unit of 128 or more
abbrev pub has_its_width : Bool → List ℕ → Bool
has_its_width wide bytes = if wide then list_any is_past_ascii (wide_units bytes) else list_all is_ascii_unit bytes

-- the text of an entry begins where the one before it ends, and lies in the storage
abbrev pub is_placed : List ℕ → ℕ → ℕ → Bool
is_placed bytes next e = nat_eq (entry_place e) next && nat_le (next + entry_size e) (storage_length bytes)

abbrev pub is_text_entry : List ℕ → ℕ → ℕ → Bool
is_text_entry bytes next e = is_placed bytes next e && has_its_width (entry_is_wide e) (text_bytes bytes e)

-- the place of the first entry that breaks the order or whose text is of the other width; at the end
-- the storage's start, unless the texts fill it
unfoldable pub first_faulty_text : List ℕ → ℕ → ℕ → List ℕ → Option ℕ
first_faulty_text bytes at next [] = unless (nat_eq next (storage_length bytes)) (storage_at bytes)
first_faulty_text bytes at next (e ∷ es) =
    if is_text_entry bytes next e
    then first_faulty_text bytes (at + 4) (next + entry_size e) es else Some at

-- the texts fill the storage in the order of their ids without gaps
abbrev pub texts_rule : List ℕ → Option ℕ
texts_rule bytes = first_faulty_text bytes (strings_at bytes) 0 (entries bytes)

-- the place of the first byte that differs, of bytes that stand at a place
unfoldable pub first_difference : ℕ → List ℕ → List ℕ → Option ℕ
first_difference at [] ys = None
first_difference at (x ∷ xs) [] = None
first_difference at (x ∷ xs) (y ∷ ys) = if nat_eq x y then first_difference (at + 1) xs ys else Some at

-- the footer is the SHA-1 of all bytes before it
abbrev pub footer_rule : List ℕ → Option ℕ
footer_rule bytes = let end = length bytes - 20 in first_difference end (sha1 (take end bytes)) (drop end bytes)
