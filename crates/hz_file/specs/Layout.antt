-- Where the parts of a file stand. All numbers are little-endian; places and lengths are bytes.
use Rattle.std.specs.Prelude.{◌≡◌, ◌≤◌, length, ℕ, zero, suc, ◌+◌, ◌*◌, ◌/◌, ◌%◌, Bool, List, [], ◌∷◌, take, drop}
use Rattle.std.specs.Prelude.{slice_index, nat_eq, if◌then◌else◌}
use Rattle.byteorder.specs.Endian.{little_number}

-- the number in the n bytes at a place
unfoldable pub field : ℕ → List ℕ → ℕ → ℕ
field n bytes at = little_number n (drop at bytes)

-- the n bytes at a place
abbrev pub part : List ℕ → ℕ → ℕ → List ℕ
part bytes at n = take n (drop at bytes)

-- the eight bytes in front of every file
abbrev pub magic : List ℕ
magic = 0xFF ∷ 0x48 ∷ 0x42 ∷ 0x43 ∷ 0x57 ∷ 0x00 ∷ 0x0D ∷ 0x0A ∷ []

abbrev pub HasMagic : List ℕ → Type 0
HasMagic bytes = take 8 bytes ≡ magic

-- The header: 128 bytes. The flags have one bit, that the source was read as strict code.
abbrev pub edition : List ℕ → ℕ
edition bytes = field 4 bytes 8

abbrev pub strict_flag : List ℕ → Bool
strict_flag bytes = nat_eq (slice_index bytes 12 % 2) 1

abbrev pub file_length : List ℕ → ℕ
file_length bytes = field 8 bytes 16

abbrev pub function_count : List ℕ → ℕ
function_count bytes = field 8 bytes 48

abbrev pub string_count : List ℕ → ℕ
string_count bytes = field 8 bytes 56

abbrev pub overflow_count : List ℕ → ℕ
overflow_count bytes = field 8 bytes 64

abbrev pub handler_count : List ℕ → ℕ
handler_count bytes = field 8 bytes 72

abbrev pub large_count : List ℕ → ℕ
large_count bytes = field 8 bytes 80

abbrev pub code_length : List ℕ → ℕ
code_length bytes = field 8 bytes 88

abbrev pub storage_length : List ℕ → ℕ
storage_length bytes = field 8 bytes 96

abbrev pub source_length : List ℕ → ℕ
source_length bytes = field 8 bytes 104

-- The sections stand behind the header without gaps: function headers of 16 bytes, large headers of
-- 56, string entries of 4, overflow entries of 24, handlers of 24, the string storage, the code, the
-- source, and the footer of 20.
abbrev pub large_at : List ℕ → ℕ
large_at bytes = 128 + 16 * function_count bytes

abbrev pub strings_at : List ℕ → ℕ
strings_at bytes = large_at bytes + 56 * large_count bytes

abbrev pub overflow_at : List ℕ → ℕ
overflow_at bytes = strings_at bytes + 4 * string_count bytes

abbrev pub handlers_at : List ℕ → ℕ
handlers_at bytes = overflow_at bytes + 24 * overflow_count bytes

abbrev pub storage_at : List ℕ → ℕ
storage_at bytes = handlers_at bytes + 24 * handler_count bytes

abbrev pub code_at : List ℕ → ℕ
code_at bytes = storage_at bytes + storage_length bytes

abbrev pub source_at : List ℕ → ℕ
source_at bytes = code_at bytes + code_length bytes

abbrev pub footer_at : List ℕ → ℕ
footer_at bytes = source_at bytes + source_length bytes

-- the sections and the footer fill the file
abbrev pub Fills : List ℕ → Type 0
Fills bytes = (148 ≤ length bytes) × (footer_at bytes + 20 ≡ length bytes)

-- A function header at a place: byte 0 has the bits code is there, large, and three of the kind;
-- byte 1 is the length. Behind them: registers, place of the code in the code section, length of the
-- code, a zero, first handler, number of handlers.
abbrev pub header_at : ℕ → ℕ
header_at k = 128 + 16 * k

abbrev pub has_code : List ℕ → ℕ → Bool
has_code bytes at = nat_eq (slice_index bytes at % 2) 1

abbrev pub is_large : List ℕ → ℕ → Bool
is_large bytes at = nat_eq (slice_index bytes at / 2 % 2) 1

-- the kind, and the bits above it, which are 0
abbrev pub kind_number : List ℕ → ℕ → ℕ
kind_number bytes at = slice_index bytes at / 4

abbrev pub register_count : List ℕ → ℕ → ℕ
register_count bytes at = field 2 bytes (at + 2)

abbrev pub code_place : List ℕ → ℕ → ℕ
code_place bytes at = field 4 bytes (at + 4)

abbrev pub code_size : List ℕ → ℕ → ℕ
code_size bytes at = field 2 bytes (at + 8)

-- A string entry is one number of 32 bits: bit 0 says that the text is wide, bits 1 to 23 are its
-- place in the storage, bits 24 to 31 its length in units. A wide text has two bytes a unit, another
-- one.
abbrev pub entry_is_wide : ℕ → Bool
entry_is_wide entry = nat_eq (entry % 2) 1

abbrev pub entry_place : ℕ → ℕ
entry_place entry = entry / 2 % 8388608

abbrev pub entry_units : ℕ → ℕ
entry_units entry = entry / 16777216

abbrev pub entry_size : ℕ → ℕ
entry_size entry = if entry_is_wide entry then 2 * entry_units entry else entry_units entry

-- the n string entries from a place on
abbrev pub entries_from : ℕ → ℕ → List ℕ → List ℕ
entries_from zero at bytes = []
entries_from (suc n) at bytes = field 4 bytes at ∷ entries_from n (at + 4) bytes

abbrev pub entries : List ℕ → List ℕ
entries bytes = entries_from (string_count bytes) (strings_at bytes) bytes

abbrev pub entry_at : List ℕ → ℕ → ℕ
entry_at bytes id = field 4 bytes (strings_at bytes + 4 * id)

-- the bytes of an entry's text
abbrev pub text_bytes : List ℕ → ℕ → List ℕ
text_bytes bytes entry = part bytes (storage_at bytes + entry_place entry) (entry_size entry)

-- the units of a wide text
abbrev pub wide_units : List ℕ → List ℕ
wide_units [] = []
wide_units (low ∷ []) = []
wide_units (low ∷ high ∷ rest) = (low + 256 * high) ∷ wide_units rest

abbrev pub units_of : Bool → List ℕ → List ℕ
units_of wide bytes = if wide then wide_units bytes else bytes
