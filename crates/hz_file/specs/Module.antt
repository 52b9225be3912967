-- What a file holds.
use Rattle.std.specs.Prelude.{ℕ, zero, suc, ◌+◌, Bool, List, [], ◌∷◌, map, slice_index, nat_eq, if◌then◌else◌, Option}
use Rattle.std.specs.Prelude.{Some, None}
use Rattle.hz_tree.specs.declared.tree.FunctionKind.{FunctionKind}
use Rattle.hz_tree.specs.declared.tree.FunctionKind.TheVariants.{Script, Function, Arrow, Method, Generator}
use Rattle.hz_file.specs.Layout.{part, strict_flag, source_at, source_length, function_count, header_at, has_code}
use Rattle.hz_file.specs.Layout.{kind_number, register_count, code_at, code_place, code_size, entries, entry_is_wide}
use Rattle.hz_file.specs.Layout.{text_bytes, units_of}

-- a function: its code is bytes, or not there in a stub
pub record ModuleFunction : Type 0 where
  pub kind : FunctionKind
  pub length : ℕ
  pub registers : ℕ
  pub code : Option (List ℕ)

-- the texts are lists of UTF-16 units, by their ids
pub record Module : Type 0 where
  pub strict : Bool
  pub source : List ℕ
  pub functions : List ModuleFunction
  pub texts : List (List ℕ)

-- the kind of a number in a header
abbrev pub kind_of : ℕ → FunctionKind
kind_of n =
    if nat_eq n 0 then Script else if nat_eq n 1 then Function else if nat_eq n 2 then Arrow
    else if nat_eq n 3 then Method else Generator

-- the code of the function with a header at a place
abbrev pub code_bytes : List ℕ → ℕ → List ℕ
code_bytes bytes at = part bytes (code_at bytes + code_place bytes at) (code_size bytes at)

-- the same, None in a stub
abbrev pub code_of : List ℕ → ℕ → Option (List ℕ)
code_of bytes at = if has_code bytes at then Some (code_bytes bytes at) else None

-- a function by what a view shows of it
abbrev pub shown_function : FunctionKind → ℕ → ℕ → Option (List ℕ) → ModuleFunction
shown_function kind length registers code =
    record { kind = kind; length = length; registers = registers; code = code }

abbrev pub function_at : List ℕ → ℕ → ModuleFunction
function_at bytes at =
    shown_function (kind_of (kind_number bytes at)) (slice_index bytes (at + 1)) (register_count bytes at)
    (code_of bytes at)

-- the n functions with headers from a place on
abbrev pub functions_from : ℕ → ℕ → List ℕ → List ModuleFunction
functions_from zero at bytes = []
functions_from (suc n) at bytes = function_at bytes at ∷ functions_from n (at + 16) bytes

abbrev pub source_bytes : List ℕ → List ℕ
source_bytes bytes = part bytes (source_at bytes) (source_length bytes)

-- the text of an entry
abbrev pub text_of : List ℕ → ℕ → List ℕ
text_of bytes entry = units_of (entry_is_wide entry) (text_bytes bytes entry)

-- what a file holds that breaks no rule, by its bytes
unfoldable pub module_of : List ℕ → Module
module_of bytes = record {
  strict = strict_flag bytes;
  source = source_bytes bytes;
  functions = functions_from (function_count bytes) (header_at 0) bytes;
  texts = map (text_of bytes) (entries bytes);
}
