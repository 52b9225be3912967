-- What contracts see of the files and streams in memory. Each numbers its calls from 0 and fails at chosen ones.
use Rattle.std.specs.Prelude.{ℕ, List, map, Some, Result, Ok, Err, String, Vec, string_bytes}
use Rattle.std.specs.Map.{lookup}
use Rattle.std.specs.Str.{bytes_eq}
use Rattle.hz_io.specs.Causes.{next}
use Rattle.hz_io.specs.Contents.{Contents, Told}
use Rattle.hz_io.specs.declared.faults.FileFault.{FileFault}
use Rattle.hz_io.specs.declared.faults.FileFault.TheVariants.{Failed, Memory}

-- the bytes that have not been taken, how many one call gives at most, the number of the next call, the
-- numbers of the calls that are to fail, and the count of faults
pub record Supply : Type 0 where
  pub left : List ℕ
  pub piece : ℕ
  pub calls : ℕ
  pub failing : List ℕ
  pub faults : ℕ

-- the bytes that came, how many more there is room for, and the same of calls and faults
pub record Receipt : Type 0 where
  pub got : List ℕ
  pub room : ℕ
  pub calls : ℕ
  pub failing : List ℕ
  pub faults : ℕ

-- it tells its bytes, and each call as a put
abbrev pub told_of : Receipt → Told
told_of receipt = record { got = Some receipt.got; puts = Some receipt.calls }

-- each file's name and bytes, and the same of calls and faults; reads and writes are numbered together
pub record Folder : Type 0 where
  pub files : List (List ℕ × List ℕ)
  pub calls : ℕ
  pub failing : List ℕ
  pub read_faults : ℕ
  pub write_faults : ℕ

-- the names and bytes of a map's entries
abbrev pub files_of : {A B : Type 0} → List (String A × Vec ℕ B) → List (List ℕ × List ℕ)
files_of entries = map (λ e. (string_bytes e.0, e.1.items)) entries

-- the bytes of the file with a name
abbrev pub file_in : List (List ℕ × List ℕ) → Contents
file_in files name = lookup (bytes_eq name) files

-- a folder after a read with this answer
abbrev pub after_read : {T : Type 0} → Folder → Result T FileFault → Folder
after_read folder (Ok value) = record folder { calls = next folder.calls }
after_read folder (Err Failed) = record folder { calls = next folder.calls; read_faults = next folder.read_faults }
after_read folder (Err Memory) = folder

-- a folder after a write with this answer, but for its files
abbrev pub after_write : {T : Type 0} → Folder → Result T FileFault → Folder
after_write folder (Ok value) = record folder { calls = next folder.calls }
after_write folder (Err Failed) = record folder { calls = next folder.calls; write_faults = next folder.write_faults }
after_write folder (Err Memory) = folder
