-- The file that is written for a script: its parts one behind the other, and the SHA-1 of them all.
use Rattle.std.specs.Prelude.{ℕ, ◌+◌, ◌*◌, ◌<◌, ◌≤◌, Bool, List, [], ◌∷◌, ◌++◌, length, replicate, All, if◌then◌else◌}
use Rattle.std.specs.Prelude.{Some}
use Rattle.std.specs.List.{concat}
use Rattle.byteorder.specs.Endian.{little_bytes}
use Rattle.sha1.specs.Sha1.{sha1}
use Rattle.hz_tree.specs.declared.tree.FunctionKind.TheVariants.{Script}
use Rattle.hz_file.specs.Layout.{magic}
use Rattle.hz_file.specs.Module.{Module}

-- a script with its texts by their ids; the script is the only function
pub record Program : Type 0 where
  pub strict : Bool
  pub source : List ℕ
  pub texts : List (List ℕ)
  pub registers : ℕ
  pub code : List ℕ

abbrev pub program : Bool → List ℕ → List (List ℕ) → ℕ → List ℕ → Program
program strict source texts registers code =
    record { strict = strict; source = source; texts = texts; registers = registers; code = code }

-- a text that a small file can hold: at most 254 units, all below 128
abbrev pub IsShortText : List ℕ → Type 0
IsShortText text = (length text ≤ 254) × All (λ unit. unit < 128) text

unfoldable pub number : ℕ → ℕ → List ℕ
number n x = little_bytes n x

unfoldable pub zeros : ℕ → List ℕ
zeros n = replicate n 0

-- the header, field by field
abbrev pub header : Bool → ℕ → List ℕ → ℕ → ℕ → ℕ → List (List ℕ)
header strict size source texts code storage =
    magic ∷ number 4 1 ∷ number 4 (if strict then 1 else 0) ∷ number 8 size ∷ sha1 source ∷ zeros 4
    ∷ number 8 1 ∷ number 8 texts ∷ number 8 0 ∷ number 8 0 ∷ number 8 0
    ∷ number 8 code ∷ number 8 storage ∷ number 8 (length source) ∷ zeros 16 ∷ []

-- the header of the script: code is there, length 0, the code at place 0
abbrev pub function_header : ℕ → ℕ → List (List ℕ)
function_header registers code =
    (1 ∷ 0 ∷ []) ∷ number 2 registers ∷ number 4 0 ∷ number 2 code ∷ number 2 0 ∷ number 2 0 ∷ number 2 0 ∷ []

-- the entries of narrow texts that begin at a place in the storage, one behind the other
abbrev pub entry_words : ℕ → List (List ℕ) → List ℕ
entry_words place [] = []
entry_words place (text ∷ texts) = (2 * place + 16777216 * length text) ∷ entry_words (place + length text) texts

abbrev pub numbers : ℕ → List ℕ → List ℕ
numbers n [] = []
numbers n (x ∷ xs) = number n x ++ numbers n xs

-- all bytes of the file
abbrev pub size_of : Program → ℕ
size_of p = 164 + 4 * length p.texts + length (concat p.texts) + length p.code + length p.source

abbrev pub sections : Program → List (List ℕ)
sections p = numbers 4 (entry_words 0 p.texts) ∷ concat p.texts ∷ p.code ∷ p.source ∷ []

unfoldable pub pieces : Program → List (List ℕ)
pieces p =
    header p.strict (size_of p) p.source (length p.texts) (length p.code) (length (concat p.texts))
    ++ (function_header p.registers (length p.code) ++ sections p)

abbrev pub body : Program → List ℕ
body p = concat (pieces p)

unfoldable pub image : Program → List ℕ
image p = body p ++ sha1 (body p)

-- the module of a script
abbrev pub script_module : Program → Module
script_module p = record {
  strict = p.strict;
  source = p.source;
  functions = record { kind = Script; length = 0; registers = p.registers; code = Some p.code } ∷ [];
  texts = p.texts;
}

-- what a small file can hold
pub record IsSmall (p : Program) : Type 0 where
  pub source : length p.source ≤ 4095
  pub texts : length p.texts ≤ 65536
  pub short : All IsShortText p.texts
  pub storage : length (concat p.texts) ≤ 8388607
  pub registers : p.registers < 65536
  pub code : (1 ≤ length p.code) × (length p.code ≤ 65535)
