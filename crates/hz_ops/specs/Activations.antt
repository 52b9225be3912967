-- Modules of code, activations of their functions, and what a step of an activation does.
use Rattle.std.specs.Prelude.{ℕ, List, [], replicate, slice_set, slice_get}
use Rattle.std.specs.Option.{option_map_or}
use Rattle.hz_value.specs.declared.leaving.Left.{Left}
use Rattle.hz_ops.specs.Contents.{Content, Undefined}

-- the bytes of a function's instructions, and how many registers it has
pub record FunctionCode : Type 0 where
  pub code : List ℕ
  pub registers : ℕ

-- function 0 is the script; a text is its UTF-16 units
pub record Module : Type 0 where
  pub functions : List FunctionCode
  pub texts : List (List ℕ)

abbrev pub code_of : Module → ℕ → List ℕ
code_of m f = option_map_or (λ c. c.code) (slice_get m.functions f) []

abbrev pub register_count : Module → ℕ → ℕ
register_count m f = option_map_or (λ c. c.registers) (slice_get m.functions f) 0

-- a function that runs: the place in its code, in bytes, and what its registers hold
pub record Activation : Type 0 where
  pub function : ℕ
  pub place : ℕ
  pub registers : List Content

-- at entry each register holds undefined
abbrev pub entered : Module → ℕ → Activation
entered m f = record { function = f; place = 0; registers = replicate (register_count m f) Undefined }

-- the activation at this place, with x in register r
abbrev pub written : ℕ → ℕ → Content → Activation → Activation
written next r x a = record { function = a.function; place = next; registers = slice_set a.registers r x }

-- what an activation asks of the system: to print a line (in UTF-16 units, without the newline), to
-- return, to leave the run, to end it as bad code. Beyond is what the rows that there are so far do not
-- say: an operator on other than two numbers, a global other than `print`, a callee other than `print`,
-- and an argument of it that has no text
pub data Act : Type 0 where
  Print : (line : List ℕ) → Act
  Return : (value : Content) → Act
  Leave : (reason : Left) → Act
  Bad : Act
  Beyond : Act

-- one step: the activation goes on, or does an act, behind which it stands as given
pub data Next : Type 0 where
  Goes : Activation → Next
  Does : Act → Activation → Next
