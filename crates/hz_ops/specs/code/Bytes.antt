-- Code as bytes.
use Rattle.std.specs.Prelude.{ℕ, Bool, ◌&&◌, nat_le, nat_lt, if◌then◌else◌, List, [], ◌∷◌, length, slice_get}
use Rattle.std.specs.Prelude.{Option, Some, None, is_some}
use Rattle.std.specs.Option.{option_and_then, option_map_or}
use Rattle.hz_tree.specs.declared.tree.FunctionKind.{FunctionKind}
use Rattle.hz_tree.specs.declared.tree.FunctionKind.TheVariants.{Script}
use Rattle.hz_ops.specs.declared.handler.Handler.{Handler}
use Rattle.hz_ops.specs.Coding.{decode_at}
use Rattle.hz_ops.specs.code.Activations.{Program}

-- the bytes of a function's instructions, how many registers it has, and its handlers, inner ones first
pub record Body : Type 0 where
  pub code : List ℕ
  pub registers : ℕ
  pub handlers : List Handler

-- a stub has no body
pub record Function : Type 0 where
  pub kind : FunctionKind
  pub length : ℕ
  pub body : Option Body

-- function 0 is the script; a text is its UTF-16 units
pub record Module : Type 0 where
  pub functions : List Function
  pub texts : List (List ℕ)

abbrev pub holds : Handler → (place : ℕ) → Bool
holds h place = nat_le h.from place && nat_lt place h.to

-- the target of the first handler that holds the place
abbrev pub target_at : List Handler → (place : ℕ) → Option ℕ
target_at [] place = None
target_at (h ∷ hs) place = if holds h place then Some h.target else target_at hs place

abbrev pub kind_of : Module → ℕ → FunctionKind
kind_of m f = option_map_or (λ g. g.kind) (slice_get m.functions f) Script

abbrev pub length_of : Module → ℕ → ℕ
length_of m f = option_map_or (λ g. g.length) (slice_get m.functions f) 0

abbrev pub body_of : Module → ℕ → Option Body
body_of m f = option_and_then (λ g. g.body) (slice_get m.functions f)

-- a module as a program: an instruction is what is decoded at its place
abbrev pub program_of : Module → Program
program_of m = record {
  count = length m.functions;
  kind = kind_of m;
  length = length_of m;
  has_code = λ function. is_some (body_of m function);
  registers = λ function. option_map_or (λ b. b.registers) (body_of m function) 0;
  fetch = λ function place. option_and_then (λ b. decode_at b.code place) (body_of m function);
  handler = λ function place. option_and_then (λ b. target_at b.handlers place) (body_of m function);
  text = λ number. slice_get m.texts number;
}

-- a script alone
abbrev pub script_module : List ℕ → (registers : ℕ) → List Handler → (texts : List (List ℕ)) → Module
script_module code registers handlers texts = record {
  functions = record {
    kind = Script;
    length = 0;
    body = Some (record { code = code; registers = registers; handlers = handlers });
  } ∷ [];
  texts = texts;
}
