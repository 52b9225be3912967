-- What the compiled file of a source is.
use Rattle.std.specs.Prelude.{◌≡◌, ℕ, Bool, List, None}
use Rattle.hz_file.specs.Image.{program, image}
use Rattle.hz_file.specs.Layout.{HasMagic}
use Rattle.hz_file.specs.Module.{module_of}
use Rattle.hz_file.specs.Opening.{rule}
use Rattle.hz_ops.specs.Activations as code
use Rattle.hz_ops.specs.Runs.{start_of, Ends, IsBuilt}
use Rattle.hermes.specs.declared.first.language.Argument.{Argument}
use Rattle.hermes.specs.declared.first.language.FirstFault.{FirstFault}
use Rattle.hermes.specs.declared.first.language.FirstFault.TheVariants as fault
use Rattle.hermes.specs.FileCode.{code_module}
use Rattle.hermes.specs.first.Texts.{IsAccepted, IsRefused}
use Rattle.hermes.specs.first.Saying.{lines_of, end_of}

-- the code of a file
abbrev pub code_in : List ℕ → code.Module
code_in file = code_module (module_of file)

-- The file is the one that is written of the source, the flag, and some texts, registers and code.
abbrev pub IsWritten : Bool → List ℕ → List ℕ → Type 0
IsWritten strict source file =
    (texts : List (List ℕ)) × (registers : ℕ) × (code : List ℕ)
    × (file ≡ image (program strict source texts registers code))

-- The file can be opened, holds the source and the flag, and its code prints what the source says and ends as it ends.
pub record IsCompiled (strict : Bool) (source : List ℕ) (calls : List Argument) (file : List ℕ) : Type 0 where
  pub accepted : IsAccepted strict source calls
  pub written : IsWritten strict source file
  pub magic : HasMagic file
  pub opens : rule file ≡ None
  pub source_kept : (module_of file).source ≡ source
  pub flag : (module_of file).strict ≡ strict
  pub says : Ends (code_in file) (start_of (code_in file)) (lines_of calls) (end_of calls)
  pub built : IsBuilt (code_in file) (start_of (code_in file))

abbrev pub Compiles : Bool → List ℕ → List ℕ → Type 0
Compiles strict source file = (calls : List Argument) × IsCompiled strict source calls file

-- a source is refused as `IsRefused` says
abbrev pub FaultOf : Bool → List ℕ → FirstFault → Type 0
FaultOf strict source (fault.NotYet at) = IsRefused strict source at
FaultOf strict source fault.Memory = Unit {0}
