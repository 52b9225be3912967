-- A file that was written of the reader's calls and the generator's code.
use Rattle.std.proofs.Common.{◌≡◌, ℕ, Bool, List, None, sym, ap, subst}
use Rattle.hz_file.specs.Image.{program, image, script_module}
use Rattle.hz_file.specs.Layout.{HasMagic}
use Rattle.hz_file.specs.Module as file
use Rattle.hz_file.specs.Opening.{rule}
use Rattle.hz_ops.specs.Activations as code
use Rattle.hz_ops.specs.Runs.{start_of, Ends, IsBuilt}
use Rattle.hermes.specs.declared.first.language.Argument.{Argument}
use Rattle.hermes.specs.first.Compiled.{IsCompiled, code_in}
use Rattle.hermes.specs.FileCode.{code_module}
use Rattle.hermes.specs.first.Texts.{IsAccepted}
use Rattle.hermes.specs.first.Saying.{lines_of, end_of}
use Rattle.hermes.specs.first.Scripts.{script}

pub compiled : (strict : Bool) (source instructions : List ℕ) (texts : List (List ℕ)) (registers : ℕ)
    (bytes : List ℕ) (calls : List Argument)
    → let p = program strict source texts registers instructions in
    let m = script instructions texts registers in
    IsAccepted strict source calls → HasMagic bytes → rule bytes ≡ None → bytes ≡ image p
    → file.module_of bytes ≡ script_module p
    → Ends m (start_of m) (lines_of calls) (end_of calls) → IsBuilt m (start_of m)
    → IsCompiled strict source calls bytes
compiled strict source instructions texts registers bytes calls accepted magic opens written holds says built =
    let same : script instructions texts registers ≡ code_in bytes = ap code_module (sym holds) in
    record {
      accepted = accepted;
      written = (texts, registers, instructions, written);
      magic = magic;
      opens = opens;
      source_kept = ap (λ (m : file.Module). m.source) holds;
      flag = ap (λ (m : file.Module). m.strict) holds;
      says = subst (λ (m : code.Module). Ends m (start_of m) (lines_of calls) (end_of calls)) same says;
      built = subst (λ (m : code.Module). IsBuilt m (start_of m)) same built;
    }
