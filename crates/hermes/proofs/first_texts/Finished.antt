-- The run of a compiled file ends as its source says.
use Rattle.std.proofs.Common.{◌≡◌, ◌∙◌, ℕ, Bool, List, [], ◌∷◌, Option, Some, None, refl, sym, ap}
use Rattle.std.specs.Option.{option_map_or}
use Rattle.hz_io.specs.Contents.{Told}
use Rattle.hz_value.specs.declared.leaving.Left.{Left}
use Rattle.hz_value.specs.declared.leaving.Left.TheVariants.{NotSafe}
use Rattle.hz_ops.specs.Runs.{End, LeftFor, BadCode, start_of, Ends}
use Rattle.hz_tree.specs.sources.Refusals.{refusal_of}
use Rattle.hermes.specs.declared.first.language.Argument.{Argument}
use Rattle.hermes.specs.declared.status.Status.TheVariants as status
use Rattle.hermes.specs.declared.first.run.stop.FirstEnd.{FirstEnd}
use Rattle.hermes.specs.declared.first.run.stop.FirstEnd.TheVariants as first_end
use Rattle.hermes.specs.first.Compiled.{Compiles, code_in}
use Rattle.hermes.specs.first.Runs.{Agrees}
use Rattle.hermes.specs.Outcomes.{Outcome, PrintedFront}
use Rattle.hermes.specs.first.Saying.{lines_of, end_of, line_of_call}

-- what a source says is never bad code
line_or_left : (calls : List Argument) (a : Argument) (line : Option (List ℕ)) → line_of_call a ≡ line
    → (end_of calls ≡ BadCode → ⊥) → end_of (a ∷ calls) ≡ BadCode → ⊥
line_or_left calls a None e rest bad =
    let left : LeftFor NotSafe ≡ BadCode =
    ap (λ (o : Option (List ℕ)). option_map_or (λ line. end_of calls) o (LeftFor NotSafe)) (sym e) ∙ bad in cc
line_or_left calls a (Some line) e rest bad =
    rest (ap (λ (o : Option (List ℕ)). option_map_or (λ line. end_of calls) o (LeftFor NotSafe)) (sym e) ∙ bad)

not_bad : (calls : List Argument) → end_of calls ≡ BadCode → ⊥
not_bad [] bad = cc
not_bad (a ∷ calls) bad = line_or_left calls a (line_of_call a) refl (not_bad calls) bad

-- this answer of the run agrees with each way in which the file's code ends
abbrev pub AgreesWith : (file : List ℕ) (old new : Told) → FirstEnd → Type 0
AgreesWith file old new answer = (lines : List (List ℕ)) (end : End)
    → Ends (code_in file) (start_of (code_in file)) lines end → Agrees lines end old new answer

-- by the answer of the run
pub run_done : (strict : Bool) (source file : List ℕ) (old new : Told) → refusal_of source strict ≡ None
    → Compiles strict source file → AgreesWith file old new first_end.Done → Outcome status.Done strict source old new
run_done strict source file old new read (calls, c) agrees =
    let a = agrees (lines_of calls) (end_of calls) c.says in
    (calls, record { unrefused = read; accepted = c.accepted }, a.0, a.1)

pub run_left : (strict : Bool) (source file : List ℕ) (old new : Told) (reason : Left) → refusal_of source strict ≡ None
    → Compiles strict source file → AgreesWith file old new (first_end.Left reason)
    → Outcome (status.Left reason) strict source old new
run_left strict source file old new reason read (calls, c) agrees =
    let a = agrees (lines_of calls) (end_of calls) c.says in
    (calls, record { unrefused = read; accepted = c.accepted }, a.0, a.1)

pub run_bad : (strict : Bool) (source file : List ℕ) (old new : Told) → Compiles strict source file
    → AgreesWith file old new first_end.BadCode → ⊥
run_bad strict source file old new (calls, c) agrees = not_bad calls (agrees (lines_of calls) (end_of calls) c.says).0

pub run_fault : (strict : Bool) (source file : List ℕ) (old new : Told) → refusal_of source strict ≡ None
    → Compiles strict source file → AgreesWith file old new first_end.WriteFault → PrintedFront strict source old new
run_fault strict source file old new read (calls, c) agrees =
    (calls, record { unrefused = read; accepted = c.accepted }, agrees (lines_of calls) (end_of calls) c.says)

pub run_memory : (strict : Bool) (source file : List ℕ) (old new : Told) → refusal_of source strict ≡ None
    → Compiles strict source file → AgreesWith file old new first_end.Memory → PrintedFront strict source old new
run_memory strict source file old new read (calls, c) agrees =
    (calls, record { unrefused = read; accepted = c.accepted }, agrees (lines_of calls) (end_of calls) c.says)
