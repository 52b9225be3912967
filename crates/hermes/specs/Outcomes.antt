-- What the status of a call says of the source and of what went out.
use Rattle.std.specs.Prelude.{◌≡◌, ◌⊎◌, ℕ, Bool, List, [], Option, Some, None}
use Rattle.hz_ops.specs.Runs.{End, Done, LeftFor}
use Rattle.hz_io.specs.Contents.{Contents, Told}
use Rattle.hermes.specs.declared.first.language.Argument.{Argument}
use Rattle.hz_tree.specs.declared.refusal.Refusal.{Refusal}
use Rattle.hz_tree.specs.declared.refusal.Refusal.TheVariants.{NotYet}
use Rattle.hz_tree.specs.sources.Refusals.{refusal_of}
use Rattle.hermes.specs.declared.status.Status.{Status}
use Rattle.hermes.specs.declared.status.Status.TheVariants as status
use Rattle.hermes.specs.first.Texts.{IsAccepted, IsRefused}
use Rattle.hermes.specs.first.Saying.{lines_of, end_of}
use Rattle.hermes.specs.Printing.{Prints, PrintsSome}

-- The source is no refused one, read as strict or not, and a first text with these calls.
pub record IsRunnable (strict : Bool) (source : List ℕ) (calls : List Argument) : Type 0 where
  pub unrefused : refusal_of source strict ≡ None
  pub accepted : IsAccepted strict source calls

-- Why the source does not run: what the language refuses, or else what is not built yet, with the place of
-- `IsRefused`.
abbrev pub IsRefusedFor : Bool → List ℕ → Refusal → Type 0
IsRefusedFor strict source (NotYet at) = (refusal_of source strict ≡ None) × IsRefused strict source at
IsRefusedFor strict source r = refusal_of source strict ≡ Some r

-- The source runs, read as strict or not, ends so, and all of its lines went out.
abbrev pub Printed : End → Bool → List ℕ → Told → Told → Type 0
Printed end strict source old new =
    (calls : List Argument) × IsRunnable strict source calls × (end_of calls ≡ end) × Prints old new (lines_of calls)

-- The source runs, and a front of its lines went out.
abbrev pub PrintedFront : Bool → List ℕ → Told → Told → Type 0
PrintedFront strict source old new =
    (calls : List Argument) × IsRunnable strict source calls × PrintsSome old new (lines_of calls)

-- What a status says of the source, and of what went out: `old` is what standard output tells before the call, and
-- `new` behind it. Since a source that runs spells its calls alone, and is not refused, the
-- source determines which case comes, but for faults and memory.
abbrev pub Outcome : Status → Bool → List ℕ → Told → Told → Type 0
Outcome status.Done strict source old new = Printed Done strict source old new
Outcome (status.Left reason) strict source old new = Printed (LeftFor reason) strict source old new
Outcome (status.Refused refusal) strict source old new = IsRefusedFor strict source refusal × Prints old new []
Outcome status.ReadFault strict source old new = Prints old new []
Outcome status.WriteFault strict source old new = PrintedFront strict source old new
Outcome status.Memory strict source old new = PrintedFront strict source old new ⊎ Prints old new []
Outcome (status.Usage word) strict source old new = ⊥
-- a first text throws nothing
Outcome (status.Uncaught description) strict source old new = ⊥

-- no source was read
abbrev pub IsUnread : Status → Type 0
IsUnread s = (s ≡ status.ReadFault) ⊎ (s ≡ status.Memory)

-- What a status says where the file holds this source, or is not there.
abbrev pub OutcomeAt : Option (List ℕ) → Bool → Status → Told → Told → Type 0
OutcomeAt (Some source) strict status old new = Outcome status strict source old new
OutcomeAt None strict status old new = IsUnread status × Prints old new []

-- What a status says of a file with this name: of the source that it holds, or of some source where the files do
-- not tell what they hold.
abbrev pub OutcomeOf : Option Contents → List ℕ → Bool → Status → Told → Told → Type 0
OutcomeOf None name strict status old new = (source : List ℕ) × Outcome status strict source old new
OutcomeOf (Some held) name strict status old new = OutcomeAt (held name) strict status old new
