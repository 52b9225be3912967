-- What a call leaves of counts of faults and of standard error.
use Rattle.std.specs.Prelude.{◌≡◌, ◌⊎◌, ℕ, List, Option, Result, Ok, Err}
use Rattle.std.specs.Io.KnownBytes.{Appends}
use Rattle.hz_io.specs.Causes.{Rose}
use Rattle.hermes.specs.declared.status.Status.{Status}
use Rattle.hermes.specs.declared.status.Status.TheVariants.{WriteFault}
use Rattle.hermes.specs.Printing.{AppendsPrefix}

-- the count of output's faults went up where the status is a write fault, and else stayed
abbrev pub WriteCause : Status → ℕ → ℕ → Type 0
WriteCause WriteFault before now = Rose before now
WriteCause status before now = now ≡ before

-- all of the line went out, or a front of it where the count of faults went up
abbrev pub GetsLine : Option (List ℕ) → Option (List ℕ) → ℕ → ℕ → List ℕ → Type 0
GetsLine old new before now line =
    (Appends old new line × (now ≡ before)) ⊎ (AppendsPrefix old new line × Rose before now)

-- whether the bytes went out: all of them, or a front of them where the count of faults went up
abbrev pub Sends : {T E : Type 0} → Option (List ℕ) → Option (List ℕ) → ℕ → ℕ → List ℕ → Result T E → Type 0
Sends old new before now bytes (Ok done) = Appends old new bytes × (now ≡ before)
Sends old new before now bytes (Err fault) = AppendsPrefix old new bytes × Rose before now
