-- What files and streams hold. An implementation tells it as `Some`; one over a device tells nothing.
use Rattle.std.specs.Prelude.{◌≡◌, ◌≢◌, ◌⊎◌, ℕ, ◌+◌, List, take, min, ⊤, Option, Some, None, Result, Ok, Err}
use Rattle.std.specs.Prelude.{MatchResult}
use Rattle.std.specs.Io.KnownBytes.{Appends}
use Rattle.hz_io.specs.declared.faults.FileFault.{FileFault}
use Rattle.hz_io.specs.declared.faults.FileFault.TheVariants.{Failed, Memory}

-- the bytes of the file with a name, where there is such a file
abbrev pub Contents : Type 0
Contents = List ℕ → Option (List ℕ)

-- the bytes are the first of a file that is there: `most` of them, or all where there are fewer
abbrev pub ReadsFile : Option Contents → List ℕ → ℕ → List ℕ → Type 0
ReadsFile None name most bytes = Unit {0}
ReadsFile (Some held) name most bytes =
    (whole : List ℕ) × (held name ≡ Some whole) × (bytes ≡ take most whole)

-- what a file is after a write of bytes with this answer: these bytes; what it was, or a front of these
-- bytes; what it was
abbrev pub Lands : {T : Type 0} → Option (List ℕ) → Option (List ℕ) → List ℕ → Result T FileFault → Type 0
Lands before now bytes (Ok value) = now ≡ Some bytes
Lands before now bytes (Err Failed) = (now ≡ before) ⊎ ((k : ℕ) × (now ≡ Some (take k bytes)))
Lands before now bytes (Err Memory) = now ≡ before

-- each file but the one with this name is as it was
abbrev pub OthersStay : Contents → Contents → List ℕ → Type 0
OthersStay old new name = (q : List ℕ) → q ≢ name → new q ≡ old q

-- a write of bytes to the file with a name
abbrev pub WritesFile : {T : Type 0} → Option Contents → Option Contents → List ℕ → List ℕ
    → Result T FileFault → Type 0
WritesFile None new name bytes result = Unit {0}
WritesFile (Some old) None name bytes result = ⊥
WritesFile (Some old) (Some new) name bytes result =
    OthersStay old new name × Lands (old name) (new name) bytes result

-- What a stream tells of what it has got: the bytes, and the number of its puts, each where it tells it.
pub record Told : Type 0 where
  pub got : Option (List ℕ)
  pub puts : Option ℕ

-- a told number grows by n; a count stays at the last value of its type
abbrev pub CountsMore : Option ℕ → Option ℕ → ℕ → Type 0
CountsMore None now n = ⊤
CountsMore (Some before) None n = ⊥
CountsMore (Some before) (Some now) n = min now 18446744073709551615 ≡ min (before + n) 18446744073709551615

-- a stream got these bytes by n puts
pub record Gets (old new : Told) (bytes : List ℕ) (n : ℕ) : Type 0 where
  pub got : Appends old.got new.got bytes
  pub puts : CountsMore old.puts new.puts n

-- a stream got a front of these bytes by n puts
abbrev pub GetsFront : Told → Told → List ℕ → ℕ → Type 0
GetsFront old new bytes n = (k : ℕ) × Gets old new (take k bytes) n

-- one put: all bytes came where the call succeeded, and else a front of them
abbrev pub Puts : {T E : Type 0} → Told → Told → List ℕ → Result T E → Type 0
Puts old new bytes result = MatchResult result (λ _. Gets old new bytes 1) (λ _. GetsFront old new bytes 1)
