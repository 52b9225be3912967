-- When a call may answer that it failed: only where a count of faults rose in that very call.
use Rattle.std.specs.Prelude.{◌≡◌, ℕ, ◌+◌, ◌≤◌, List, min, OnOk, OnErr, Result, Ok, Err}
use Rattle.hz_io.specs.declared.faults.FileFault.{FileFault}
use Rattle.hz_io.specs.declared.faults.FileFault.TheVariants.{Failed, Memory}

-- one more than a count, but a count stays at the last value of its type
abbrev pub next : ℕ → ℕ
next count = min (count + 1) 18446744073709551615

-- the count went up; at its last value it may stay
abbrev pub Rose : ℕ → ℕ → Type 0
Rose before now = next before ≤ now

-- a count that never falls, went up where the call failed, and else stayed
pub record HasCause {T E : Type 0} (before now : ℕ) (result : Result T E) : Type 0 where
  pub later : before ≤ now
  pub failed : OnErr result (Rose before now)
  pub kept : OnOk result (now ≡ before)

-- a fact of a call that failed, and another of one that did not
abbrev pub Faulty : {T : Type 0} → Result T FileFault → Type 0 → Type 0 → Type 0
Faulty (Ok value) P Q = Q
Faulty (Err Failed) P Q = P
Faulty (Err Memory) P Q = Q

-- counts by name of a file: none falls, that of this name went up where the call failed, and else all stayed
pub record HasFileCause {T : Type 0} (before now : List ℕ → ℕ) (name : List ℕ) (result : Result T FileFault)
    : Type 0 where
  pub later : (q : List ℕ) → before q ≤ now q
  pub cause : Faulty result (Rose (before name) (now name)) ((q : List ℕ) → now q ≡ before q)
