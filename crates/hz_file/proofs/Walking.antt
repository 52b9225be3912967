-- Steps of a walk over the string entries.
use Rattle.std.proofs.Common.{◌≡◌, ◌≤◌, ◌<◌, ℕ, suc, ◌+◌, ◌-◌, true, false, nat_eq, List, ◌∷◌, Some, None}
use Rattle.std.proofs.Common.{refl, arith}
use Rattle.hz_file.specs.Layout.{field, entries_from, entry_place, entry_units, entry_size, storage_length, storage_at}
use Rattle.hz_file.proofs.Conjunctions.{and_parts}
use Rattle.hz_file.specs.Rules.{first_long_text, first_faulty_text, is_text_entry, is_placed, unless}

pub entries_more : (bytes : List ℕ) (n m at : ℕ) → n ≡ m + 1 →
    entries_from n at bytes ≡ field 4 bytes at ∷ entries_from m (at + 4) bytes
entries_more bytes n m at e = let one : n ≡ suc m = omega arith in rw one refl

-- an entry is e, and m entries are left behind it, from `to` on
pub record IsEntry (bytes : List ℕ) (n m at to e : ℕ) : Type 0 where
  pub less : n ≡ m + 1
  pub next : to ≡ at + 4
  pub is : e ≡ field 4 bytes at

-- an entry of 255 units or more ends the walk, and another does not
pub long_more : {bytes : List ℕ} {n m at to e : ℕ} → IsEntry bytes n m at to e → entry_units e < 255 →
    first_long_text at (entries_from n at bytes) ≡ first_long_text to (entries_from m to bytes)
unfolding first_long_text
long_more {bytes = bytes} {n = n} {m = m} {at = at} entry short =
    let more = entries_more bytes n m at entry.less in rw (more, entry.next, ← entry.is) (grind arith)

pub long_stop : (bytes : List ℕ) (n at e : ℕ) → 0 < n → e ≡ field 4 bytes at → 255 ≤ entry_units e →
    first_long_text at (entries_from n at bytes) ≡ Some at
unfolding first_long_text
long_stop bytes n at e some is long = let more = entries_more bytes n (n - 1) at (omega arith) in
    rw (more, ← is) (grind arith)

pub long_end : (bytes : List ℕ) (n at : ℕ) → n ≡ 0 → first_long_text at (entries_from n at bytes) ≡ None
unfolding first_long_text
long_end bytes n at e = rw e refl

-- an entry that is not kept ends the walk, and another does not
pub faulty_more : {bytes : List ℕ} {n m at to e : ℕ} (next behind : ℕ) → IsEntry bytes n m at to e →
    behind ≡ next + entry_size e → is_text_entry bytes next e ≡ true →
    first_faulty_text bytes at next (entries_from n at bytes)
    ≡ first_faulty_text bytes to behind (entries_from m to bytes)
unfolding first_faulty_text
faulty_more {bytes = bytes} {n = n} {m = m} {at = at} next behind entry size kept =
    let more = entries_more bytes n m at entry.less in rw (more, entry.next, size, ← entry.is) (rw kept refl)

pub faulty_stop : (bytes : List ℕ) (n at next e : ℕ) → 0 < n → e ≡ field 4 bytes at →
    is_text_entry bytes next e ≡ false → first_faulty_text bytes at next (entries_from n at bytes) ≡ Some at
unfolding first_faulty_text
faulty_stop bytes n at next e some is stray = let more = entries_more bytes n (n - 1) at (omega arith) in
    rw (more, ← is) (rw stray refl)

pub faulty_end : (bytes : List ℕ) (n at next : ℕ) → n ≡ 0 →
    first_faulty_text bytes at next (entries_from n at bytes)
    ≡ unless (nat_eq next (storage_length bytes)) (storage_at bytes)
unfolding first_faulty_text
faulty_end bytes n at next e = rw e refl

-- the text of an entry that is kept lies in the storage where the one before it ends
pub kept_fits : (bytes : List ℕ) (next e : ℕ) → is_text_entry bytes next e ≡ true →
    (entry_place e ≡ next) × (next + entry_size e ≤ storage_length bytes)
kept_fits bytes next e kept =
    let placed = (and_parts (is_placed bytes next e) _ kept).0 in
    (grind (arith, placed), grind (arith, placed))
