use Rattle.std.proofs.Common.{◌≡◌, ◌<◌, ℕ, Some, length}
use Rattle.std.specs.List.{slice_get}
use Rattle.hz_resolve.specs.Numbered.{uses_of}
use Rattle.hz_resolve.proofs.Mapped.{taken_by}
use Rattle.hz_resolve.proofs.passes.taken.Given as goal

abbrev pub invariant-loop-number : goal.invariant-loop-number
invariant-loop-number l = record {
  long : length l.taken.items ≡ length (uses_of l.table);
  each : (q : ℕ) → q < length (uses_of l.table) → slice_get l.taken.items q ≡ Some (taken_by l.table l.number q);
}
