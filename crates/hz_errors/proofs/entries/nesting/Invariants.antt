use Rattle.std.proofs.Common.{◌≡◌, ◌≤◌, ◌⊎◌}
use Rattle.hz_tree.specs.errors.Limits.{deeper}
use Rattle.hz_tree.specs.sources.Kinds.{order_of_limit}
use Rattle.hz_errors.specs.Found.{noted}
use Rattle.hz_errors.specs.Runs.{run_levels}
use Rattle.hz_errors.proofs.entries.nesting.Given as goal

abbrev pub invariant-loop-k : goal.invariant-loop-k
invariant-loop-k l = record {
  found : l.least ≡ noted order_of_limit (deeper (run_levels l.k l.run.end l.places)) l.initial.least;
  within : (l.k ≤ 400) ⊎ (l.k ≤ l.run.len);
}
