use Rattle.std.proofs.Common.{◌≡◌, take, length}
use Rattle.hz_tree.specs.trees.Layout.{PlacedScope}
use Rattle.hz_resolve.specs.Numbered.{scopes_of}
use Rattle.hz_resolve.specs.Starts.{starts_of}
use Rattle.hz_resolve.proofs.Parts.{total}
use Rattle.hz_resolve.proofs.build.starts_of_names.Given as goal

abbrev pub invariant-loop-scope : goal.invariant-loop-scope
invariant-loop-scope l =
    l.starts.items ≡ starts_of (λ (s : PlacedScope). length s.names) 0 (take l.scope-index (scopes_of l.scopes))
