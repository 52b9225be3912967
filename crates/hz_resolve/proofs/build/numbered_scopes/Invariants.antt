use Rattle.std.proofs.Common.{◌≡◌, ◌≤◌, take, length}
use Rattle.hz_tree.specs.sources.Refusals.{function_scopes}
use Rattle.hz_tree.specs.trees.Layout.{scopes_from}
use Rattle.hz_resolve.specs.Numbered.{numbered, uses_of}
use Rattle.hz_resolve.proofs.build.numbered_scopes.Given as goal

abbrev pub invariant-loop-k : goal.invariant-loop-k
invariant-loop-k l =
    let fs = function_scopes l.index.source in
    record {
      known : l.scopes.items ≡ numbered 0 (scopes_from fs 0 0 (take l.k fs));
      names : l.next ≡ length (uses_of (scopes_from fs 0 0 (take l.k fs)));
      few : l.next ≤ 4294967295;
    }
