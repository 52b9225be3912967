use Rattle.std.proofs.Common.{◌≡◌, ◌≤◌, take, length}
use Rattle.hz_tree.specs.sources.Refusals.{function_scopes}
use Rattle.hz_tree.specs.trees.FunctionScopes.{FunctionScopes}
use Rattle.hz_resolve.specs.Starts.{starts_of}
use Rattle.hz_resolve.proofs.Parts.{total}
use Rattle.hz_resolve.proofs.functions.function_starts.Given as goal

abbrev pub invariant-loop-k : goal.invariant-loop-k
invariant-loop-k l = record {
  known : l.starts.items
      ≡ starts_of (λ (f : FunctionScopes). length f.scopes) 0 (take l.k (function_scopes l.index.source));
  sum : l.total ≡ total (λ (f : FunctionScopes). length f.scopes) (take l.k (function_scopes l.index.source));
  few : l.total ≤ 4294967295;
}
