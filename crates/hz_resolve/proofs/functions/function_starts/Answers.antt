use Rattle.std.proofs.Common.{◌≡◌, ◌∙◌, ap, sym, arith, ◌++◌, ◌∷◌, [], List, ℕ, ◌≤◌, length}
use Rattle.std.proofs.lemmas.List.{take_all}
use Rattle.hz_index.proofs.Standing.{same_count}
use Rattle.hz_tree.specs.sources.Refusals.{function_scopes}
use Rattle.hz_tree.specs.trees.FunctionScopes.{FunctionScopes}
use Rattle.hz_resolve.specs.Starts.{function_starts}
use Rattle.hz_resolve.proofs.Building.{scopes_total}
use Rattle.hz_resolve.proofs.Parts.{total}
use Rattle.hz_resolve.proofs.Standings.{function_starts_step}
use Rattle.hz_resolve.proofs.functions.function_starts.Goals as goal

pub loop-k-preserved : goal.loop-k-preserved
loop-k-preserved c =
    let fs = function_scopes c.args.index.now.source in
    let step = function_starts_step fs c.loop-k.k c.len.result c.scopes.result c.loop-k.starts.items c.loop-k.total
    c.scopes.ensures c.len.ensures c.loop-k.invariant.known c.loop-k.invariant.sum in
    record {
      known = c.in_ok-push-2.ensures.items
          ∙ ap (λ (n : ℕ). c.loop-k.starts.items ++ n ∷ []) c.in_ok-total.ensures.sum ∙ step.0;
      sum = c.in_ok-total.ensures.sum ∙ step.1;
      few = c.in_ok-total.ensures.few;
    }

pub returns-clause-starts : goal.returns-clause-starts
returns-clause-starts c =
    let source = c.args.index.now.source in
    let all : length (function_scopes source) ≤ c.loop-k.k =
    omega (arith, same_count source, c.count-k-end.ensures, c.loop-k-test.false) in
    c.loop-k.invariant.known ∙ ap function_starts (take_all c.loop-k.k (function_scopes source) all)

pub returns-clause-few : goal.returns-clause-few
returns-clause-few c =
    let source = c.args.index.now.source in
    let fs = function_scopes source in
    let size = λ (f : FunctionScopes). length f.scopes in
    let all : length fs ≤ c.loop-k.k = omega (arith, same_count source, c.count-k-end.ensures, c.loop-k-test.false) in
    let sum : c.loop-k.total ≡ total size fs = c.loop-k.invariant.sum ∙ ap (total size) (take_all c.loop-k.k fs all) in
    omega (arith, sum, scopes_total fs, c.loop-k.invariant.few)
