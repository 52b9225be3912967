use Rattle.std.proofs.Common.{◌≡◌, ◌∙◌, ◌+◌, ap, sym, arith, ◌++◌, List, length, ◌≤◌, ℕ, rules}
use Rattle.std.proofs.lemmas.List.{take_all}
use Rattle.hz_index.proofs.Standing.{same_count}
use Rattle.hz_tree.specs.sources.Refusals.{function_scopes}
use Rattle.hz_tree.specs.trees.FunctionScopes.{FunctionScopes}
use Rattle.hz_tree.specs.trees.Layout.{scopes_from, all_scopes}
use Rattle.hz_resolve.specs.Numbered.{Numbered, numbered, uses_of}
use Rattle.hz_resolve.proofs.Standings.{placed_step}
use Rattle.hz_resolve.proofs.build.numbered_scopes.Goals as goal

pub loop-k-preserved : goal.loop-k-preserved
loop-k-preserved c =
    let fs = function_scopes c.args.index.now.source in
    let step = placed_step fs c.loop-k.k c.loop-k.next c.in_ok-next.next c.in_ok-function.function c.scopes.result
    c.loop-k.scopes.items c.add_scopes.new.scopes.items c.in_ok-function.ensures c.scopes.ensures
    (c.loop-k.invariant.known, c.loop-k.invariant.names) c.in_ok-next.ensures.scopes c.in_ok-next.ensures.next in
    record { known = step.0; names = step.1; few = c.in_ok-next.ensures.few }

pub returns-clause-scopes : goal.returns-clause-scopes
returns-clause-scopes c =
    let source = c.args.index.now.source in
    let fs = function_scopes source in
    let all : length fs ≤ c.loop-k.k = omega (arith, same_count source, c.count-k-end.ensures, c.loop-k-test.false) in
    c.loop-k.invariant.known
    ∙ ap (λ (gs : List FunctionScopes). numbered 0 (scopes_from fs 0 0 gs)) (take_all c.loop-k.k fs all)

pub returns-clause-few : goal.returns-clause-few
returns-clause-few c =
    let source = c.args.index.now.source in
    let fs = function_scopes source in
    let all : length fs ≤ c.loop-k.k = omega (arith, same_count source, c.count-k-end.ensures, c.loop-k-test.false) in
    let names : c.loop-k.next ≡ length (uses_of (all_scopes fs)) =
    c.loop-k.invariant.names
    ∙ ap (λ (gs : List FunctionScopes). length (uses_of (scopes_from fs 0 0 gs))) (take_all c.loop-k.k fs all) in
    omega (arith, names, c.loop-k.invariant.few)
