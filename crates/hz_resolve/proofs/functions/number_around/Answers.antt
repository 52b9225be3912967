use Rattle.std.proofs.Common.{◌≡◌, ◌∙◌, ◌+◌, ap, sym, arith, Some, None, length, ◌<◌, List, ℕ, Option}
use Rattle.std.specs.List.{slice_get}
use Rattle.std.specs.Option.{option_map}
use Rattle.hz_tree.specs.sources.Refusals.{function_scopes}
use Rattle.hz_tree.specs.declared.scope.ScopeAt.{ScopeAt}
use Rattle.hz_tree.specs.trees.FunctionScopes.{FunctionScopes}
use Rattle.hz_resolve.proofs.Parts.{length-starts, function_start}
use Rattle.hz_resolve.proofs.Standings.{outer_there, around_is}
use Rattle.hz_resolve.proofs.functions.number_around.Goals as goal

pub number_of-requires : goal.number_of-requires
number_of-requires c =
    let fs = function_scopes c.args.index.now.source in
    let there = outer_there c.args.index.now.source c.args.k c.in-Some.at
    (c.around.ensures ∙ ap (λ (a : Option ScopeAt). Some a) c.in-Some.is) in
    omega (arith, there, ap length c.requires.starts, length-starts (λ (f : FunctionScopes). length f.scopes) 0 fs)

pub returns-in_ok-number_of-in-Some : goal.returns-in_ok-number_of-in-Some
returns-in_ok-number_of-in-Some c =
    let source = c.args.index.now.source in
    let fs = function_scopes source in
    let at = c.in-Some.at in
    let is = c.around.ensures ∙ ap (λ (a : Option ScopeAt). Some a) c.in-Some.is in
    let start = function_start fs c.args.starts.now at.function c.requires.starts (outer_there source c.args.k at is) in
    around_is fs c.args.k at c.in_ok-number_of-in-Some.field-0 is
    (c.in_ok-number_of-in-Some.ensures ∙ ap (λ n. n + at.scope) start)
