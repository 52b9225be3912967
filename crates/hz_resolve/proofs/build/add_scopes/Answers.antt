use Rattle.std.proofs.Common.{◌≡◌, ◌∙◌, ◌+◌, ap, sym, arith, ◌++◌, ◌∷◌, [], List, map, Some, length, ◌≤◌, ℕ, rules}
use Rattle.std.proofs.lemmas.List.{take_all}
use Rattle.std.specs.List.{slice_get}
use Rattle.std.specs.Option.{option_map}
use Rattle.hz_index.specs.Views.{known_scope}
use Rattle.hz_tree.specs.trees.FunctionScopes.{Scope}
use Rattle.hz_resolve.specs.Numbered.{Numbered, numbered, uses_of}
use Rattle.hz_resolve.specs.Starts.{placed_in, all_placed_in}
use Rattle.hz_resolve.proofs.Building.{scopes_step, past_end}
use Rattle.hz_resolve.proofs.build.add_scopes.Goals as goal

pub loop-scope-preserved : goal.loop-scope-preserved
loop-scope-preserved c =
    let own = c.args.own.now in
    let s = known_scope c.in-Some.scope in
    let at : slice_get own c.loop-scope.i ≡ Some s = sym c.get.ensures ∙ ap (option_map known_scope) c.in-Some.is in
    let step = scopes_step c.args.function.now own c.loop-scope.i c.args.next c.loop-scope.past s
    c.args.scopes.now.items
    c.loop-scope.scopes.items at c.loop-scope.invariant.known c.loop-scope.invariant.names in
    record {
      known = c.in_ok-push.ensures.items
          ∙ ap (λ (n : Numbered). c.loop-scope.scopes.items ++ n ∷ []) c.in_ok-numbered_scope.ensures
          ∙ ap (λ (n : ℕ). c.loop-scope.scopes.items ++ record {
            scope = placed_in c.args.function.now n s;
            first = c.loop-scope.past;
          } ∷ []) c.in_ok-number.ensures.sum
          ∙ step.0;
      names = c.in_ok-past.ensures.sum ∙ ap (λ (n : ℕ). c.loop-scope.past + n) c.len.ensures ∙ step.1;
      few = c.in_ok-past.ensures.few;
    }

pub returns-clause-scopes : goal.returns-clause-scopes
returns-clause-scopes c =
    let own = c.args.own.now in
    let f = c.args.function.now in
    let all = past_end own c.loop-scope.i (sym c.get.ensures ∙ ap (option_map known_scope) c.in_default.is) in
    c.loop-scope.invariant.known
    ∙ ap (λ (ss : List Scope). c.args.scopes.now.items ++ numbered c.args.next (all_placed_in f f.first ss))
    (take_all c.loop-scope.i own all)

pub returns-clause-next : goal.returns-clause-next
returns-clause-next c =
    let own = c.args.own.now in
    let f = c.args.function.now in
    let all = past_end own c.loop-scope.i (sym c.get.ensures ∙ ap (option_map known_scope) c.in_default.is) in
    c.loop-scope.invariant.names
    ∙ ap (λ (ss : List Scope). c.args.next + length (uses_of (all_placed_in f f.first ss)))
    (take_all c.loop-scope.i own all)
