use Rattle.std.proofs.Common.{◌≡◌, ◌∙◌, ◌+◌, ap, sym, refl, arith, ◌++◌, ◌∷◌, [], List, length, ◌≤◌, ℕ, rules, Some}
use Rattle.std.proofs.lemmas.Option.{slice_get_read}
use Rattle.std.specs.List.{slice_get}
use Rattle.hz_resolve.specs.Numbered.{Numbered, numbered, uses_of, scopes_of}
use Rattle.hz_resolve.proofs.Flat.{extent_inside}
use Rattle.hz_resolve.proofs.Standings.{name_starts_step}
use Rattle.hz_resolve.proofs.build.starts_of_names.Goals as goal

pub overflow_cast-past : goal.overflow_cast-past
overflow_cast-past c =
    let scopes = c.args.scopes.now in
    let at : slice_get scopes c.loop-scope.scope-index ≡ Some c.scope-item.result =
    slice_get_read scopes (length scopes) c.loop-scope.scope-index c.scope-item.result refl c.loop-scope-test.true
    c.scope-item.is in
    let inside = extent_inside (scopes_of scopes) c.loop-scope.scope-index c.scope-item.result
    (ap (λ (ss : List Numbered). slice_get ss c.loop-scope.scope-index) (sym c.requires.numbered) ∙ at) in
    omega (arith, inside, c.extent-past.ensures.past, c.requires.few)

pub loop-scope-preserved : goal.loop-scope-preserved
loop-scope-preserved c =
    let scopes = c.args.scopes.now in
    let at : slice_get scopes c.loop-scope.scope-index ≡ Some c.scope-item.result =
    slice_get_read scopes (length scopes) c.loop-scope.scope-index c.scope-item.result refl c.loop-scope-test.true
    c.scope-item.is in
    c.in_ok-push-2.ensures.items
    ∙ ap (λ (n : ℕ). c.loop-scope.starts.items ++ n ∷ []) c.extent-past.ensures.past
    ∙ name_starts_step scopes c.loop-scope.scope-index c.scope-item.result c.loop-scope.starts.items
    c.requires.numbered at c.loop-scope.invariant
