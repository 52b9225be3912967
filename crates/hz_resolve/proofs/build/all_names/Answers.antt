use Rattle.std.proofs.Common.{◌≡◌, ◌∙◌, ap, sym, refl, arith, ◌++◌, List, map, rules, length, Some}
use Rattle.std.proofs.lemmas.Option.{slice_get_read}
use Rattle.std.specs.List.{slice_get}
use Rattle.hz_resolve.specs.Numbered.{Use, uses_in}
use Rattle.hz_resolve.specs.Views.{known_use}
use Rattle.hz_resolve.proofs.Building.{all_names_step}
use Rattle.hz_resolve.proofs.build.all_names.Goals as goal

pub loop-scope-preserved : goal.loop-scope-preserved
loop-scope-preserved c =
    let scopes = c.args.scopes.now in
    let at : slice_get scopes c.loop-scope.scope-index ≡ Some c.scope-item.result =
    slice_get_read scopes (length scopes) c.loop-scope.scope-index c.scope-item.result refl c.loop-scope-test.true
    c.scope-item.is in
    c.in_ok-add_names.ensures
    ∙ all_names_step scopes c.loop-scope.scope-index c.scope-item.result (map known_use c.loop-scope.names.items) at
    c.loop-scope.invariant
