use Rattle.std.proofs.Common.{◌≡◌, ◌∙◌, ap, sym, Some}
use Rattle.std.specs.List.{slice_get}
use Rattle.std.specs.Option.{option_map}
use Rattle.hz_index.specs.Views.{known_scope}
use Rattle.hz_tree.specs.sources.Refusals.{function_scopes}
use Rattle.hz_resolve.proofs.Nested.{place_there}
use Rattle.hz_front_tests.proofs.layout.place.Goals as goal

pub place-requires : goal.place-requires
place-requires c =
    let s = known_scope c.in_ok-listed.listed in
    let scope : slice_get c.scopes.result c.args.scope ≡ Some s =
    sym c.get.ensures ∙ ap (option_map known_scope) c.in_ok-listed.was in
    place_there (function_scopes c.args.index.now.source) c.args.layout.now c.args.k c.args.scope c.args.name
    c.scopes.result s _ c.requires c.scopes.ensures (scope, sym c.in-Some.ensures)
