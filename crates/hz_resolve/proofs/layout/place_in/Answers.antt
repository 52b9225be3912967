use Rattle.std.proofs.Common.{◌≡◌, ◌∙◌, ◌+◌, ◌<◌, ap, sym, arith, length, ℕ, Some, slice_index, get_or, refl}
use Rattle.std.proofs.lemmas.Option.{slice_get_within, get_or_from_slice_get}
use Rattle.hz_tree.specs.declared.place.Place.{Place}
use Rattle.hz_tree.specs.declared.place.Place.TheVariants as place
use Rattle.hz_resolve.proofs.Nested.{is_there}
use Rattle.hz_resolve.proofs.layout.place_in.Goals as goal

pub bounds-functions-k : goal.bounds-functions-k
bounds-functions-k c =
    let at = (is_there c.args.functions.now c.args.scopes.now c.args.places.now c.args.k c.args.scope c.args.name
    c.requires.there).1 in
    slice_get_within c.args.functions.now c.args.k at.first at.function

pub bounds-scopes-first : goal.bounds-scopes-first
bounds-scopes-first c =
    let at = (is_there c.args.functions.now c.args.scopes.now c.args.places.now c.args.k c.args.scope c.args.name
    c.requires.there).1 in
    let first = get_or_from_slice_get c.args.functions.now c.args.k at.first 0 at.function in
    omega (arith, first, slice_get_within c.args.scopes.now (at.first + c.args.scope) at.names at.scope)

pub bounds-places-names : goal.bounds-places-names
bounds-places-names c =
    let at = (is_there c.args.functions.now c.args.scopes.now c.args.places.now c.args.k c.args.scope c.args.name
    c.requires.there).1 in
    let first = get_or_from_slice_get c.args.functions.now c.args.k at.first 0 at.function in
    let names : slice_index c.args.scopes.now (slice_index c.args.functions.now c.args.k + c.args.scope) ≡ at.names =
    ap (λ n. slice_index c.args.scopes.now (n + c.args.scope)) first
    ∙ get_or_from_slice_get c.args.scopes.now (at.first + c.args.scope) at.names 0 at.scope in
    omega (arith, names, slice_get_within c.args.places.now (at.names + c.args.name) _ at.name)

pub returns : goal.returns
returns c =
    let there = is_there c.args.functions.now c.args.scopes.now c.args.places.now c.args.k c.args.scope c.args.name
    c.requires.there in
    let at = there.1 in
    let first = get_or_from_slice_get c.args.functions.now c.args.k at.first 0 at.function in
    let names : slice_index c.args.scopes.now (slice_index c.args.functions.now c.args.k + c.args.scope) ≡ at.names =
    ap (λ n. slice_index c.args.scopes.now (n + c.args.scope)) first
    ∙ get_or_from_slice_get c.args.scopes.now (at.first + c.args.scope) at.names 0 at.scope in
    at.is
    ∙ ap (λ (p : Place). Some p)
    (sym (ap (λ n. get_or c.args.places.now (n + c.args.name) place.Register) names
    ∙ get_or_from_slice_get c.args.places.now (at.names + c.args.name) there.0 place.Register at.name))
