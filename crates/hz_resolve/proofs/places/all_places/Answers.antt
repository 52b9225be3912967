use Rattle.std.proofs.Common.{◌≡◌, ◌∙◌, ap, sym, arith, ◌++◌, ◌∷◌, [], length, None}
use Rattle.hz_tree.specs.declared.place.Place.{Place}
use Rattle.hz_resolve.specs.Numbered.{uses_of}
use Rattle.hz_resolve.specs.Passes.{found_of, place_of_use}
use Rattle.hz_resolve.specs.Views.{known_use}
use Rattle.hz_resolve.proofs.Mapped.{mapped_at, mapped_next, mapped_all}
use Rattle.hz_resolve.proofs.places.all_places.Goals as goal

pub place-requires-clause-found : goal.place-requires-clause-found
place-requires-clause-found c =
    let table = c.args.table.now in
    mapped_at (found_of table) (uses_of table) c.args.found.now c.loop-number.number
    (known_use c.name-name.result.now) None
    c.requires.found c.name-name.ensures

pub loop-number-preserved : goal.loop-number-preserved
loop-number-preserved c =
    let table = c.args.table.now in
    mapped_next (place_of_use table) (uses_of table) c.loop-number.number (known_use c.name-name.result.now)
    c.loop-number.places.items c.push.new.self.items c.name-name.ensures c.loop-number.invariant
    (c.in_ok-push.ensures.items ∙ ap (λ (p : Place). c.loop-number.places.items ++ p ∷ []) c.place.ensures)

pub returns : goal.returns
returns c =
    let table = c.args.table.now in
    mapped_all (place_of_use table) (uses_of table) c.loop-number.number c.loop-number.places.items
    (omega (arith, c.len-number-end.ensures, c.loop-number-test.false)) c.loop-number.invariant
