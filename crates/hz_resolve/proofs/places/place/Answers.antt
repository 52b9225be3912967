use Rattle.std.proofs.Common.{◌≡◌, ◌∙◌, sym}
use Rattle.hz_resolve.specs.Views.{known_use}
use Rattle.hz_resolve.proofs.Counted.{place_none, place_some}
use Rattle.hz_resolve.proofs.Sites.{found_inside}
use Rattle.hz_resolve.proofs.places.place.Goals as goal

pub declared_place-requires-clause-inside : goal.declared_place-requires-clause-inside
declared_place-requires-clause-inside c =
    found_inside c.args.table.now (known_use c.args.name.now) c.in-Some.declared (sym c.requires.found ∙ c.in-Some.is)

pub returns-in-None : goal.returns-in-None
returns-in-None c =
    c.undeclared.ensures
    ∙ sym (place_none c.args.table.now (known_use c.args.name.now) (sym c.requires.found ∙ c.in-None.is))

pub returns-in-Some : goal.returns-in-Some
returns-in-Some c =
    place_some c.args.table.now (known_use c.args.name.now) c.in-Some.declared c.declared_place.result
    (sym c.requires.found ∙ c.in-Some.is) c.declared_place.ensures
