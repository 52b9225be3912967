use Rattle.std.proofs.Common.{◌≡◌, ◌∙◌, ap, sym, arith, length, ℕ, Option, None, Some, ◌≤◌, get_or, ◌++◌, ◌∷◌, [], Bool}
use Rattle.std.proofs.lemmas.List.{length-map}
use Rattle.std.specs.List.{slice_get}
use Rattle.hz_resolve.specs.Numbered.{uses_of}
use Rattle.hz_resolve.specs.Passes.{found_of, has_slot_of}
use Rattle.hz_resolve.specs.Views.{known_use}
use Rattle.hz_resolve.proofs.Mapped.{mapped_at, mapped_next, mapped_all, has_slot_is}
use Rattle.hz_resolve.proofs.Sites.{found_inside}
use Rattle.hz_resolve.proofs.passes.slot_tests.Goals as goal

pub has_slot-requires : goal.has_slot-requires
has_slot-requires c = λ q e.
    let table = c.args.table.now in
    let u = known_use c.name-name.result.now in
    let found = mapped_at (found_of table) (uses_of table) c.args.found.now c.loop-number.number u None c.requires.found
    c.name-name.ensures in
    omega (arith, found_inside table u q (sym found ∙ e), c.requires.long)

pub loop-number-preserved : goal.loop-number-preserved
loop-number-preserved c =
    let table = c.args.table.now in
    let k = c.loop-number.number in
    let u = known_use c.name-name.result.now in
    let found = mapped_at (found_of table)
    (uses_of table) c.args.found.now k u None c.requires.found c.name-name.ensures in
    mapped_next (has_slot_of table) (uses_of table) k u c.loop-number.tests.items c.push.new.self.items
    c.name-name.ensures c.loop-number.invariant
    (c.in_ok-push.ensures.items
    ∙ ap (λ (b : Bool). c.loop-number.tests.items ++ b ∷ [])
    (c.has_slot.ensures ∙ has_slot_is table u (get_or c.args.found.now k None) c.args.taken.now found c.requires.each))

pub returns-clause-tests : goal.returns-clause-tests
returns-clause-tests c =
    let table = c.args.table.now in
    mapped_all (has_slot_of table) (uses_of table) c.loop-number.number c.loop-number.tests.items
    (omega (arith, c.len-number-end.ensures, c.loop-number-test.false)) c.loop-number.invariant

pub returns-clause-few : goal.returns-clause-few
returns-clause-few c =
    let table = c.args.table.now in
    let all = mapped_all (has_slot_of table) (uses_of table) c.loop-number.number c.loop-number.tests.items
    (omega (arith, c.len-number-end.ensures, c.loop-number-test.false)) c.loop-number.invariant in
    omega (
      arith,
      ap length all,
      length-map (uses_of table) (has_slot_of table),
      c.len-number-end.ensures,
      c.len-number-end.type_inv,
    )
