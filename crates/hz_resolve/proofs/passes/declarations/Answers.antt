use Rattle.std.proofs.Common.{◌≡◌, ◌∙◌, ap, sym, arith, ◌++◌, ◌∷◌, [], length, ℕ, Option}
use Rattle.hz_resolve.specs.Numbered.{uses_of}
use Rattle.hz_resolve.specs.Passes.{found_of}
use Rattle.hz_resolve.specs.Views.{known_use}
use Rattle.hz_resolve.proofs.Mapped.{mapped_next, mapped_all}
use Rattle.hz_resolve.proofs.passes.declarations.Goals as goal

pub loop-number-preserved : goal.loop-number-preserved
loop-number-preserved c =
    let table = c.args.table.now in
    mapped_next (found_of table) (uses_of table) c.loop-number.number (known_use c.name.result.now)
    c.loop-number.found.items c.push.new.self.items c.name.ensures c.loop-number.invariant
    (c.in_ok-push.ensures.items ∙ ap (λ (o : Option ℕ). c.loop-number.found.items ++ o ∷ []) c.find.ensures)

pub returns : goal.returns
returns c =
    let table = c.args.table.now in
    mapped_all (found_of table) (uses_of table) c.loop-number.number c.loop-number.found.items
    (omega (arith, c.len-number-end.ensures, c.loop-number-test.false)) c.loop-number.invariant
