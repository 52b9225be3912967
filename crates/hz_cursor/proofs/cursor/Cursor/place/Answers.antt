use Rattle.std.proofs.Common.{ap, sym, ◌∙◌, arith}
use Rattle.hz_tree.specs.reading.Reading.{place_ahead}
use Rattle.hz_cursor.proofs.CursorLemmas.{none_left, passed}
use Rattle.hz_cursor.proofs.cursor.Cursor.place.Goals as goal

pub overflow_add-result : goal.overflow_add-result
overflow_add-result c =
    let inside = (passed c.self.invariant _ (sym c.next.ensures ∙ c.in-Some.is)).inside in
    let short = c.self.invariant.short in
    rw c.lengthened.ensures (omega (arith, inside, short))

pub returns-in-Some : goal.returns-in-Some
returns-in-Some c =
    let p = passed c.self.invariant _ (sym c.next.ensures ∙ c.in-Some.is) in
    rw c.lengthened.ensures (sym p.ahead.place_is) ∙ ap place_ahead (sym p.ahead.is ∙ c.self.view_is)

pub returns-in-None : goal.returns-in-None
returns-in-None c =
    ap place_ahead (sym (none_left c.self.invariant (sym c.next.ensures ∙ c.in-None.is)) ∙ c.self.view_is)
