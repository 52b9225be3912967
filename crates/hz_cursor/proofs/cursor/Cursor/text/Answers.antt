use Rattle.std.proofs.Common.{◌≤◌, ◌+◌, length, ap, sym, ◌∙◌, arith}
use Rattle.hz_tree.specs.reading.Reading.{text_ahead}
use Rattle.hz_cursor.proofs.CursorLemmas.{none_left, passed}
use Rattle.hz_cursor.proofs.cursor.Cursor.text.Goals as goal

pub overflow_add-at : goal.overflow_add-at
overflow_add-at c =
    let inside = (passed c.self.invariant _ (sym c.next.ensures ∙ c.in-Some.is)).inside in
    let short = c.self.invariant.short in
    rw c.lengthened.ensures (omega (arith, inside, short))

pub overflow_add-result : goal.overflow_add-result
overflow_add-result c =
    let inside = (passed c.self.invariant _ (sym c.next.ensures ∙ c.in-Some.is)).inside in
    let short = c.self.invariant.short in
    rw (c.lengthened.ensures, c.lengthened_behind-len.ensures) (omega (arith, inside, short))

pub slice_bounds-result-end : goal.slice_bounds-result-end
slice_bounds-result-end c =
    let inside = (passed c.self.invariant _ (sym c.next.ensures ∙ c.in-Some.is)).inside in
    let within : c.self.inside.end + c.lengthened.result + c.lengthened_behind-len.result
    ≤ length c.self.inside.source.now =
    rw (c.lengthened.ensures, c.lengthened_behind-len.ensures) (omega (arith, inside)) in
    within

pub returns-in-Some : goal.returns-in-Some
returns-in-Some c =
    let p = passed c.self.invariant _ (sym c.next.ensures ∙ c.in-Some.is) in
    rw (c.lengthened.ensures, c.lengthened_behind-len.ensures)
    (rw (p.ahead.place_is, p.ahead.len_is) at (sym p.lies.slice))
    ∙ ap text_ahead (sym p.ahead.is ∙ c.self.view_is)

pub returns-in-None : goal.returns-in-None
returns-in-None c =
    ap text_ahead (sym (none_left c.self.invariant (sym c.next.ensures ∙ c.in-None.is)) ∙ c.self.view_is)
