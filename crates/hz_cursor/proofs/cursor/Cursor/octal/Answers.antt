use Rattle.std.proofs.Common.{ap, sym, ◌∙◌}
use Rattle.hz_tree.specs.reading.Reading.{octal_ahead}
use Rattle.hz_cursor.proofs.CursorLemmas.{none_left, passed}
use Rattle.hz_cursor.proofs.cursor.Cursor.octal.Goals as goal

pub returns-in-Some : goal.returns-in-Some
returns-in-Some c =
    let p = passed c.self.invariant _ (sym c.next.ensures ∙ c.in-Some.is) in
    sym p.ahead.octal_is ∙ ap octal_ahead (sym p.ahead.is ∙ c.self.view_is)

pub returns-in-None : goal.returns-in-None
returns-in-None c =
    ap octal_ahead (sym (none_left c.self.invariant (sym c.next.ensures ∙ c.in-None.is)) ∙ c.self.view_is)
