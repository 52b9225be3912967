use Rattle.std.proofs.Common.{◌+◌, ◌≤◌, refl, ap, sym, ◌∙◌, reverse, arith}
use Rattle.hz_tree.specs.reading.Reading.{takes}
use Rattle.hz_tree.specs.sources.Refusals.{max_length}
use Rattle.hz_cursor.specs.Stored.{first_two}
use Rattle.hz_cursor.proofs.CursorLemmas.{none_left, ends_inside, one_more, goes_on, eats, eats_not}
use Rattle.hz_cursor.proofs.cursor.Cursor.eat.Goals as goal

pub overflow_add-self : goal.overflow_add-self
overflow_add-self c =
    let inside : c.self.inside.end + (c.go_past-gap.result.0 + c.go_past-gap.result.1) ≤ max_length
    = ends_inside c.self.invariant c.in-Some.one (sym c.next.ensures ∙ c.in-Some.is) c.go_past-gap.ensures in
    omega (arith, inside)

pub overflow_add-self-in-Some : goal.overflow_add-self-in-Some
overflow_add-self-in-Some c =
    let inside : c.self.inside.end + (c.go_past-gap.result.0 + c.go_past-gap.result.1) ≤ max_length
    = ends_inside c.self.invariant c.in-Some.one (sym c.next.ensures ∙ c.in-Some.is) c.go_past-gap.ensures in
    omega (arith, inside)

pub rest-requires : goal.rest-requires
rest-requires c = one_more c.self.invariant c.in-Some.one (sym c.next.ensures ∙ c.in-Some.is)

pub invariant_of-self : goal.invariant_of-self
invariant_of-self c =
    goes_on c.self.invariant c.in-Some.one (sym c.next.ensures ∙ c.in-Some.is) c.go_past-gap.ensures _
    (c.first_two-self-inside.ensures ∙ ap (λ ts. first_two ts (reverse c.go_past-gap.new.arrows.items)) c.rest.ensures)

pub returns-in-Some : goal.returns-in-Some
returns-in-Some c =
    let found =
    eats c.self.invariant c.in-Some.one (sym c.next.ensures ∙ c.in-Some.is) c.go_past-gap.ensures c.args.wanted
    (sym c.fits.ensures ∙ c.if-fits.true) in
    (found.0, ap (takes c.args.wanted) (sym c.self.view_is) ∙ found.1)

pub returns-in_default : goal.returns-in_default
returns-in_default c =
    let stops =
    eats_not c.self.invariant c.in-Some.one (sym c.next.ensures ∙ c.in-Some.is) c.args.wanted
    (sym c.fits.ensures ∙ c.if-fits.false) in
    (rw c.self.view_is at stops, refl)

pub returns-in_default-2 : goal.returns-in_default-2
returns-in_default-2 c =
    let none = none_left c.self.invariant (sym c.next.ensures ∙ c.in_default.is) in
    let now_none = sym c.self.view_is ∙ none in
    (rw now_none refl, refl)
