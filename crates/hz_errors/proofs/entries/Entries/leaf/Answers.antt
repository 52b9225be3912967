use Rattle.std.proofs.Common.{◌≡◌, ◌+◌, ◌≤◌, ◌∙◌, ap, sym, subst, arith, length, reverse, [], ◌∷◌}
use Rattle.std.proofs.lemmas.List.{length-append}
use Rattle.hz_errors.specs.declared.entries.Run.{Run}
use Rattle.hz_errors.specs.Runs.{shown, AreStacked}
use Rattle.hz_errors.proofs.RunLemmas.{shown_leaf, stacked_below, reversed}
use Rattle.hz_errors.proofs.entries.Entries.leaf.Goals as goal

pub invariant_of-self-in_err-push-2 : goal.invariant_of-self-in_err-push-2
invariant_of-self-in_err-push-2 c =
    let i = c.self.inside in
    let long : length i.places.items ≤ length c.push.new.self.items =
    omega (arith, ap length c.in_ok-push.ensures.items, length-append i.places.items (c.args.at ∷ [])) in
    subst (λ runs. AreStacked (length c.push.new.self.items) (reverse runs)) (sym c.in_err-push-2.ensures.items)
    (stacked_below (reverse i.runs.items) (length i.places.items) (length c.push.new.self.items) long c.self.invariant)

pub returns : goal.returns
returns c =
    let i = c.self.inside in
    let at = c.args.at in
    let run : Run = record { at = at; len = 1; end = c.len-end.result } in
    let end : c.len-end.result ≡ length i.places.items + 1 =
    omega (arith, c.len-end.ensures, c.in_ok-push.ensures.len) in
    ap (λ runs. shown runs c.push.new.self.items)
    (reversed i.runs.items c.push-2.new.self.items run c.in_ok-push-2.ensures.items)
    ∙ ap (shown (run ∷ reverse i.runs.items)) c.in_ok-push.ensures.items
    ∙ shown_leaf i.places.items (reverse i.runs.items) at c.len-end.result c.self.invariant end
    ∙ ap (λ entries. record { at = at; levels = at ∷ [] } ∷ entries) c.self.view_is
