use Rattle.std.proofs.Common.{◌≡◌, ◌+◌, ◌-◌, ◌≤◌, ◌∙◌, ap, sym, subst, refl, arith, take, length, reverse, List, [], ◌∷◌, ◌++◌}
use Rattle.std.proofs.lemmas.List.{length-take}
use Rattle.hz_errors.specs.declared.entries.Run.{Run}
use Rattle.hz_errors.specs.Levels.{node_entries}
use Rattle.hz_errors.specs.Runs.{shown, AreStacked}
use Rattle.hz_errors.proofs.RunLemmas.{shown_node, stacked_below, reversed}
use Rattle.hz_errors.proofs.entries.Entries.node.Goals as goal

pub invariant_of-self-in_err-push : goal.invariant_of-self-in_err-push
invariant_of-self-in_err-push c =
    let i = c.self.inside in
    let run = c.in-Some.run' in
    let rest : List Run = reverse c.pop.new.self.items in
    let all : reverse i.runs.items ≡ run ∷ rest =
    reversed c.pop.new.self.items i.runs.items run c.in-Some.ensures.items in
    let stack : AreStacked (length i.places.items) (run ∷ rest) =
    subst (AreStacked (length i.places.items)) all c.self.invariant in
    let long : run.end - run.len ≤ length (take run.end i.places.items) =
    omega (arith, length-take run.end i.places.items, stack.0) in
    subst (λ xs. AreStacked (length xs) rest) (sym (c.in_err-push.ensures.items ∙ c.truncate.ensures.items))
    (stacked_below rest (run.end - run.len) (length (take run.end i.places.items)) long stack.2)

pub returns : goal.returns
returns c =
    let i = c.self.inside in
    let run = c.in-Some.run' in
    let rest : List Run = reverse c.pop.new.self.items in
    let next : Run = record { at = run.at; len = run.len + 1; end = c.len-end.result } in
    let all : reverse i.runs.items ≡ run ∷ rest =
    reversed c.pop.new.self.items i.runs.items run c.in-Some.ensures.items in
    let stack : AreStacked (length i.places.items) (run ∷ rest) =
    subst (AreStacked (length i.places.items)) all c.self.invariant in
    let places = c.in_ok-push.ensures.items ∙ ap (λ xs. xs ++ run.at ∷ []) c.truncate.ensures.items in
    let end : c.len-end.result ≡ run.end + 1 =
    omega (arith, stack.0, c.len-end.ensures, c.in_ok-push.ensures.len, c.truncate.ensures.len) in
    ap (λ runs. shown runs c.push.new.self.items)
    (reversed c.pop.new.self.items c.push-2.new.self.items next c.in_ok-push-2.ensures.items)
    ∙ ap (shown (next ∷ rest)) places
    ∙ shown_node i.places.items rest run next stack refl refl end
    ∙ ap (λ runs. node_entries (shown runs i.places.items)) (sym all)
    ∙ ap node_entries c.self.view_is
