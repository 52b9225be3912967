use Rattle.std.proofs.Common.{rules, ◌≡◌, [], ◌∷◌, ◌++◌}
use Rattle.std.proofs.Common.{take, ap, sym, ◌∙◌, append_assoc, Some, slice_get}
use Rattle.hermes.proofs.first_texts.running.Lines.{take_one}
use Rattle.hermes.proofs.first.run.line.push_view.Goals as goal

-- src/first/run/line.rt:18:5
pub loop-i-preserved : goal.loop-i-preserved
loop-i-preserved c =
    let e : slice_get c.args.text.now c.loop-i.i ≡ Some c.in-Some.unit = search rules in
    let pushed : c.push.new.self.items ≡ c.loop-i.line.items ++ c.in-Some.unit ∷ [] = search rules in
    pushed ∙ ap (λ l. l ++ c.in-Some.unit ∷ []) c.loop-i.invariant
    ∙ append_assoc c.args.line.now.items (take c.loop-i.i c.args.text.now) (c.in-Some.unit ∷ [])
    ∙ ap (λ t. c.args.line.now.items ++ t) (sym (take_one c.args.text.now c.loop-i.i c.in-Some.unit e))
