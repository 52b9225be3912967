use Rattle.std.proofs.Common.{◌≡◌, [], arith, ◌∙◌}
use Rattle.std.proofs.lemmas.Grind.{common_steps}
use Rattle.hz_cursor.proofs.AnswerLemmas.{back_all}
use Rattle.hz_cursor.proofs.arrows.flags_of.Goals as goal

pub returns : goal.returns
returns c =
    let empty : c.loop-mark.marks.items ≡ [] = grind (arith, common_steps) in
    let so_far = c.loop-mark.invariant in
    rw empty at so_far ∙ back_all c.args.marks.items
