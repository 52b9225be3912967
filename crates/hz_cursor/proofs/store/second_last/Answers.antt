use Rattle.std.proofs.Common.{◌≡◌, ◌<◌, ◌-◌, length, ap, ◌∙◌, arith}
use Rattle.std.proofs.Math.ListN.{get_or}
use Rattle.hz_cursor.proofs.StoreLemmas.{second_last_is}
use Rattle.hz_cursor.proofs.store.second_last.Goals as goal

pub returns-in-Some : goal.returns-in-Some
returns-in-Some c =
    let xs = c.args.long.now.items in
    let count = c.len-count.ensures in
    let past = c.if-count-lt2.false in
    second_last_is xs (c.len-count.result - 2) c.in-Some.number.now (omega (arith, count, past))
    (omega (arith, count))
    (c.in-Some.ensures.lookup.3.1 0 ∙ ap (λ ys. get_or ys (c.len-count.result - 2) 0) c.deref.ensures.value)
