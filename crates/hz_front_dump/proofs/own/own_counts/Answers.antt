use Rattle.std.proofs.Common.{◌≡◌, ◌∙◌}
use Rattle.hz_front_dump.proofs.Counted.{own_next}
use Rattle.hz_front_dump.proofs.own.own_counts.Goals as goal

pub loop-k-preserved : goal.loop-k-preserved
loop-k-preserved c =
    let source = c.args.index.now.source in
    let g = c.function.result.now in
    let places : c.in_ok-places.places ≡ source = c.in_ok-places.ensures ∙ c.source.ensures in
    own_next source c.loop-k.k g c.loop-k.owns.items c.take_inner.new.owns.items c.loop-k.invariant
    c.function.ensures c.take_inner.ensures.long (λ j l. rw (← places) (c.take_inner.ensures.each j l))
