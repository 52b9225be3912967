use Rattle.std.proofs.Common.{◌≡◌, ◌+◌, arith, rules, sym, ◌∷◌, []}
use Rattle.std.specs.List.{slice_index_or}
use Rattle.hz_tree.specs.tokens.Tokens.{tokens}
use Rattle.hz_front_dump.proofs.Counted.{sums_next, sums_none, before_few, before_next, before_none}
use Rattle.hz_front_dump.proofs.places.sums.Goals as goal

pub loop-count-init : goal.loop-count-init
loop-count-init c =
    let ts = tokens c.args.source.now in
    let first : c.push.new.self.items ≡ 0 ∷ [] = search rules in
    (rw first (sums_none ts), sym (before_none ts))

pub overflow_add-total : goal.overflow_add-total
overflow_add-total c =
    let i = c.loop-count.count-index in
    let source = c.args.source.now in
    omega (
      arith,
      c.requires.each.each i c.loop-count-test.true,
      c.loop-count.invariant.1,
      before_next i (tokens source),
      before_few source (i + 1),
      c.requires.long,
    )

pub loop-count-preserved : goal.loop-count-preserved
loop-count-preserved c =
    let i = c.loop-count.count-index in
    let ts = tokens c.args.source.now in
    let n = slice_index_or c.args.starts.now i 0 in
    let at = c.requires.each.each i c.loop-count-test.true in (
      rw c.in_ok-push-2.ensures.items
          (sums_next ts i c.loop-count.total n c.loop-count.before.items c.loop-count.invariant.0
          c.loop-count.invariant.1 at),
      omega (arith, at, c.loop-count.invariant.1, before_next i ts),
    )
