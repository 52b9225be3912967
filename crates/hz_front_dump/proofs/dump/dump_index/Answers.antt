use Rattle.std.proofs.Common.{◌<◌, ◌≤◌, length, arith, []}
use Rattle.std.proofs.lemmas.List.{get_or_read}
use Rattle.hz_tree.specs.sources.Refusals.{functions}
use Rattle.hz_front_dump.proofs.Written.{dump_next, dump_ends}
use Rattle.hz_front_dump.proofs.dump.dump_index.Goals as goal

pub loop-k-preserved : goal.loop-k-preserved
loop-k-preserved c =
    let source = c.args.index.now.source in
    let owns = c.in_ok-owns.owns.items in
    let has = c.in_ok-owns.ensures in
    let k = c.loop-k.k in
    let inside : k < length owns = omega (arith, c.loop-k-test.true, c.count-k-end.ensures, has.long) in
    let read = get_or_read owns k c.index.result.now inside c.index.ensures 0 in
    dump_next source k c.index.result.now owns [] c.loop-k.text.items c.push_lines.new.text.items has read
    c.loop-k.invariant c.in_ok-push_lines.ensures

pub returns : goal.returns
returns c =
    let source = c.args.index.now.source in
    let ends : length (functions source) ≤ c.loop-k.k = omega (arith, c.loop-k-test.false, c.count-k-end.ensures) in
    dump_ends source c.loop-k.k c.loop-k.text.items ends c.loop-k.invariant
