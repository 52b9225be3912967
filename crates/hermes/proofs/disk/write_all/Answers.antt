use Rattle.std.proofs.Common.{◌≤◌, length, take, drop, subst, arith}
use Rattle.std.proofs.lemmas.List.{take_rest, length-drop}
use Rattle.std.specs.Io.KnownBytes.{Appends}
use Rattle.hermes.proofs.Streams.{appends_at}
use Rattle.hermes.proofs.disk.write_all.Goals as goal

pub loop-preserved : goal.loop-preserved
loop-preserved g c =
    let write = g.W.Write in
    let bytes = c.args.bytes.now in
    let n = c.in_ok-n.n in
    let now = write.contents c.write_some.new.stream in
    let fits : n ≤ length (drop c.loop.at bytes) =
    subst (λ rest. n ≤ length rest) (take_rest bytes c.loop.at) c.in_ok-n.ensures.bound in
    let more : Appends (write.contents c.loop.stream) now (take n (drop c.loop.at bytes)) =
    subst (λ rest. Appends (write.contents c.loop.stream) now (take n rest)) (take_rest bytes c.loop.at)
    c.in_ok-n.ensures.bytes in (
      omega (arith, fits, length-drop c.loop.at bytes, c.loop.invariant.0),
      appends_at (write.contents c.args.stream.now) (write.contents c.loop.stream) now bytes c.loop.at n
          c.loop.invariant.1 more,
    )
