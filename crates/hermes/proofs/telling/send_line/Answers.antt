use Rattle.std.proofs.Common.{◌≡◌, ◌∙◌, ap, sym, ◌++◌}
use Rattle.hermes.specs.Statuses.{behind_front, line_of}
use Rattle.hermes.proofs.Pieces.{sends_two, sends_first}
use Rattle.hermes.proofs.telling.send_line.Goals as goal

pub returns-in_err-send : goal.returns-in_err-send
returns-in_err-send g c =
    let sink = g.E.Sink in
    let a = (sink.told c.args.err.now).got in
    let b = (sink.told c.send.new.err).got in
    let m = sink.count c.args.err.now in
    let n = sink.count c.send.new.err in
    let s = c.args.status.now in
    let parts : line_of s ≡ c.as_slice.result.now ++ behind_front s =
    c.front.ensures ∙ ap (λ bytes. bytes ++ behind_front s) (sym c.as_slice.ensures.value) in
    sends_first a b b m n n c.as_slice.result.now (behind_front s) (line_of s) c.from_residual.result
    c.from_residual.ensures.0 parts c.in_err-send.ensures

pub returns : goal.returns
returns g c =
    let sink = g.E.Sink in
    let a = (sink.told c.args.err.now).got in
    let b = (sink.told c.send.new.err).got in
    let m = sink.count c.args.err.now in
    let n = sink.count c.send.new.err in
    let s = c.args.status.now in
    let parts : line_of s ≡ c.as_slice.result.now ++ behind_front s =
    c.front.ensures ∙ ap (λ bytes. bytes ++ behind_front s) (sym c.as_slice.ensures.value) in
    sends_two a b (sink.told c.send_behind_front.new.err).got m n (sink.count c.send_behind_front.new.err)
    c.as_slice.result.now (behind_front s) (line_of s) c.send_behind_front.result parts
    c.in_ok-send.ensures.0 c.in_ok-send.ensures.1 c.send_behind_front.ensures
