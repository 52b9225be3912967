use Rattle.std.proofs.Common.{refl, ◌∷◌, []}
use Rattle.hermes.specs.Printing.{utf8, line_bytes}
use Rattle.hermes.proofs.Pieces.{sends_two, sends_first}
use Rattle.hermes.proofs.telling.send_description.Goals as goal

pub returns-in_err-send_text : goal.returns-in_err-send_text
returns-in_err-send_text g c =
    let sink = g.E.Sink in
    let a = (sink.told c.args.err.now).got in
    let b = (sink.told c.send_text.new.err).got in
    let m = sink.count c.args.err.now in
    let n = sink.count c.send_text.new.err in
    let text = utf8 c.args.description.now in
    sends_first a b b m n n text (10 ∷ []) (line_bytes c.args.description.now) c.from_residual.result
    c.from_residual.ensures.0 refl c.in_err-send_text.ensures

pub returns : goal.returns
returns g c =
    let sink = g.E.Sink in
    let a = (sink.told c.args.err.now).got in
    let b = (sink.told c.send_text.new.err).got in
    let m = sink.count c.args.err.now in
    let n = sink.count c.send_text.new.err in
    let text = utf8 c.args.description.now in
    sends_two a b (sink.told c.send.new.err).got m n (sink.count c.send.new.err) text (10 ∷ [])
    (line_bytes c.args.description.now) c.send.result refl c.in_ok-send_text.ensures.0 c.in_ok-send_text.ensures.1
    c.send.ensures
