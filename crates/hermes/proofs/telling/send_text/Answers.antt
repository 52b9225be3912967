use Rattle.std.proofs.Common.{◌≡◌, ◌∙◌, sym, subst, []}
use Rattle.hermes.specs.Printing.{utf8}
use Rattle.hermes.proofs.Characters.{text_at_end}
use Rattle.hermes.proofs.Pieces.{SentBefore, sent_more, sends_front, sent_all}
use Rattle.hermes.proofs.telling.send_text.Goals as goal

pub returns-in_err-send : goal.returns-in_err-send
returns-in_err-send g c =
    let sink = g.E.Sink in
    let a = (sink.told c.args.err.now).got in
    let b = (sink.told c.loop-rest.err).got in
    let m = sink.count c.args.err.now in
    let n = sink.count c.loop-rest.err in
    let whole = utf8 c.args.units.now in
    let piece = c.piece_of-piece.result.0.bytes in
    let rest = utf8 c.piece_of-piece.result.1.now in
    let bytes : c.as_bytes.result.now ≡ piece = c.as_bytes.ensures.value ∙ c.as_str.ensures.value in
    sends_front a b (sink.told c.send.new.err).got m n (sink.count c.send.new.err) c.from_residual.result piece rest whole
    c.from_residual.ensures.0
    (subst (λ left. SentBefore a b m n left whole) c.piece_of-piece.ensures.bytes c.loop-rest.invariant)
    (rw bytes at c.in_err-send.ensures)

pub loop-rest-preserved : goal.loop-rest-preserved
loop-rest-preserved g c =
    let sink = g.E.Sink in
    let a = (sink.told c.args.err.now).got in
    let b = (sink.told c.loop-rest.err).got in
    let m = sink.count c.args.err.now in
    let n = sink.count c.loop-rest.err in
    let whole = utf8 c.args.units.now in
    let piece = c.piece_of-piece.result.0.bytes in
    let rest = utf8 c.piece_of-piece.result.1.now in
    let bytes : c.as_bytes.result.now ≡ piece = c.as_bytes.ensures.value ∙ c.as_str.ensures.value in
    sent_more a b (sink.told c.send.new.err).got m n (sink.count c.send.new.err) piece rest whole
    (subst (λ left. SentBefore a b m n left whole) c.piece_of-piece.ensures.bytes c.loop-rest.invariant)
    (rw bytes at c.in_ok-send.ensures).0 (rw bytes at c.in_ok-send.ensures).1

pub returns : goal.returns
returns g c =
    let sink = g.E.Sink in
    let a = (sink.told c.args.err.now).got in
    let b = (sink.told c.loop-rest.err).got in
    let m = sink.count c.args.err.now in
    let n = sink.count c.loop-rest.err in
    let whole = utf8 c.args.units.now in
    let none : utf8 c.loop-rest.rest.now ≡ [] =
    text_at_end c.loop-rest.rest.now (sym c.is_empty.ensures ∙ c.loop-rest-test.false) in
    sent_all a b m n whole (subst (λ left. SentBefore a b m n left whole) none c.loop-rest.invariant)
