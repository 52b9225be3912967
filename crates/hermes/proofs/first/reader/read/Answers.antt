use Rattle.std.proofs.Common.{arith, length, ◌≡◌, sym, subst, ◌∙◌}
use Rattle.std.proofs.lemmas.Result.{err_from_is_err_and}
use Rattle.hermes.specs.first.Texts.{IsStuck}
use Rattle.hermes.specs.first.Reading.{IsRead}
use Rattle.hermes.proofs.first_texts.reading.Reached.{read_next, failed, between, not_between, unfinished}
use Rattle.hermes.proofs.first_texts.reading.Opening.{first_read, first_failed}
use Rattle.hermes.proofs.first.reader.read.Goals as goal

pub returns-in_err-state : goal.returns-in_err-state
returns-in_err-state c =
    let p = err_from_is_err_and c.from_residual-in_err-state.result c.from_residual-in_err-state.ensures.1 in
    rw (p.1, p.2) (failed c.args.strict c.args.source.now c.loop-at.at c.loop-at.state c.loop-at.calls c.step.new.calls
    c.in_err-state.field-0.0 (omega arith) c.loop-at.invariant c.in_err-state.ensures)

pub returns-in_err-first : goal.returns-in_err-first
returns-in_err-first c =
    let p = err_from_is_err_and c.from_residual.result c.from_residual.ensures.1 in
    rw (p.1, p.2) (first_failed c.args.strict c.args.source.now c.in_err-first.field-0.0 c.requires
    (c.in_err-first.ensures c.args.source.now))

pub returns-then-is_between_calls : goal.returns-then-is_between_calls
returns-then-is_between_calls c =
    between c.args.strict c.args.source.now c.loop-at.at c.loop-at.state c.loop-at.calls (omega arith)
    (sym c.is_between_calls.ensures ∙ c.if-is_between_calls.true) c.loop-at.invariant

pub returns : goal.returns
returns c =
    let size : c.loop-at.at ≡ length c.args.source.now = omega arith in
    subst (IsStuck c.args.strict c.args.source.now) size
    (unfinished c.args.strict c.args.source.now c.loop-at.at c.loop-at.state c.loop-at.calls size c.loop-at.invariant
    (λ calls x. not_between c.args.source.now c.loop-at.at c.loop-at.state c.loop-at.calls calls
    (sym c.is_between_calls.ensures ∙ c.if-is_between_calls.false) x))

pub loop-at-init : goal.loop-at-init
loop-at-init c =
    let x = c.in_ok-first.ensures c.args.source.now in
    let read = first_read c.args.strict c.args.source.now c.in_ok-first.first c.requires x.0 x.1 in
    subst (IsRead c.args.strict c.args.source.now 1 c.in_ok-first.first) (sym c.new-calls.ensures) read

pub loop-at-preserved : goal.loop-at-preserved
loop-at-preserved c =
    let x = c.in_ok-state.ensures in
    read_next c.args.strict c.args.source.now c.loop-at.at c.loop-at.state c.in_ok-state.state c.loop-at.calls
    c.step.new.calls (omega arith) c.loop-at.invariant x.0 x.1
