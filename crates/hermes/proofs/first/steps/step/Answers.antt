use Rattle.hermes.proofs.first_texts.reading.Steps.{at_state, at_part}
use Rattle.hermes.proofs.first.steps.step.Goals as goal

pub returns-in-Token-empty-default : goal.returns-in-Token-empty-default
returns-in-Token-empty-default c =
    at_state c.args.source.now c.args.at _ c.args.calls.now _ _ _ _ c.in-Token-empty-default.is
    (at_part c.args.source.now c.args.at _ c.args.calls.now _ c.in-Token-empty-default.field-0.now
    c.in-Token-empty-default.next _ c.in-Token-empty-default.len_below
    (c.behind_step.ensures c.args.source.now))

pub returns-in-Text : goal.returns-in-Text
returns-in-Text c = at_state c.args.source.now c.args.at _ c.args.calls.now _ _ _ _ c.in-Text.is c.text_step.ensures

pub returns-in-Number : goal.returns-in-Number
returns-in-Number c = at_state c.args.source.now c.args.at _ c.args.calls.now _ _ _ _ c.in-Number.is
    (c.value_step.ensures c.args.source.now)
