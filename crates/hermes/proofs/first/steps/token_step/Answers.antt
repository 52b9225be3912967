use Rattle.hermes.proofs.first_texts.reading.Tokens.{call_moves, call_halts, open_moves, open_halts, close_moves}
use Rattle.hermes.proofs.first_texts.reading.Tokens.{close_halts, end_moves, end_halts}
use Rattle.hermes.proofs.first_texts.reading.Steps.{advance_step, at_next}
use Rattle.hermes.proofs.first.steps.token_step.Goals as goal

pub returns-in-Call : goal.returns-in-Call
returns-in-Call c = λ source.
    at_next source c.args.at c.args.byte _ _ _ _ _ c.in-Call.is
    (advance_step _ source c.args.at c.args.byte 112 _ _ _ c.advance.ensures tt (call_moves c.args.calls.now)
    (call_halts _ _ c.requires.solid))

pub returns-in-Open : goal.returns-in-Open
returns-in-Open c = λ source.
    at_next source c.args.at c.args.byte _ _ _ _ _ c.in-Open.is
    (advance_step _ source c.args.at c.args.byte 40 _ _ _ c.advance-in-Open.ensures tt (open_moves c.args.calls.now)
    (open_halts _ _ c.requires.solid))

pub returns-in-Close : goal.returns-in-Close
returns-in-Close c = λ source.
    at_next source c.args.at c.args.byte _ _ _ _ _ c.in-Close.is
    (advance_step _ source c.args.at c.args.byte 41 _ _ _ c.advance-in-Close.ensures tt (close_moves c.args.calls.now)
    (close_halts _ _ c.requires.solid))

pub returns-in-End : goal.returns-in-End
returns-in-End c = λ source.
    at_next source c.args.at c.args.byte _ _ _ _ _ c.in-End.is
    (advance_step _ source c.args.at c.args.byte 59 _ _ _ c.advance-in-End.ensures tt (end_moves c.args.calls.now)
    (end_halts _ _ c.requires.solid))

pub returns-in-Argument : goal.returns-in-Argument
returns-in-Argument c = λ source. at_next source c.args.at c.args.byte _ _ _ _ _ c.in-Argument.is
    (c.argument_step.ensures source c.args.calls.now)

pub returns-in-Number : goal.returns-in-Number
returns-in-Number c = λ source. at_next source c.args.at c.args.byte _ _ _ _ _ c.in-Number.is
    (c.number_step.ensures source c.args.calls.now)

pub returns-in-Operator : goal.returns-in-Operator
returns-in-Operator c = λ source. at_next source c.args.at c.args.byte _ _ _ _ _ c.in-Operator.is
    (c.sum_step.ensures source)
