use Rattle.hz_parse.proofs.Tokens.{on_ok}
use Rattle.hz_parse.proofs.TurnSteps.{taken_turn, token_of}
use Rattle.hz_parse.proofs.turns.take_token.Goals as goal

pub take-requires-clause-here : goal.take-requires-clause-here
take-requires-clause-here g c =
    let t = token_of c.args.wanted c.args.reader.now c.args.place.now c.args.steps.now c.requires.token c.requires.ready in
    (t.token, t.rest, t.got)

pub returns : goal.returns
returns g c =
    let t = token_of c.args.wanted c.args.reader.now c.args.place.now c.args.steps.now c.requires.token c.requires.ready in
    on_ok c.take.result c.take.ensures
    (λ h. taken_turn c.args.wanted c.args.reader.now c.args.place.now c.take.new.place c.args.steps.now
    c.take.new.steps t.token t.rest c.take.new.parts c.requires.token t.got (h t.token t.rest t.got))
