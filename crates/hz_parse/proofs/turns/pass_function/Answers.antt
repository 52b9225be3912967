use Rattle.hz_parse.proofs.TurnSteps.{passed_turn, passing_from}
use Rattle.hz_parse.proofs.turns.pass_function.Goals as goal

pub pass-requires-clause-here : goal.pass-requires-clause-here
pass-requires-clause-here c =
    let r = c.requires.1 in (
      c.args.reader.now.parts,
      _,
      c.in-Some.ensures,
      passing_from c.args.reader.now c.args.place.now c.requires.0 r.last r.whole r.total r.going,
    )

pub returns : goal.returns
returns c =
    λ steps ready. passed_turn c.args.reader.now c.args.place.now c.pass.new.place steps c.pass.new.symbols ready
    (λ l. c.pass.ensures c.args.reader.now.parts _ c.in-Some.ensures l)
