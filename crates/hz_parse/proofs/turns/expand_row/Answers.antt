use Rattle.hz_parse.proofs.Tokens.{on_ok}
use Rattle.hz_parse.proofs.TurnSteps.{expanded_turn, some_row}
use Rattle.hz_parse.proofs.turns.expand_row.Goals as goal

pub expand-requires : goal.expand-requires
expand-requires c =
    some_row c.args.reader.now c.args.place.now c.requires.0 c.args.nonterminal c.look_for-look.result c.requires.1
    c.look_for-look.ensures

pub returns : goal.returns
returns c =
    let one = some_row c.args.reader.now c.args.place.now c.requires.0 c.args.nonterminal c.look_for-look.result
    c.requires.1 c.look_for-look.ensures in
    on_ok c.expand.result c.expand.ensures
    (λ h steps ready. expanded_turn c.args.nonterminal c.look_for-look.result c.args.reader.now c.args.place.now steps
    one.0 c.expand.new.symbols c.expand.new.marks ready c.look_for-look.ensures one.1 (h one.0 one.1))
