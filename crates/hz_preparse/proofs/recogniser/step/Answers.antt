use Rattle.hz_preparse.proofs.Steps.{take_steps, read_steps, tell_steps}
use Rattle.hz_preparse.proofs.recogniser.step.Goals as goal

pub returns-in-Take : goal.returns-in-Take
returns-in-Take c =
    take_steps c.args.symbol c.in-Take.wanted c.take.result c.args.stack.now c.args.cursor.now c.take.new.cursor
    c.args.heard.now c.in-Take.is c.take.ensures

pub returns-in-Read : goal.returns-in-Read
returns-in-Read c =
    read_steps c.args.symbol c.in-Read.nonterminal c.read.result c.args.stack.now c.read.new.stack c.args.cursor.now
    c.args.heard.now c.in-Read.is c.read.ensures

pub returns : goal.returns
returns c =
    tell_steps c.args.symbol c.in-Tell.signal c.args.stack.now c.args.cursor.now c.args.heard.now c.tell.new.heard
    c.in-Tell.is c.in_ok-tell-in-Tell.ensures
