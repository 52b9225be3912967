use Rattle.std.proofs.Common.{sym, subst}
use Rattle.hz_tree.specs.declared.symbol.Symbol.TheVariants as s
use Rattle.hz_parse.specs.Turns.{Turned}
use Rattle.hz_parse.proofs.Tokens.{on_ok}
use Rattle.hz_parse.proofs.TurnSteps.{told_turn}
use Rattle.hz_parse.proofs.turns.tell_signal.Goals as goal

pub returns : goal.returns
returns c =
    on_ok c.tell.result c.tell.ensures
    (λ h steps. subst (λ opened. Turned (s.Tell c.args.signal) c.args.reader.now c.args.place.now steps
    (record c.args.reader.now { opened = opened; parts = c.tell.new.parts }) c.args.place.now steps)
    (sym c.opened_behind-reader.ensures)
    (told_turn c.args.signal c.args.reader.now c.args.place.now steps c.tell.new.parts c.requires h))
