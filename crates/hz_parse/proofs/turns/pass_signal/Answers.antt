use Rattle.std.proofs.Common.{ap, subst, sym}
use Rattle.hz_tree.specs.declared.symbol.Symbol.TheVariants as s
use Rattle.hz_parse.specs.Turns.{Ready, Turned}
use Rattle.hz_parse.proofs.Tokens.{on_ok}
use Rattle.hz_parse.proofs.turns.pass_signal.Goals as goal

pub returns-in-Enter : goal.returns-in-Enter
returns-in-Enter c =
    λ steps ready. subst (λ symbol. Turned symbol c.args.reader.now c.args.place.now steps c.pass_function.new.reader
    c.pass_function.new.place steps) (sym (ap s.Tell c.in-Enter.is))
    (c.pass_function.ensures steps
    (subst (λ symbol. Ready symbol c.args.reader.now c.args.place.now steps) (ap s.Tell c.in-Enter.is) ready))

pub returns-in_default : goal.returns-in_default
returns-in_default c =
    on_ok c.tell_signal.result c.tell_signal.ensures (λ h steps ready. h steps)
