use Rattle.std.proofs.Common.{subst, sym}
use Rattle.hz_parse.specs.Turns.{Ready, Turned}
use Rattle.hz_parse.proofs.Tokens.{on_ok}
use Rattle.hz_parse.proofs.turns.turn.Goals as goal

pub returns-in-Read : goal.returns-in-Read
returns-in-Read g c =
    on_ok c.expand_row.result c.expand_row.ensures
    (λ h. subst (λ symbol. Turned symbol c.args.reader.now c.args.place.now c.args.steps.now c.expand_row.new.reader
    c.args.place.now c.args.steps.now) (sym c.in-Read.is)
    (h c.args.steps.now
    (subst (λ symbol. Ready symbol c.args.reader.now c.args.place.now c.args.steps.now) c.in-Read.is c.requires)))

pub returns-in-Tell : goal.returns-in-Tell
returns-in-Tell g c =
    on_ok c.pass_signal.result c.pass_signal.ensures
    (λ h. subst (λ symbol. Turned symbol c.args.reader.now c.args.place.now c.args.steps.now c.pass_signal.new.reader
    c.pass_signal.new.place c.args.steps.now) (sym c.in-Tell.is)
    (h c.args.steps.now
    (subst (λ symbol. Ready symbol c.args.reader.now c.args.place.now c.args.steps.now) c.in-Tell.is c.requires)))
