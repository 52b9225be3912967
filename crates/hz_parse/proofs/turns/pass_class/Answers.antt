use Rattle.std.proofs.Common.{ap, subst, sym}
use Rattle.hz_tree.specs.declared.symbol.Symbol.TheVariants as s
use Rattle.hz_parse.specs.Turns.{Ready, Turned}
use Rattle.hz_parse.proofs.Tokens.{on_ok}
use Rattle.hz_parse.proofs.turns.pass_class.Goals as goal

pub returns-in-Malformed : goal.returns-in-Malformed
returns-in-Malformed g c =
    on_ok c.make_row.result c.make_row.ensures
    (λ h. subst (λ symbol. Turned symbol c.args.reader.now c.args.place.now c.args.steps.now c.make_row.new.reader
    c.args.place.now c.args.steps.now) (sym (ap s.Take c.in-Malformed.is))
    (h c.args.place.now c.args.steps.now
    (subst (λ symbol. Ready symbol c.args.reader.now c.args.place.now c.args.steps.now) (ap s.Take c.in-Malformed.is)
    c.requires)))
