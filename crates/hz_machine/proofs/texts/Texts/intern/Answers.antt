use Rattle.std.proofs.Common.{◌∙◌, ap}
use Rattle.hz_value.specs.world.Store.{number_of, interned}
use Rattle.hz_machine.proofs.Interning.{units_of, same_number, same_keys}
use Rattle.hz_machine.proofs.texts.Texts.intern.Goals as goal

pub returns-clause-number : goal.returns-clause-number
returns-clause-number c =
    c.in_ok-number.ensures.index ∙ same_number c.args.text c.self.inside.texts.keys
    ∙ ap (λ ts. number_of ts c.args.text.items) c.self.view_is

pub returns-clause-ok : goal.returns-clause-ok
returns-clause-ok c =
    ap (λ ks. units_of ks) c.in_ok-number.ensures.keys ∙ same_keys c.args.text c.self.inside.texts.keys
    ∙ ap (λ ts. interned ts c.args.text.items) c.self.view_is
