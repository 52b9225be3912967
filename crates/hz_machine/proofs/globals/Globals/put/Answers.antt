use Rattle.std.proofs.Common.{◌∙◌, ap}
use Rattle.hz_machine.specs.Globals.{global_of, put_slot}
use Rattle.hz_machine.proofs.Interning.{globals_of, same_slots}
use Rattle.hz_machine.proofs.globals.Globals.put.Goals as goal

pub returns-clause-ok : goal.returns-clause-ok
returns-clause-ok c =
    ap (λ es. globals_of es) c.in_ok-insert.ensures.entries
    ∙ same_slots c.self.inside.slots.entries c.args.name c.args.slot
    ∙ ap (λ gs. put_slot c.args.name.items (global_of c.args.slot) gs) c.self.view_is
