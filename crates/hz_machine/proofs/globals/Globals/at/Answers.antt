use Rattle.std.proofs.Common.{◌≡◌, ◌∙◌, sym, ap, bytes_eq, option_map}
use Rattle.std.specs.Map.{lookup}
use Rattle.hz_machine.specs.Globals.{global_of, name_at}
use Rattle.hz_machine.proofs.Interning.{globals_of, same_slot}
use Rattle.hz_machine.proofs.Known.{named}
use Rattle.hz_machine.proofs.globals.Globals.at.Goals as goal

pub returns : goal.returns
returns c = λ name is.
    let same : c.in_ok-slot.field-0-0.now.items ≡ name =
    named c.self.inside.slots.entries c.args.place c.in_ok-slot.field-0-0.now c.in_ok-slot.slot.now name
    (sym c.in_ok-slot.ensures.entry) (ap (λ gs. name_at gs c.args.place) c.self.view_is ∙ is) in
    ap (option_map global_of) (sym c.in_ok-slot.ensures.value)
    ∙ same_slot c.in_ok-slot.field-0-0.now.items c.self.inside.slots.entries
    ∙ ap (λ t. lookup (bytes_eq t) (globals_of c.self.inside.slots.entries)) same
    ∙ ap (lookup (bytes_eq name)) c.self.view_is
