use Rattle.std.proofs.Common.{◌∙◌, ap, bytes_eq, option_map}
use Rattle.std.specs.Map.{lookup}
use Rattle.hz_machine.specs.Globals.{global_of}
use Rattle.hz_machine.proofs.Interning.{same_slot}
use Rattle.hz_machine.proofs.globals.Globals.slot.Goals as goal

pub returns : goal.returns
returns c =
    ap (option_map global_of) (c.copied.ensures ∙ c.get.ensures.value)
    ∙ same_slot c.args.name.now c.self.inside.slots.entries
    ∙ ap (lookup (bytes_eq c.args.name.now)) c.self.view_is
