use Rattle.std.proofs.Common.{◌∙◌, ap, Some, true}
use Rattle.hz_machine.specs.Globals.{name_at, put_slot}
use Rattle.hz_machine.proofs.Interning.{same_put}
use Rattle.hz_machine.proofs.Known.{set_at}
use Rattle.hz_machine.proofs.globals.Globals.set.Goals as goal

pub returns : goal.returns
returns c = λ name is.
    set_at c.self.inside.slots.entries c.args.place name (record { value = Some c.args.value; writable = true })
    c.len.ensures.unique (ap (λ gs. name_at gs c.args.place) c.self.view_is ∙ is)
    ∙ ap (λ gs. put_slot name (record { value = Some c.args.value; writable = true }) gs) c.self.view_is
    ∙ same_put name c.args.value c.args.self.now
