use Rattle.std.proofs.Common.{◌∙◌, sym, ap, None, Ok}
use Rattle.hz_value.specs.world.Globals.{resolve_global}
use Rattle.hz_machine.specs.Globals.{resolution}
use Rattle.hz_machine.proofs.Naming.{typed}
use Rattle.hz_machine.proofs.rows.names.read_type.Goals as goal

pub returns-in-Ok-None : goal.returns-in-Ok-None
returns-in-Ok-None c =
    typed c.put_name-in-Ok-None.result c.args.frame.now c.put_name-in-Ok-None.new.frame c.args.kept.now
    c.put_name-in-Ok-None.new.kept c.args.next c.args.to (resolve_global c.args.kept.now.globals c.args.name.now) None
    (sym (c.resolve.ensures ∙ ap (λ k. resolve_global k.globals c.args.name.now) c.kept.view_is)
    ∙ ap resolution (c.in-Ok-None.is ∙ ap Ok c.in-Ok-None.field-0-is)) c.put_name-in-Ok-None.ensures
