use Rattle.std.proofs.Common.{◌∙◌, ap, subst}
use Rattle.hz_machine.specs.declared.machine.Status.TheVariants as mode
use Rattle.hz_machine.specs.Machines.{MachineState, Reads, machine_of}
use Rattle.hz_machine.proofs.Asking.{line_read}
use Rattle.hz_machine.proofs.machine.Machine.line.Goals as goal

pub returns-in-Ok-clause-ok : goal.returns-in-Ok-clause-ok
returns-in-Ok-clause-ok c =
    let new : MachineState = record {
      run = machine_of c.give_line.new.kept c.self.inside.frame c.give_line.new.routine mode.Running;
      at_end = c.is_none-at_end.result;
    } in
    subst (λ m. Reads c.args.text m new) c.self.view_is
    (line_read c.args.text c.self.inside.kept c.give_line.new.kept c.self.inside.frame c.self.inside.routine
    c.give_line.new.routine c.self.inside.status c.self.inside.at_end c.is_none-at_end.result
    (ap {A = MachineState} (λ m. m.run.waits) c.self.view_is ∙ c.requires.waits) c.is_none-at_end.ensures
    (c.in-Ok.ensures.ok c.self.inside.frame))
