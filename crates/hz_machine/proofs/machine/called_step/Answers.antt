use Rattle.hz_machine.specs.Machines.{machine_of}
use Rattle.hz_machine.proofs.Stepping.{routine_steps}
use Rattle.hz_machine.proofs.machine.called_step.Goals as goal

pub returns : goal.returns
returns c = λ p.
    routine_steps p c.args.kept.now c.args.frame.now c.args.called c.routine_step.new.kept c.routine_step.new.routine
    c.in_ok-act.act c.act_of_routine.result
    (machine_of c.act_of_routine.new.kept c.act_of_routine.new.frame c.act_of_routine.new.routine
    c.act_of_routine.new.status)
    c.in_ok-act.ensures c.act_of_routine.ensures
