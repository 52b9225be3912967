use Rattle.std.proofs.Common.{None}
use Rattle.hz_machine.specs.declared.machine.Status.TheVariants as mode
use Rattle.hz_machine.specs.Machines.{RunState, Acts, Steps, machine_of, script_moved}
use Rattle.hz_machine.proofs.Stepping.{script_steps, on_ok}
use Rattle.hz_machine.proofs.machine.script_step.Goals as goal

pub returns : goal.returns
returns g c =
    let new : RunState =
    machine_of c.act_of_script.new.kept c.act_of_script.new.frame c.act_of_script.new.routine
    c.act_of_script.new.status in
    on_ok {P = λ a. Acts (script_moved c.code_step.new.kept c.code_step.new.frame c.in_ok-act.act) a new}
    {Q = λ a. Steps (g.C.Code.program c.args.code.now)
    (machine_of c.args.kept.now c.args.frame.now None mode.Running) a new} c.act_of_script.result
    (λ a acts. script_steps (g.C.Code.program c.args.code.now) c.args.kept.now c.args.frame.now c.code_step.new.kept
    c.code_step.new.frame c.in_ok-act.act a new c.in_ok-act.ensures acts) c.act_of_script.ensures
