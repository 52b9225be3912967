use Rattle.std.proofs.Common.{sym, subst}
use Rattle.hz_machine.specs.Machines.{RunState, Acts, machine_of, script_moved, called, routine_number}
use Rattle.hz_machine.proofs.Stepping.{call_acts, on_ok}
use Rattle.hz_machine.proofs.machine.act_of_script.Goals as goal

pub returns-in-Call : goal.returns-in-Call
returns-in-Call c =
    let new : RunState = machine_of c.call.new.kept c.call.new.frame c.call.new.routine c.call.new.status in
    on_ok {P = λ a. Acts (called c.args.kept.now c.args.frame.now c.in-Call.this c.as_slice.result.now
    (routine_number c.in-Call.callee)) a new}
    {Q = λ a. Acts (script_moved c.args.kept.now c.args.frame.now c.args.act.now) a new} c.call.result
    (λ a acts. subst (λ x. Acts (script_moved c.args.kept.now c.args.frame.now x) a new) (sym c.in-Call.is)
    (call_acts c.args.kept.now c.args.frame.now c.in-Call.callee c.in-Call.this c.in-Call.arguments a new
    (subst (λ vs. Acts (called c.args.kept.now c.args.frame.now c.in-Call.this vs (routine_number c.in-Call.callee)) a
    new) c.as_slice.ensures.value acts))) c.call.ensures
