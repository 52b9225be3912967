use Rattle.std.proofs.Common.{◌≡◌, sym, subst, arith, true, ◌==◌}
use Rattle.std.specs.Prelude.{if◌then◌else◌}
use Rattle.hz_value.specs.declared.values.Value.TheVariants as value
use Rattle.hz_value.specs.world.Start.{readline_routine}
use Rattle.hz_value.specs.system.Acts.{Does, Return}
use Rattle.hz_value.specs.system.Routines.{print_step, readline_step}
use Rattle.hz_machine.specs.Kept.{world_of}
use Rattle.hz_machine.specs.Routines.{FollowsRoutine}
use Rattle.hz_machine.proofs.routine.routine_step.Goals as goal

pub returns-in-1 : goal.returns-in-1
returns-in-1 c =
    let is_print : (c.args.routine.now.routine == 1) ≡ true = grind (arith, c.in-1.is, c.number.ensures) in
    subst (λ t. FollowsRoutine c.print_step.result c.print_step.new.routine c.print_step.new.kept
    (λ lines. if t then print_step 0 c.args.routine.now (world_of lines c.args.kept.now)
    else if c.args.routine.now.routine == readline_routine
    then readline_step c.args.routine.now (world_of lines c.args.kept.now)
    else Does (Return value.Undefined) c.args.routine.now (world_of lines c.args.kept.now))) (sym is_print)
    c.print_step.ensures
