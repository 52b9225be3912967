use Rattle.std.proofs.Common.{◌∙◌, sym, subst}
use Rattle.hz_value.specs.system.Routines.{print_argument}
use Rattle.hz_machine.specs.Kept.{world_of}
use Rattle.hz_machine.specs.Routines.{FollowsRoutine}
use Rattle.hz_machine.proofs.routine.print_step.Goals as goal

pub returns-in-Some : goal.returns-in-Some
returns-in-Some c =
    subst (λ found. FollowsRoutine c.convert.result c.convert.new.routine c.convert.new.kept
    (λ lines. print_argument 0 c.args.routine.now (world_of lines c.args.kept.now) found))
    (sym c.in-Some.is ∙ c.argument.ensures.value) c.convert.ensures

pub returns-in-None : goal.returns-in-None
returns-in-None c =
    subst (λ found. FollowsRoutine c.finish.result c.finish.new.routine c.args.kept.now
    (λ lines. print_argument 0 c.args.routine.now (world_of lines c.args.kept.now) found))
    (sym c.in-None.is ∙ c.argument.ensures.value) c.finish.ensures
