use Rattle.std.proofs.Common.{◌≡◌, ◌+◌, rules, sym, subst, [], Some, Err}
use Rattle.hz_file.specs.Module.{module_of}
use Rattle.hz_ops.specs.Coding.{decode_at}
use Rattle.hz_ops.specs.Activations.{code_of}
use Rattle.hz_ops.specs.Step as row
use Rattle.hz_ops.specs.Runs.{next_system}
use Rattle.hermes.specs.FileCode.{code_module}
use Rattle.hermes.specs.first.Rows.{activation, Steps, StepsTo, Stopped}
use Rattle.hermes.proofs.first_texts.running.Progress.{step_of}
use Rattle.hermes.proofs.first.run.step.step.Goals as goal

pub returns-in_err-line-clause-step : goal.returns-in_err-line-clause-step
returns-in_err-line-clause-step c =
    let m = code_module (module_of c.args.file.now) in
    let a = activation c.args.place c.args.registers.now in
    let next = c.args.place + c.in_ok-instruction.length in
    let e : decode_at (code_of m 0) c.args.place ≡ Some (c.in_ok-instruction.instruction, c.in_ok-instruction.length) =
    search rules in
    let stop = c.in_err-line.field-0.0 in
    let was : c.row.result ≡ Err stop = search rules in
    let at_row : Stopped (next_system [] (row.row m next a c.as_slice.result.now c.in_ok-instruction.instruction.op))
    stop = subst (λ r. Steps
    (next_system [] (row.row m next a c.as_slice.result.now c.in_ok-instruction.instruction.op)) r
    (activation next c.row.new.registers)) was (c.row.ensures c.args.place next) in
    let stopped : Stopped (next_system []
    (row.row m next a c.in_ok-instruction.instruction.args.items c.in_ok-instruction.instruction.op)) stop =
    subst (λ os. Stopped (next_system [] (row.row m next a os c.in_ok-instruction.instruction.op)) stop)
    c.as_slice.ensures.value at_row in
    let is : c.from_residual-in_err-line.result ≡ Err c.in_err-line.field-0.0 = search rules in
    subst (λ r. StepsTo (next_system [] (row.cstep m a)) r c.row.new.registers) (sym is)
    (subst (λ k. Stopped (next_system [] k) c.in_err-line.field-0.0)
    (sym (step_of m a c.in_ok-instruction.instruction c.in_ok-instruction.length e)) stopped)
