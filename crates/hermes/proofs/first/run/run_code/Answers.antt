use Rattle.std.proofs.Common.{◌∙◌}
use Rattle.hz_file.specs.Module.{module_of}
use Rattle.hermes.specs.FileCode.{code_module}
use Rattle.hermes.proofs.first_texts.running.Following.{goes_on, stops_here}
use Rattle.hermes.proofs.first.run.run_code.Goals as goal

pub loop-next-preserved : goal.loop-next-preserved
loop-next-preserved g c =
    let sink = g.K.Sink in
    let m = code_module (module_of c.args.file.now) in (
      goes_on m c.loop-next.place c.in-Ok.next c.loop-next.registers c.send_step.new.registers
          (sink.told c.args.out.now) (sink.told c.loop-next.out) (sink.told c.send_step.new.out)
          c.loop-next.invariant.0 c.in-Ok.ensures.sent.0 c.in-Ok.ensures.sent.1,
      c.in-Ok.ensures.cause ∙ c.loop-next.invariant.1,
    )

pub returns-in-Err-clause-outcome : goal.returns-in-Err-clause-outcome
returns-in-Err-clause-outcome g c =
    let sink = g.K.Sink in
    let m = code_module (module_of c.args.file.now) in
    stops_here m c.loop-next.place c.loop-next.registers c.send_step.new.registers (sink.told c.args.out.now)
    (sink.told c.loop-next.out) (sink.told c.send_step.new.out) c.in-Err.stop
    c.requires.built c.loop-next.invariant.0 c.in-Err.ensures.sent
