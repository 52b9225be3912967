use Rattle.hz_file.specs.Module.{module_of}
use Rattle.hermes.specs.FileCode.{code_module}
use Rattle.hermes.proofs.first_texts.running.Ending.{agrees}
use Rattle.hermes.proofs.first.run.run_first.Goals as goal

pub returns-in-End-clause-agrees : goal.returns-in-End-clause-agrees
returns-in-End-clause-agrees g c = λ lines end e.
    let sink = g.K.Sink in
    agrees (code_module (module_of c.args.file.now)) (sink.told c.args.out.now) (sink.told c.run_code.new.out)
    c.in-End.end lines end e c.in-End.ensures.outcome
