use Rattle.std.proofs.Common.{◌≡◌, ◌-◌, length}
use Rattle.hz_file.specs.Module.{module_of}
use Rattle.hermes.specs.FileCode.{code_module}
use Rattle.hermes.specs.first.Runs.{Reached}
use Rattle.hermes.proofs.first.run.run_code.Given as goal

abbrev pub invariant-loop-next : goal.invariant-loop-next
invariant-loop-next g l =
    let sink = g.K.Sink in
    Reached (code_module (module_of l.file)) l.place l.registers (sink.told l.initial.out) (sink.told l.out)
    × (sink.count l.out ≡ sink.count l.initial.out)

abbrev pub decreases-loop-next : goal.decreases-loop-next
decreases-loop-next g l = length l.code - l.place
