use Rattle.hz_ops.proofs.Running.{Grown, lines_grow}
use Rattle.hz_ops.specs.Runs.{after}
use Rattle.hz_ops.proofs.laws.lines_grow.Goals as goal

pub returns : goal.returns
returns c = λ m n s. let grown : Grown s.lines (after m n s).lines = lines_grow m n s in (grown.more, grown.grown)
