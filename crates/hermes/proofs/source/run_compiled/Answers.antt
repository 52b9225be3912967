-- Each answer of the run is what the source says.
use Rattle.std.proofs.Common.{inl}
use Rattle.hermes.proofs.first_texts.Finished.{run_done, run_left, run_bad, run_fault, run_memory}
use Rattle.hermes.proofs.source.run_compiled.Goals as goal

pub unreachable-requires : goal.unreachable-requires
unreachable-requires g c = run_bad _ _ _ _ _ c.requires.compiled c.in-BadCode.ensures.agrees

pub returns-in-Done-clause-outcome : goal.returns-in-Done-clause-outcome
returns-in-Done-clause-outcome g c = run_done _ _ _ _ _ c.requires.read c.requires.compiled c.in-Done.ensures.agrees

pub returns-in-Left-clause-outcome : goal.returns-in-Left-clause-outcome
returns-in-Left-clause-outcome g c = run_left _ _ _ _ _ _ c.requires.read c.requires.compiled c.in-Left.ensures.agrees

pub returns-in-WriteFault-clause-outcome : goal.returns-in-WriteFault-clause-outcome
returns-in-WriteFault-clause-outcome g c =
    run_fault _ _ _ _ _ c.requires.read c.requires.compiled c.in-WriteFault.ensures.agrees

pub returns-in-Memory-clause-outcome : goal.returns-in-Memory-clause-outcome
returns-in-Memory-clause-outcome g c =
    inl (run_memory _ _ _ _ _ c.requires.read c.requires.compiled c.in-Memory.ensures.agrees)
