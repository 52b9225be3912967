use Rattle.hz_resolve.proofs.Mapped.{CountsTo}
use Rattle.hz_resolve.proofs.passes.counts.Given as goal

abbrev pub invariant-loop-test : goal.invariant-loop-test
invariant-loop-test l = CountsTo l.tests l.test-index l.before.items l.count
