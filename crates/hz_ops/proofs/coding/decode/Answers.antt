use Rattle.std.proofs.Common.{arith}
use Rattle.hz_ops.proofs.RoundTrip.{decoded}
use Rattle.hz_ops.proofs.coding.decode.Goals as goal

pub returns-clause-written : goal.returns-clause-written
returns-clause-written c =
    decoded _ c.args.bytes.now c.args.at (λ i. omega (arith, c.type_inv.bytes i)) c.instruction_at.ensures
