use Rattle.std.proofs.Common.{ℕ, List, ◌∷◌, ◌++◌, length, drop, ◌∙◌, arith, ap}
use Rattle.std.proofs.Math.ListN.{length-set}
use Rattle.hz_ops.specs.declared.op.Operand.{Operand}
use Rattle.hz_ops.specs.Table.{kinds_of}
use Rattle.hz_ops.specs.Coding.{first_byte, operand_bytes}
use Rattle.hz_ops.proofs.Fitting.{bytes_at_most, few_kinds}
use Rattle.hz_ops.proofs.RoundTrip.{read_again, written_whole}
use Rattle.hz_ops.proofs.coding.encode_into.Goals as goal

pub returns-clause-bytes : goal.returns-clause-bytes
returns-clause-bytes c =
    let i = c.args.i.now in
    let old = c.args.buf.now in
    let whole = written_whole c.first_byte.result _ _ old c.put_operands.new.buf (omega arith)
    c.put_operands.ensures.place c.put_operands.ensures.front c.put_operands.ensures.back in
    let bytes : ℕ → List Operand → List ℕ = λ b os. b ∷ operand_bytes i.long (kinds_of i.op) os in
    let behind : List ℕ → List ℕ = λ xs. xs ++ drop (length xs) old in
    whole ∙ ap (λ b. behind (bytes b c.as_slice.result.now)) c.first_byte.ensures
    ∙ ap (λ os. behind (bytes (first_byte i.long i.op) os)) c.as_slice.ensures.value

pub returns-clause-again : goal.returns-clause-again
returns-clause-again c = λ rest. read_again c.args.i.now rest c.requires.fits

pub put_operands-requires-clause-room : goal.put_operands-requires-clause-room
put_operands-requires-clause-room c =
    omega (
      arith,
      bytes_at_most c.args.i.now.long (kinds_of c.args.i.now.op) c.as_slice.result.now,
      few_kinds c.args.i.now.op,
      length-set c.args.buf.now 0 c.first_byte.result,
    )

pub returns-clause-most : goal.returns-clause-most
returns-clause-most c =
    omega (
      arith,
      c.put_operands.ensures.place,
      bytes_at_most c.args.i.now.long (kinds_of c.args.i.now.op) c.as_slice.result.now,
      few_kinds c.args.i.now.op,
    )
