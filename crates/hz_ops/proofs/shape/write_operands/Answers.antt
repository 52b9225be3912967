use Rattle.std.proofs.Common.{List, drop, get_or, arith, ◌∙◌}
use Rattle.hz_ops.specs.declared.op.OperandKind.{OperandKind}
use Rattle.hz_ops.specs.declared.op.Operand.{Operand}
use Rattle.std.proofs.lemmas.List.{length-drop}
use Rattle.hz_ops.specs.declared.op.OperandKind.TheVariants as kind
use Rattle.hz_ops.specs.declared.op.Operand.TheVariants as operand
use Rattle.hz_ops.proofs.Fitting.{Step, step_at, same_length, rest_fits, length_left, written_more, dropped_on}
use Rattle.hz_ops.proofs.shape.write_operands.Goals as goal

pub offset_bounds-args-i : goal.offset_bounds-args-i
offset_bounds-args-i c = omega arith

pub bounds-args-i : goal.bounds-args-i
bounds-args-i c =
    let ks = c.args.kinds.now in
    let os = c.args.args.now in
    let i = c.loop-i.i in
    omega (
      arith,
      same_length c.args.long (drop i ks) (drop i os) c.loop-i.invariant.0,
      length-drop i ks,
      length-drop i os,
    )

pub put_operand-at-requires-clause-fits : goal.put_operand-at-requires-clause-fits
put_operand-at-requires-clause-fits c =
    (step_at c.args.long c.args.kinds.now c.args.args.now c.loop-i.i kind.Register (operand.Register 0)
    (omega arith) c.loop-i.invariant.0).fits

pub put_operand-at-requires-clause-room : goal.put_operand-at-requires-clause-room
put_operand-at-requires-clause-room c =
    omega (
      arith,
      length_left (step_at c.args.long c.args.kinds.now c.args.args.now c.loop-i.i kind.Register
          (operand.Register 0) (omega arith) c.loop-i.invariant.0),
    )

pub loop-i-preserved : goal.loop-i-preserved
loop-i-preserved c =
    let ks : List OperandKind = c.args.kinds.now in
    let os : List Operand = c.args.args.now in
    let k : OperandKind = get_or ks c.loop-i.i kind.Register in
    let o : Operand = get_or os c.loop-i.i (operand.Register 0) in
    let step : Step c.args.long ks os c.loop-i.i k o =
    step_at c.args.long ks os c.loop-i.i kind.Register (operand.Register 0) (omega arith) c.loop-i.invariant.0 in (
      rest_fits step,
      omega (arith, length_left step),
      written_more _ _ step c.put_operand-at.ensures.front ∙ c.loop-i.invariant.2,
      c.put_operand-at.ensures.back ∙ dropped_on c.loop-i.at _ _ c.loop-i.buf c.args.buf.now
          c.put_operand-at.ensures.place c.loop-i.invariant.3,
    )
