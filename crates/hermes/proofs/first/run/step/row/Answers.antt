use Rattle.std.proofs.Common.{◌≡◌, rules, ap, ◌∙◌, sym, subst, [], ◌∷◌}
use Rattle.std.proofs.lemmas.Int.{to_z-of_z}
use Rattle.std.proofs.Common.{w64, to_z, of_z, FitsSigned}
use Rattle.hz_file.specs.Module.{module_of}
use Rattle.hz_ops.specs.declared.op.Operand.TheVariants as operand
use Rattle.hz_ops.specs.Step as row
use Rattle.hz_ops.specs.Activations.{Next}
use Rattle.hz_ops.specs.Runs.{next_system}
use Rattle.hermes.specs.FileCode.{code_module}
use Rattle.hermes.specs.first.Rows.{activation, Steps, IsStep}
use Rattle.hermes.proofs.first.run.step.row.Goals as goal

pub returns-in_ok-r-in-LoadInt : goal.returns-in_ok-r-in-LoadInt
returns-in_ok-r-in-LoadInt c = λ place next.
    let a = activation place c.args.registers.now in
    let m = code_module (module_of c.args.file.now) in
    let n : Next = row.load_int next a c.in_ok-r-in-LoadInt.r c.in_ok-r-in-LoadInt.integer in
    let is : c.args.operands.now
    ≡ operand.Register c.in_ok-r-in-LoadInt.r ∷ operand.Int c.in_ok-r-in-LoadInt.integer ∷ [] = search rules in
    let e : row.row m next a c.args.operands.now c.args.op ≡ n =
    ap (λ o. row.row m next a c.args.operands.now o) c.in-LoadInt.is
    ∙ ap (λ os. row.at_register_int os a (row.load_int next a)) is in
    let fits : FitsSigned w64 c.in_ok-r-in-LoadInt.integer = search rules in
    let whole : to_z w64 (of_z w64 c.in_ok-r-in-LoadInt.integer) ≡ c.in_ok-r-in-LoadInt.integer =
    to_z-of_z w64 c.in_ok-r-in-LoadInt.integer fits in
    subst (λ k. Steps (next_system [] k) c.silent-in-LoadInt.result (activation next c.load_int.new.registers)) (sym e)
    (c.silent-in-LoadInt.ensures n (activation next c.load_int.new.registers)
    (subst (λ z. IsStep (row.load_int next a c.in_ok-r-in-LoadInt.r z) c.load_int.result
    (activation next c.load_int.new.registers)) whole (c.load_int.ensures place next)))
