use Rattle.std.proofs.Common.{◌≡◌, rules, Some, refl, true, false, ◌∙◌}
use Rattle.std.specs.Prelude.{slice_get, Err}
use Rattle.hz_file.specs.Module.{module_of}
use Rattle.hermes.specs.declared.first.run.held.Held.TheVariants.{Print}
use Rattle.hermes.specs.FileCode.{code_module}
use Rattle.hermes.specs.first.Rows.{activation}
use Rattle.hz_ops.specs.Activations.{Does, Beyond}
use Rattle.hermes.specs.declared.first.run.stop.Stop.TheVariants.{Unbuilt}
use Rattle.hermes.proofs.first_texts.running.Rows.{put_row, on_step, print_test, global_print, global_other}
use Rattle.hermes.proofs.first.run.rows.load_global.Goals as goal

pub returns-then-not-is_print : goal.returns-then-not-is_print
returns-then-not-is_print c = λ place next.
    let e : slice_get (module_of c.args.file.now).texts c.args.id ≡ Some c.in_ok-name.name = search rules in
    let there : slice_get c.args.registers.now c.args.r ≡ Some c.in_ok-held.field-0.now = search rules in
    let other : c.is_print.result ≡ false = search rules in
    on_step {T = Unit {0}} _ (Does Beyond (activation place c.args.registers.now)) (Err Unbuilt)
    (activation next c.args.registers.now)
    (global_other (code_module (module_of c.args.file.now)) next place c.args.registers.now c.args.r c.args.id
    c.in_ok-held.field-0.now c.in_ok-name.name there e
    (print_test c.is_print.result c.in_ok-name.name c.is_print.ensures ∙ other))
    (refl, refl)

pub returns : goal.returns
returns c = λ place next.
    let e : slice_get (module_of c.args.file.now).texts c.args.id ≡ Some c.in_ok-name.name = search rules in
    let is : c.is_print.result ≡ true = search rules in
    put_row _ _ _ c.args.r Print place next c.put.result
    (global_print (code_module (module_of c.args.file.now)) next (activation place c.args.registers.now) c.args.r
    c.args.id c.in_ok-name.name e (print_test c.is_print.result c.in_ok-name.name c.is_print.ensures ∙ is))
    c.put.ensures
