use Rattle.std.proofs.Common.{◌≡◌, rules, Some}
use Rattle.std.specs.Prelude.{slice_get}
use Rattle.hz_file.specs.Module.{module_of}
use Rattle.hermes.specs.declared.first.run.held.Held.TheVariants.{Text}
use Rattle.hermes.specs.FileCode.{code_module}
use Rattle.hermes.specs.first.Rows.{activation}
use Rattle.hermes.proofs.first_texts.running.Rows.{put_row, text_found}
use Rattle.hermes.proofs.first.run.rows.load_string.Goals as goal

pub returns : goal.returns
returns c = λ place next.
    let e : slice_get (module_of c.args.file.now).texts c.args.id ≡ Some c.in_ok-text.text = search rules in
    put_row _ _ _ c.args.r (Text c.in_ok-text.text) place next c.put.result
    (text_found (code_module (module_of c.args.file.now)) next (activation place c.args.registers.now) c.args.r
    c.args.id c.in_ok-text.text e) c.put.ensures
