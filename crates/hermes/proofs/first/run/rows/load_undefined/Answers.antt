use Rattle.std.proofs.Common.{refl}
use Rattle.hermes.specs.declared.first.run.held.Held.TheVariants.{Undefined}
use Rattle.hermes.proofs.first_texts.running.Rows.{put_row}
use Rattle.hermes.proofs.first.run.rows.load_undefined.Goals as goal

pub returns : goal.returns
returns c = λ place next. put_row _ _ _ c.args.r Undefined place next c.put.result refl c.put.ensures
