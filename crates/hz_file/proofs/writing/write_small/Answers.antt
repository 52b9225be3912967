use Rattle.std.proofs.Common.{ap, ◌∙◌, arith}
use Rattle.std.proofs.lemmas.Result.{IfOk-weaker}
use Rattle.hz_file.specs.Image.{Program, program, IsSmall}
use Rattle.hz_file.specs.Module.{module_of}
use Rattle.hz_file.specs.Opening.{rule}
use Rattle.hz_file.proofs.Law.{has_magic, breaks_none, holds_written}
use Rattle.hz_file.proofs.writing.write_small.Goals as goal

small : (c : goal.After-encode) → let p : Program =
    program c.args.strict c.args.source.now c.args.texts.now c.args.registers c.args.code.now in IsSmall p
small c = record {
  source = c.requires.source;
  texts = c.requires.texts;
  short = c.requires.short;
  storage = c.requires.storage;
  registers = omega (arith, c.ranges.registers);
  code = (c.requires.code, c.requires.code_fits);
}

pub returns-clause-magic : goal.returns-clause-magic
returns-clause-magic c = IfOk-weaker c.encode.result _ _ (λ bytes is. rw is (has_magic _)) c.encode.ensures

pub returns-clause-opens : goal.returns-clause-opens
returns-clause-opens c =
    IfOk-weaker c.encode.result _ _ (λ bytes is. ap rule is ∙ breaks_none _ (small c)) c.encode.ensures

pub returns-clause-holds : goal.returns-clause-holds
returns-clause-holds c =
    IfOk-weaker c.encode.result _ _ (λ bytes is. ap module_of is ∙ holds_written _ (small c)) c.encode.ensures
