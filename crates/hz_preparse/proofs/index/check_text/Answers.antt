use Rattle.std.proofs.lemmas.Str.{utf8_valid_len-IsUtf8}
use Rattle.hz_preparse.proofs.index.check_text.Goals as goal

pub returns-in-Ok-clause-text : goal.returns-in-Ok-clause-text
returns-in-Ok-clause-text c = record {
  short = c.if-source-gt-MAX_LENGTH.false;
  whole = utf8_valid_len-IsUtf8 c.args.source.now c.in-Ok.ensures.cases.1;
}
