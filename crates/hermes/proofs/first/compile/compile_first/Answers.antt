-- A source that spells calls is ASCII.
use Rattle.hermes.proofs.first_texts.Ascii.{first_below}
use Rattle.hermes.proofs.first.compile.compile_first.Goals as goal

pub write_small-requires-clause-ascii : goal.write_small-requires-clause-ascii
write_small-requires-clause-ascii c =
    first_below c.args.strict c.in_ok-calls.calls c.args.source.now c.in_ok-calls.ensures.found
