use Rattle.std.proofs.Common.{sym, ◌∙◌}
use Rattle.hermes.proofs.first_texts.reading.Tokens.{blank_moves}
use Rattle.hermes.proofs.first.steps.behind_step.Goals as goal

pub returns-then-is_blank_byte : goal.returns-then-is_blank_byte
returns-then-is_blank_byte c =
    λ source. (
      tt,
      blank_moves c.args.next c.args.calls.now c.args.byte
          (sym c.is_blank_byte.ensures ∙ c.if-is_blank_byte.true),
    )
