use Rattle.std.proofs.Common.{length, length-append, ap, ◌∙◌}
use Rattle.hermes.proofs.first_texts.generating.CallCodes.{one_more, one_more_text}
use Rattle.hermes.proofs.first.generate.calls.push_calls.Goals as goal

pub loop-argument-preserved : goal.loop-argument-preserved
loop-argument-preserved c =
    record {
      code = one_more _ _ _ _ _ _ _ _ c.loop-argument-test.true c.argument-item.is
          (ap length c.loop-argument.invariant.texts ∙ length-append _ _) c.loop-argument.invariant.code
          c.in_ok-push_call.ensures.code;
      texts = one_more_text _ _ _ _ _ _ c.loop-argument-test.true c.argument-item.is c.loop-argument.invariant.texts
          c.in_ok-push_call.ensures.texts;
    }
