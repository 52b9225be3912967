use Rattle.std.proofs.Common.{ap, sym, ◌∙◌}
use Rattle.hz_tree.specs.grammar.Table.{step}
use Rattle.hz_tree.specs.sources.Refusals.{refusal_at}
use Rattle.hz_preparse.proofs.Steps.{pushed_ok, pushed_refused}
use Rattle.hz_preparse.proofs.recogniser.read.Goals as goal

pub returns-in-Ok : goal.returns-in-Ok
returns-in-Ok c =
    let found = pushed_ok (step c.args.nonterminal c.look.result) c.in-Ok.field-0 c.args.stack.now c.expand.new.stack
    c.in-Ok.ensures in
    (found.0, (ap (step c.args.nonterminal) (sym c.look.ensures) ∙ found.1.0, found.1.1))

pub returns-in-Err-Refused : goal.returns-in-Err-Refused
returns-in-Err-Refused c =
    let found = pushed_refused (step c.args.nonterminal c.look.result) c.in-Err-Refused.cause c.args.stack.now
    c.expand.new.stack (rw c.in-Err-Refused.field-0-is at c.in-Err-Refused.ensures) in (
      c.in-Err-Refused.cause,
      (
        ap (step c.args.nonterminal) (sym c.look.ensures) ∙ found,
        c.refusal.ensures
            ∙ ap (refusal_at c.in-Err-Refused.cause) c.place.ensures,
      ),
    )
