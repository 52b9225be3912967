use Rattle.std.proofs.Common.{◌∙◌, ap, sym}
use Rattle.hz_errors.specs.declared.open_labels.OpenLabels.TheInside.{Inside}
use Rattle.hz_errors.specs.OpenNames.{OpenNames}
use Rattle.hz_errors.proofs.OpenNamesLemmas.{named_then, some_fresh, with_loop}
use Rattle.hz_errors.proofs.open_labels.OpenLabels.settle_first.Goals as goal
use Rattle.hz_errors.proofs.open_labels.OpenLabels.settle_first.Goals.{then-on_loop+in_ok-push, else-on_loop}

pub invariant_of-self-2 : goal.invariant_of-self-2
invariant_of-self-2 c =
    let i = c.self.inside in
    let now = c.if-on_loop.self-inside in
    let first = c.index.result.now in
    let fresh = ap (λ (o : OpenNames). o.fresh) c.self.view_is in
    let some = some_fresh i.settled i.labels.items c.args.self.now.fresh fresh c.requires in
    elim c.if-on_loop.branch [
      | then-on_loop+in_ok-push w ↦ named_then i.labels.items i.settled i.names i.loop_names c.self.invariant some
          now.labels.items now.names now.loop_names first c.index_mut.result.now c.args.on_loop
          (ap (λ (s : Inside). s.labels.items) w.self-inside-is) (ap (λ (s : Inside). s.names) w.self-inside-is)
          c.index.ensures c.index_mut.ensures.value
          (ap (λ (s : Inside). s.loop_names) w.self-inside-is ∙ w.in_ok-push.ensures.ok
          ∙ ap (λ b. with_loop b first.name.now i.loop_names) (sym w.if-on_loop.true))
      | else-on_loop w ↦ named_then i.labels.items i.settled i.names i.loop_names c.self.invariant some
          now.labels.items now.names now.loop_names first c.index_mut.result.now c.args.on_loop
          (ap (λ (s : Inside). s.labels.items) w.self-inside-is) (ap (λ (s : Inside). s.names) w.self-inside-is)
          c.index.ensures c.index_mut.ensures.value
          (ap (λ (s : Inside). s.loop_names) w.self-inside-is
          ∙ ap (λ b. with_loop b first.name.now i.loop_names) (sym w.if-on_loop.false))
    ]
