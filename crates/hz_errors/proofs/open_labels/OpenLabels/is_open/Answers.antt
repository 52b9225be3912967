use Rattle.std.proofs.Common.{◌++◌, ap, ◌∙◌}
use Rattle.hz_tree.specs.errors.Scopes.{occurs}
use Rattle.hz_errors.specs.Labels.{names}
use Rattle.hz_errors.specs.OpenNames.{OpenNames}
use Rattle.hz_errors.proofs.OpenNamesLemmas.{occurs_open}
use Rattle.hz_errors.proofs.open_labels.OpenLabels.is_open.Goals as goal

pub returns : goal.returns
returns c =
    let i = c.self.inside in
    c.occurs_from.ensures
    ∙ occurs_open c.args.name.now i.settled i.labels.items i.names i.loop_names c.self.invariant
    ∙ ap (λ (o : OpenNames). occurs c.args.name.now (o.fresh ++ names o.labels)) c.self.view_is
