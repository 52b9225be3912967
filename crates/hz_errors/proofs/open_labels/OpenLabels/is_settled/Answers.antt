use Rattle.std.proofs.Common.{◌≡◌, ◌≤◌, length, sym, ap, ◌∙◌, subst, rules}
use Rattle.std.proofs.lemmas.Bool.{leb-true, le-leb}
use Rattle.hz_errors.specs.OpenNames.{OpenNames}
use Rattle.hz_errors.proofs.OpenNamesLemmas.{none_fresh, settled_all}
use Rattle.hz_errors.proofs.open_labels.OpenLabels.is_settled.Goals as goal

pub returns : goal.returns
returns c =
    let i = c.self.inside in
    let long : c.len.result ≡ length i.labels.items = search rules in
    let fresh = ap (λ (o : OpenNames). o.fresh) c.self.view_is in (
      λ h. sym fresh
          ∙ none_fresh i.settled i.labels.items (subst (λ n. n ≤ i.settled) long (leb-true c.len.result i.settled h)),
      λ h. le-leb c.len.result i.settled (subst (λ n. n ≤ i.settled) (sym long)
          (settled_all i.settled i.labels.items (fresh ∙ h))),
    )
