use Rattle.std.proofs.Common.{◌≡◌, ◌<◌, length, subst, rules}
use Rattle.hz_errors.proofs.OpenNamesLemmas.{named_loop}
use Rattle.hz_errors.proofs.open_labels.OpenLabels.end.Goals as goal

pub invariant_of-self : goal.invariant_of-self
invariant_of-self c =
    let i = c.self.inside in
    let long : c.len-outer.result ≡ length c.pop.new.self.items = search rules in
    rw (
      c.truncate.ensures,
      c.truncate-then-label.ensures,
      c.saturating_sub.ensures,
      c.len-loops.ensures,
      long,
    ) (named_loop i.labels.items c.pop.new.self.items c.in-Some.label i.settled i.names i.loop_names
    c.in-Some.ensures.items c.self.invariant
    (subst (λ n. n < i.settled) long c.if-outer-self.true) c.if-label.true)
