use Rattle.hz_scopes.proofs.NamingLemmas.{arguments_found, activation_names_added}
use Rattle.hz_scopes.proofs.naming.add_activation.Goals as goal

pub returns-clause-named : goal.returns-clause-named
returns-clause-named c =
    rw (
      c.in_ok-arguments.ensures.named,
      c.in_ok-add_used-2.ensures.named,
      c.in_ok-add_used-2.ensures.taken,
      c.in_ok-add_used.ensures.named,
      c.in_ok-add_used.ensures.taken,
      c.as_slice.ensures,
      c.as_slice-2.ensures,
      c.as_slice-3.ensures,
    ) (activation_names_added c.args.uses.now.inner c.args.table.now)

pub returns-clause-arguments : goal.returns-clause-arguments
returns-clause-arguments c =
    rw (
      c.in_ok-arguments.ensures.there,
      c.in_ok-add_used-2.ensures.taken,
      c.in_ok-add_used.ensures.taken,
      c.as_slice.ensures,
      c.as_slice-2.ensures,
      c.as_slice-3.ensures,
    ) (arguments_found c.args.uses.now.inner)
