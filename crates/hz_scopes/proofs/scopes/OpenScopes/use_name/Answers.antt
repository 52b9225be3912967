use Rattle.std.proofs.Common.{ap, reverse}
use Rattle.hz_scopes.specs.State.{Known, State}
use Rattle.hz_scopes.specs.Stored.{held_by, waiting_of}
use Rattle.hz_scopes.proofs.ShownLemmas.{use_shown}
use Rattle.hz_scopes.proofs.scopes.OpenScopes.use_name.Goals as goal

pub returns : goal.returns
returns c =
    let s = c.args.self.now in
    let make : Known → State = λ k. record { begun = s.begun; waiting = waiting_of s.waiting; known = k } in
    let shows = use_shown s.body (reverse s.body.blocks.items) (reverse s.outer.items) (held_by s) s.table.functions
    c.args.name.now in
    rw (c.in_ok-push.ensures, c.in_ok-using.ensures) record {
      to = ap make shows;
      whole = record { pending = c.requires.pending; nested = c.requires.nested; kept = c.requires.kept };
    }
