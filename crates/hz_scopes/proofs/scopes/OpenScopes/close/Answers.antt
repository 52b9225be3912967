use Rattle.std.proofs.Common.{◌<◌, ◌∙◌, ap, sym, length, reverse, arith}
use Rattle.std.proofs.lemmas.List.{length-reverse}
use Rattle.std.specs.Vec.{vec_len}
use borrow.Author.Tests.{eqb-false}
use Rattle.hz_scopes.specs.State.{State, in_body, end_scope}
use Rattle.hz_scopes.specs.Stored.{shown, outside_body, held_by}
use Rattle.hz_scopes.proofs.EndLemmas.{length_bodies, named_close}
use Rattle.hz_scopes.proofs.scopes.OpenScopes.close.Goals as goal

pub returns-in_ok-end_scope : goal.returns-in_ok-end_scope
returns-in_ok-end_scope c =
    let s = c.args.self.now in
    let k = (shown s).known in
    let other = eqb-false (vec_len s.outer) 0 (sym c.is_empty.ensures ∙ c.if-is_empty.false) in
    let some : 0 < length k.outer =
    omega (
      arith,
      length_bodies (reverse s.outer.items) (outside_body (reverse s.body.blocks.items) (held_by s)),
      length-reverse s.outer.items,
      other,
    ) in
    record {
      to = c.in_ok-end_scope.ensures.to
          ∙ ap (λ (s : State). in_body (end_scope c.args.end) s) c.in_ok-end_innermost.ensures.to
          ∙ named_close c.args.end s.begun (shown s).waiting k.body k.outer k.functions some c.if-named.true;
      whole = c.in_ok-end_scope.ensures.whole;
    }
