use Rattle.std.proofs.Common.{arith, reverse}
use Rattle.std.proofs.lemmas.List.{length-reverse}
use Rattle.hz_scopes.specs.Stored.{outside_body, held_by}
use Rattle.hz_scopes.proofs.EndLemmas.{length_bodies}
use Rattle.hz_scopes.proofs.scopes.OpenScopes.depth.Goals as goal

pub returns : goal.returns
returns c =
    let s = c.args.self.now in
    let bodies = reverse s.outer.items in
    let inside = outside_body (reverse s.body.blocks.items) (held_by s) in
    omega (arith, length_bodies bodies inside, length-reverse s.outer.items, c.len.ensures)
