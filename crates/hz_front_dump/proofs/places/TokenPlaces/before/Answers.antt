use Rattle.std.proofs.Common.{rules, ◌≡◌, ◌+◌, ◌-◌, length, arith, ap, ◌∙◌}
use Rattle.hz_tree.specs.tokens.Tokens.{tokens}
use Rattle.hz_front_dump.specs.Places.{begin_before}
use Rattle.hz_front_dump.proofs.Counted.{read_before}
use Rattle.hz_front_dump.proofs.places.TokenPlaces.before.Goals as goal

pub returns : goal.returns
returns c =
    let i = c.self.inside in
    let long : c.len-last.result ≡ length i.before.items = search rules in
    let last : c.len-last.result - 1 ≡ length i.source.now + 1 = omega (arith, long, c.self.invariant.long) in
    let read = rw c.min.ensures at c.index.ensures in
    read_before i.source.now i.before.items c.args.place (c.len-last.result - 1) c.index.result.now c.self.invariant
    last read ∙ ap (λ s. begin_before c.args.place (tokens s)) c.self.view_is
