use Rattle.std.specs.HashMap.{get_by}
use Rattle.std.specs.Str.{bytes_eq}
use Rattle.hz_scopes.proofs.UsesLemmas.{indexed_pop, last_has_place}
use Rattle.hz_scopes.proofs.uses.pop.Goals as goal

pub take_back-requires : goal.take_back-requires
take_back-requires c =
    last_has_place c.args.entries.now.items c.pop.new.self.items c.in-Some.entry
    (λ q. get_by (λ k. bytes_eq q k.now) c.args.last.now) c.in-Some.ensures.items c.requires c.if-not-entry.true

pub returns-then-not-entry-clause-indexed : goal.returns-then-not-entry-clause-indexed
returns-then-not-entry-clause-indexed c =
    indexed_pop c.args.entries.now.items c.pop.new.self.items c.in-Some.entry
    (λ q. get_by (λ k. bytes_eq q k.now) c.args.last.now) (λ q. get_by (λ k. bytes_eq q k.now) c.take_back.new.last)
    c.in-Some.ensures.items c.requires c.if-not-entry.true c.take_back.ensures
