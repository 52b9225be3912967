use Rattle.std.proofs.Common.{◌∙◌, Some, None, ap, sym, cond, OnOk, OnErr, Result, Ok, Err}
use Rattle.std.proofs.lemmas.Map.Text.{hash_map_updates_str}
use Rattle.std.specs.HashMap.{get_by}
use Rattle.std.specs.Str.{bytes_eq}
use Rattle.hz_early.proofs.NamesLemmas.{indexed_pop, last_has_place}
use Rattle.hz_early.proofs.names.Names.pop.Goals as goal

when_ok : {X E : Type 0} (r : Result X E) (P Q : Type 0) → OnOk r P → OnErr r Q → (Q → ⊥) → P
when_ok (Ok x) P Q p q never = p
when_ok (Err e) P Q p q never = absurd (never q)

pub invariant_of-self : goal.invariant_of-self
invariant_of-self c =
    let e = c.in-Some.entry in
    let old = c.self.inside.last in
    let new = c.insert.new.self in
    let items = c.self.inside.entries.items in
    let fewer = c.pop.new.self.items in
    let updates = when_ok c.insert.result _ _ c.insert.ensures.updates c.insert.ensures.absent
    (last_has_place items fewer e (λ q. get_by (λ k. bytes_eq q k.now) old) c.in-Some.ensures.items c.self.invariant) in
    indexed_pop items fewer e (λ q. get_by (λ k. bytes_eq q k.now) old) (λ q. get_by (λ k. bytes_eq q k.now) new)
    c.in-Some.ensures.items c.self.invariant
    (λ q. hash_map_updates_str e.name.now old new (Some c.in-Some-previous.place) updates q
    ∙ ap (λ place. cond (bytes_eq e.name.now q) place (get_by (λ k. bytes_eq q k.now) old)) (sym c.in-Some-previous.is))

pub invariant_of-self-in-None : goal.invariant_of-self-in-None
invariant_of-self-in-None c =
    let e = c.in-Some.entry in
    let old = c.self.inside.last in
    let new = c.remove.new.self in
    let items = c.self.inside.entries.items in
    let fewer = c.pop.new.self.items in
    indexed_pop items fewer e (λ q. get_by (λ k. bytes_eq q k.now) old) (λ q. get_by (λ k. bytes_eq q k.now) new)
    c.in-Some.ensures.items c.self.invariant
    (λ q. hash_map_updates_str e.name.now old new None c.remove.ensures.updates q
    ∙ ap (λ place. cond (bytes_eq e.name.now q) place (get_by (λ k. bytes_eq q k.now) old)) (sym c.in-None.is))
