use Rattle.std.proofs.Common.{◌≡◌, ◌∙◌, ◌++◌, ◌∷◌, [], List, Some, ap, cond, length, rules}
use Rattle.std.proofs.lemmas.Map.Text.{hash_map_updates_str}
use Rattle.std.specs.HashMap.{get_by}
use Rattle.std.specs.Str.{bytes_eq}
use Rattle.hz_early.specs.declared.names.Entry.{Entry}
use Rattle.hz_early.proofs.NamesLemmas.{indexed_push}
use Rattle.hz_early.proofs.names.Names.push.Goals as goal

pub invariant_of-self-2 : goal.invariant_of-self-2
invariant_of-self-2 c =
    let name = c.args.name.now in
    let old = c.self.inside.last in
    let new = c.insert.new.self in
    let e : Entry = record { name = c.args.name; previous = c.in_ok-previous.previous } in
    let place : c.len-place.result ≡ length c.self.inside.entries.items = search rules in
    indexed_push c.self.inside.entries.items c.push.new.self.items e
    (λ q. get_by (λ k. bytes_eq q k.now) old) (λ q. get_by (λ k. bytes_eq q k.now) new)
    (c.in_ok-push.ensures.items ∙ ap (λ (items : List Entry). items ++ e ∷ []) c.reserve.ensures.items)
    c.self.invariant
    c.in_ok-previous.ensures.old
    (λ q. hash_map_updates_str name old new (Some c.len-place.result) c.in_ok-previous.ensures.updates q
    ∙ ap (λ place. cond (bytes_eq name q) (Some place) (get_by (λ k. bytes_eq q k.now) old)) place)
