use Rattle.std.proofs.Common.{◌≡◌, ◌∙◌, ◌++◌, ◌∷◌, [], List, Some, ap, cond, length, refl, false, arith}
use Rattle.std.proofs.lemmas.Map.Text.{hash_map_updates_str}
use Rattle.std.specs.HashMap.{get_by}
use Rattle.std.specs.Str.{bytes_eq}
use Rattle.hz_scopes.specs.declared.uses.Use.{Use}
use Rattle.hz_scopes.proofs.UsesLemmas.{indexed_push}
use Rattle.hz_scopes.proofs.StoredLemmas.{nested_push}
use Rattle.hz_scopes.proofs.uses.Uses.push.Goals as goal

pub invariant_of-self-2 : goal.invariant_of-self-2
invariant_of-self-2 c =
    let name = c.args.name.now in
    let old = c.self.inside.last in
    let new = c.insert.new.self in
    let items = c.self.inside.entries.items in
    let e : Use = record {
      name = c.args.name;
      inner = c.args.inner;
      taken = false;
      previous = c.in_ok-previous.previous;
    } in
    let place : c.in_ok-place.place ≡ length items = omega (
      arith,
      c.in_ok-place.ensures,
      c.len.ensures,
      ap length
          c.reserve.ensures.items,
    ) in
    let more : c.push.new.self.items ≡ items ++ e ∷ [] =
    c.in_ok-push.ensures.items ∙ ap (λ (items : List Use). items ++ e ∷ []) c.reserve.ensures.items in (
      indexed_push items c.push.new.self.items e
          (λ q. get_by (λ k. bytes_eq q k.now) old) (λ q. get_by (λ k. bytes_eq q k.now) new)
          more c.self.invariant.0 refl c.in_ok-previous.ensures.old
          (λ q. hash_map_updates_str name old new (Some c.in_ok-place.place) c.in_ok-previous.ensures.updates q
          ∙ ap (λ place. cond (bytes_eq name q) (Some place) (get_by (λ k. bytes_eq q k.now) old)) place),
      rw more (nested_push c.self.inside.starts items e c.self.invariant.1),
    )
