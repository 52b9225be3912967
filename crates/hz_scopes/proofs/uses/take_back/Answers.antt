use Rattle.std.proofs.Common.{◌∙◌, Some, None, ap, sym, cond, OnOk, OnErr, Result, Ok, Err}
use Rattle.std.proofs.lemmas.Map.Text.{hash_map_updates_str}
use Rattle.std.specs.HashMap.{get_by}
use Rattle.std.specs.Str.{bytes_eq}
use Rattle.hz_scopes.proofs.uses.take_back.Goals as goal

when_ok : {X E : Type 0} (r : Result X E) (P Q : Type 0) → OnOk r P → OnErr r Q → (Q → ⊥) → P
when_ok (Ok x) P Q p q never = p
when_ok (Err e) P Q p q never = absurd (never q)

pub returns-in-Some : goal.returns-in-Some
returns-in-Some c q =
    let name = c.args.name.now in
    let old = c.args.last.now in
    let updates = when_ok c.insert.result _ _ c.insert.ensures.updates c.insert.ensures.absent c.requires in
    hash_map_updates_str name old c.insert.new.self (Some c.in-Some.place) updates q
    ∙ ap (λ place. cond (bytes_eq name q) place (get_by (λ k. bytes_eq q k.now) old)) (sym c.in-Some.is)

pub returns-in-None : goal.returns-in-None
returns-in-None c q =
    let name = c.args.name.now in
    let old = c.args.last.now in
    hash_map_updates_str name old c.remove.new.self None c.remove.ensures.updates q
    ∙ ap (λ place. cond (bytes_eq name q) place (get_by (λ k. bytes_eq q k.now) old)) (sym c.in-None.is)
