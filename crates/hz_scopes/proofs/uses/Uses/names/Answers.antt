use Rattle.std.proofs.Common.{◌≡◌, ◌∙◌, ◌++◌, ◌∷◌, [], List, ℕ, Bor, ap, sym, cond, map, arith, length, refl, ◌<◌}
use Rattle.std.proofs.lemmas.List.{map-append}
use Rattle.std.proofs.lemmas.Option.{slice_get_read}
use Rattle.hz_scopes.specs.Links.{is_first}
use Rattle.hz_scopes.proofs.UsesLemmas.{names_step}
use Rattle.hz_scopes.proofs.uses.Uses.names.Goals.{then-is_first+in_ok-push, else-is_first}
use Rattle.hz_scopes.proofs.uses.Uses.names.Goals as goal

pub loop-place-preserved : goal.loop-place-preserved
loop-place-preserved c =
    let now : Bor (List ℕ) → List ℕ = λ name. name.now in
    let items = c.self.inside.entries.items in
    let start = c.innermost-start.result in
    let place = c.loop-place.place in
    let e = c.index-entry.result.now in
    let old = c.loop-place.names.items in
    let either : map now c.if-is_first.names.items ≡ cond (is_first start e) (map now old ++ e.name.now ∷ []) (map now
    old) =
    elim c.if-is_first.branch [
      | then-is_first+in_ok-push w ↦
          ap (λ (n : List (Bor (List ℕ))). map now n) (ap (λ n. n.items) w.names-is ∙ w.in_ok-push.ensures.items)
          ∙ map-append now old (e.name ∷ [])
          ∙ ap (λ b. cond b (map now old ++ e.name.now ∷ []) (map now old))
          (sym (sym c.is_first.ensures ∙ w.if-is_first.true))
      | else-is_first w ↦
          ap (λ n. map now n.items) w.names-is
          ∙ ap (λ b. cond b (map now old ++ e.name.now ∷ []) (map now old))
          (sym (sym c.is_first.ensures ∙ w.if-is_first.false))
    ] in
    let within : place < length items = omega arith in
    let read = slice_get_read items (length items) place e refl within c.index-entry.ensures in
    either ∙ names_step start place items e (map now old) (c.self.invariant.0.1, read, omega arith)
    c.loop-place.invariant
