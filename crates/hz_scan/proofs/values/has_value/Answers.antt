use Rattle.std.proofs.Common.{◌≡◌, ◌≤◌, List, ℕ, length, drop, ap, sym, ◌∙◌, arith}
use Rattle.std.proofs.lemmas.Grind.{common_steps}
use Rattle.std.proofs.lemmas.List.{drop_min}
use Rattle.std.specs.Str.{bytes_eq}
use Rattle.hz_tree.specs.tokens.Values.{part_meant, meant_from}
use Rattle.hz_scan.specs.Values.{wanted_behind}
use Rattle.hz_scan.proofs.ValueLemmas.{part_low, meant_step, stops, goes}
use Rattle.hz_scan.proofs.values.has_value.Goals as goal

pub returns-in-None : goal.returns-in-None
returns-in-None c =
    let w : List ℕ = c.parts.wanted.now in
    let z : List ℕ = c.parts.z.now in
    let others : List ℕ = meant_from part_meant 0 (drop (part_meant z).len z) in
    let moves : 1 ≤ (part_meant z).len = omega (arith, c.part_of-part.ensures.len, c.part_of-part.ensures.some) in
    let some : 1 ≤ length z = grind (arith, common_steps) in
    stops w (part_meant z).units others c.behind.ensures.byte
    (c.in-None.ensures.value ∙ ap (wanted_behind w) c.part_of-part.ensures.low)
    ∙ ap (bytes_eq w) (sym (meant_step z some moves))
    ∙ c.parts.invariant

pub parts-preserved : goal.parts-preserved
parts-preserved c =
    let w : List ℕ = c.parts.wanted.now in
    let z : List ℕ = c.parts.z.now in
    let more : List ℕ = c.in-Some.more.now in
    let others : List ℕ = meant_from part_meant 0 (drop (part_meant z).len z) in
    let moves : 1 ≤ (part_meant z).len = omega (arith, c.part_of-part.ensures.len, c.part_of-part.ensures.some) in
    let some : 1 ≤ length z = grind (arith, common_steps) in
    let rest : c.rest-z.result.now ≡ drop (part_meant z).len z =
    c.rest-z.ensures
    ∙ ap (λ n. drop n z) c.min.ensures
    ∙ drop_min c.part_of-part.result.len z
    ∙ ap (λ n. drop n z) c.part_of-part.ensures.len in
    ap (λ z. bytes_eq more (meant_from part_meant 0 z)) rest
    ∙ goes w more (part_meant z).units others
    (c.in-Some.ensures.value ∙ ap (wanted_behind w) c.part_of-part.ensures.low) (part_low z)
    ∙ ap (bytes_eq w) (sym (meant_step z some moves))
    ∙ c.parts.invariant
