use Rattle.std.proofs.Common.{◌≡◌, ◌∙◌, ap, sym, arith, length, map, List, ℕ, ◌≤◌}
use Rattle.hz_tree.specs.declared.place.Place.{Place}
use Rattle.hz_tree.specs.sources.Refusals.{function_scopes}
use Rattle.hz_tree.specs.trees.Layout.{PlacedScope, all_scopes}
use Rattle.hz_resolve.specs.Numbered.{Numbered, numbered, uses_of, scopes_of}
use Rattle.hz_resolve.specs.Passes.{place_of_use}
use Rattle.hz_resolve.specs.Places.{Places, place_at}
use Rattle.hz_resolve.specs.Starts.{parts_of, function_starts, scope_starts}
use Rattle.hz_resolve.proofs.Counted.{numbered_known}
use Rattle.hz_resolve.proofs.Flat.{length-numbered}
use Rattle.hz_resolve.proofs.Joined.{places_are}
use Rattle.hz_resolve.proofs.Nested.{layout_is, in_place, all_places}
use Rattle.hz_resolve.proofs.resolution.resolve.Goals as goal

pub starts_of_names-requires-clause-numbered : goal.starts_of_names-requires-clause-numbered
starts_of_names-requires-clause-numbered c =
    (numbered_known c.deref-2.result.now (all_scopes (function_scopes c.args.index.now.source))
    (c.deref-2.ensures.value ∙ c.in_ok-scopes.ensures.scopes)).0

pub starts_of_names-requires-clause-few : goal.starts_of_names-requires-clause-few
starts_of_names-requires-clause-few c =
    let known = numbered_known c.deref-2.result.now (all_scopes (function_scopes c.args.index.now.source))
    (c.deref-2.ensures.value ∙ c.in_ok-scopes.ensures.scopes) in
    omega (arith, ap (λ (ss : List PlacedScope). length (uses_of ss)) known.1, c.in_ok-scopes.ensures.few)

pub new-table-requires : goal.new-table-requires
new-table-requires c =
    let scopes = c.in_ok-scopes.scopes.items in
    let all = all_scopes (function_scopes c.args.index.now.source) in
    let known = numbered_known scopes all c.in_ok-scopes.ensures.scopes in
    let names = c.in_ok-names.ensures ∙ ap (λ (ss : List Numbered). uses_of (scopes_of ss)) c.deref-3.ensures.value in
    record {
      in_order = known.0;
      all_names = names;
      few_scopes = omega (
        arith,
        ap length c.in_ok-scopes.ensures.scopes,
        length-numbered 0 all,
        c.in_ok-functions.ensures.few,
      );
      few_names = omega (
        arith,
        ap length names,
        ap (λ (ss : List PlacedScope). length (uses_of ss)) known.1,
        c.in_ok-scopes.ensures.few,
      );
    }

pub returns : goal.returns
returns c = λ k i n.
    let fs = function_scopes c.args.index.now.source in
    let all = all_scopes fs in
    let known = numbered_known c.in_ok-scopes.scopes.items all c.in_ok-scopes.ensures.scopes in
    let shown = numbered_known c.deref-2.result.now all (c.deref-2.ensures.value ∙ c.in_ok-scopes.ensures.scopes) in
    let starts : c.in_ok-starts.starts.items ≡ scope_starts all =
    c.in_ok-starts.ensures ∙ ap scope_starts shown.1 in
    let places : c.in_ok-places.places.items ≡ all_places fs =
    c.in_ok-places.ensures
    ∙ ap (λ (ss : List PlacedScope). map (place_of_use ss) (uses_of ss)) (c.new-table.ensures ∙ known.1)
    ∙ places_are all all (in_place fs) in
    ap (λ (ps : Places). place_at ps k i n)
    (c.new.ensures
    ∙ ap (λ (ns : List ℕ). parts_of ns (parts_of c.in_ok-starts.starts.items c.in_ok-places.places.items))
    c.in_ok-functions.ensures.starts
    ∙ ap (λ (ns : List ℕ). parts_of (function_starts fs) (parts_of ns c.in_ok-places.places.items)) starts
    ∙ ap (λ (ps : List Place). parts_of (function_starts fs) (parts_of (scope_starts all) ps)) places)
    ∙ layout_is fs k i n
