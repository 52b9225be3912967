use Rattle.std.proofs.Common.{◌≡◌, ◌∙◌, Some, sym, ap, rules, ℕ, Option, arith, ◌+◌, ◌-◌, ◌≤◌, length, List, ◌&&◌}
use Rattle.std.proofs.lemmas.List.{length-map}
use Rattle.std.specs.Option.{option_copied}
use Rattle.hz_resolve.specs.Numbered.{Numbered, numbered, scope_at, scopes_of, is_within, uses_of}
use Rattle.hz_resolve.specs.Passes.{hops_from, has_slot_of}
use Rattle.hz_resolve.proofs.Counted.{inside_at, slots_here}
use Rattle.hz_resolve.proofs.Outwards.{hops_step, hops_past, hops_on, hops_end, bool_small}
use Rattle.hz_resolve.proofs.search.hops.Goals as goal

pub is_counted-requires : goal.is_counted-requires
is_counted-requires c =
    let all = scopes_of c.args.scopes.now in
    let s = c.in-Some.scope.now in
    let at : scope_at c.args.scopes.now c.loop-left.next ≡ Some s =
    sym c.scope_at.ensures ∙ ap option_copied c.in-Some.is in
    let there : scope_at (numbered 0 all) c.loop-left.next ≡ Some s =
    ap (λ (ss : List Numbered). scope_at ss c.loop-left.next) (sym c.requires.numbered) ∙ at in
    omega (
      arith,
      inside_at all c.loop-left.next s there,
      c.requires.before.long,
      length-map (uses_of all)
          (has_slot_of all),
    )

pub loop-left-preserved : goal.loop-left-preserved
loop-left-preserved c =
    let all = scopes_of c.args.scopes.now in
    let s = c.in-Some.scope.now in
    let at : scope_at c.args.scopes.now c.loop-left.next ≡ Some s =
    sym c.scope_at.ensures ∙ ap option_copied c.in-Some.is in
    let there : scope_at (numbered 0 all) c.loop-left.next ≡ Some s =
    ap (λ (ss : List Numbered). scope_at ss c.loop-left.next) (sym c.requires.numbered) ∙ at in
    let rest = hops_from all c.args.within c.args.to (c.loop-left.left - 1) s.scope.around in
    let on = hops_on all c.args.within c.args.to s rest c.is_counted.result
    (sym c.is_reached.ensures ∙ c.if-is_reached.false)
    (c.is_counted.ensures
    ∙ ap (λ b. is_within c.args.within s.scope && b)
    (slots_here all c.args.before.now c.loop-left.next s c.requires.before there)) in
    let step = hops_step all c.args.within c.args.to c.loop-left.left c.loop-left.next s c.loop-left-test.true there in
    let next : hops_from all c.args.within c.args.to (c.loop-left.left - 1) c.around-next.result ≡ rest =
    ap (hops_from all c.args.within c.args.to (c.loop-left.left - 1)) c.around-next.ensures in
    record {
      total = omega (arith, on, step, next, c.loop-left.invariant.total);
      few = omega (arith, c.loop-left.invariant.few, c.loop-left-test.true, bool_small c.is_counted.result);
    }
