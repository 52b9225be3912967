use Rattle.std.proofs.Common.{◌≡◌, ◌∙◌, Some, sym, ap, rules, ℕ, Option, None, ◌-◌}
use Rattle.std.specs.Option.{option_or, option_copied}
use Rattle.hz_resolve.specs.Numbered.{scope_at, found_from}
use Rattle.hz_resolve.proofs.Outwards.{found_step, found_past}
use Rattle.hz_resolve.proofs.search.find.Goals as goal

pub loop-left-preserved : goal.loop-left-preserved
loop-left-preserved c =
    let s = c.in-Some.scope.now in
    let at : scope_at c.args.scopes.now c.loop-left.next ≡ Some s = sym c.scope_at.ensures
    ∙ ap option_copied c.in-Some.is in
    let more = found_from c.args.within c.args.name.now (c.loop-left.left - 1) c.args.scopes.now s.scope.around in
    let step = found_step c.args.within c.args.name.now c.loop-left.left c.args.scopes.now c.loop-left.next s
    c.loop-left-test.true at in
    ap (found_from c.args.within c.args.name.now (c.loop-left.left - 1) c.args.scopes.now) c.around-next.ensures
    ∙ ap (λ (o : Option ℕ). option_or o more) (sym c.in_default.is ∙ c.declaration.ensures)
    ∙ sym step ∙ c.loop-left.invariant
