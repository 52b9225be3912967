use Rattle.std.proofs.Common.{◌≡◌, ◌∙◌, map, ap, sym, arith, length, ℕ, Option, None, Some, List, ◌≤◌, slice_index}
use Rattle.std.proofs.Common.{◌-◌, rules, ◌<◌, ◌+◌}
use Rattle.std.proofs.lemmas.List.{length-map}
use Rattle.std.specs.List.{slice_get}
use Rattle.std.specs.Option.{option_copied}
use Rattle.hz_resolve.specs.Numbered.{Numbered, numbered, uses_of, scopes_of}
use Rattle.hz_resolve.specs.Passes.{has_slot_of}
use Rattle.hz_resolve.specs.Views.{known_use}
use Rattle.hz_resolve.proofs.Counted.{slot_read, table_scope, no_slot}
use Rattle.hz_resolve.proofs.Flat.{extent_inside}
use Rattle.hz_resolve.proofs.table.Table.slot.Goals as goal

pub bounds-before-extent : goal.bounds-before-extent
bounds-before-extent c =
    let all = c.args.self.now in
    let s = c.in-Some.scope.now in
    let g = c.args.declared.now.scope in
    let at : slice_get (numbered 0 all) g ≡ Some s =
    table_scope c.self.inside.scopes.items c.deref.result.now all g (Some s) c.self.invariant.in_order c.self.view_is
    c.deref.ensures.value (sym (ap option_copied c.in-Some.is) ∙ c.scope_at.ensures) in
    omega (
      arith,
      extent_inside all g s at,
      c.extent.ensures.first,
      c.requires.before.long,
      length-map (uses_of all) (has_slot_of all),
    )

pub offset_bounds-before-extent : goal.offset_bounds-before-extent
offset_bounds-before-extent c =
    let all = c.args.self.now in
    let s = c.in-Some.scope.now in
    let g = c.args.declared.now.scope in
    let at : slice_get (numbered 0 all) g ≡ Some s =
    table_scope c.self.inside.scopes.items c.deref.result.now all g (Some s) c.self.invariant.in_order c.self.view_is
    c.deref.ensures.value (sym (ap option_copied c.in-Some.is) ∙ c.scope_at.ensures) in
    let names : map known_use c.self.inside.names.items ≡ uses_of all =
    c.self.invariant.all_names ∙ ap uses_of c.self.view_is in
    omega (
      arith,
      extent_inside all g s at,
      c.extent.ensures.first,
      ap length names,
      c.self.invariant.few_names,
    )

pub returns-in-Some : goal.returns-in-Some
returns-in-Some c =
    let all = c.args.self.now in
    let s = c.in-Some.scope.now in
    let d = known_use c.args.declared.now in
    let at : slice_get (numbered 0 all) d.scope ≡ Some s =
    table_scope c.self.inside.scopes.items c.deref.result.now all d.scope (Some s) c.self.invariant.in_order
    c.self.view_is c.deref.ensures.value (sym (ap option_copied c.in-Some.is) ∙ c.scope_at.ensures) in
    c.saturating_sub.ensures
    ∙ ap (λ k. slice_index c.args.before.now c.args.number - slice_index c.args.before.now k) c.extent.ensures.first
    ∙ slot_read all c.args.before.now c.args.number d s c.requires.before c.requires.inside at

pub returns-in-None : goal.returns-in-None
returns-in-None c =
    let d = known_use c.args.declared.now in
    no_slot c.args.self.now c.args.number d
    (table_scope c.self.inside.scopes.items c.deref.result.now c.args.self.now d.scope None c.self.invariant.in_order
    c.self.view_is c.deref.ensures.value (sym (ap option_copied c.in-None.is) ∙ c.scope_at.ensures))
