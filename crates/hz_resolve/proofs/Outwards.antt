-- One step of a search from a scope outwards.
use Rattle.std.proofs.Common.{◌≡◌, ◌∙◌, ℕ, zero, suc, ◌-◌, ◌<◌, Bool, true, false, cond, List, Option, Some, None}
use Rattle.std.proofs.Common.{refl, ap, sym, arith, nat_eq, ◌≤◌, ◌+◌, ◌&&◌}
use mir.Val.{bool_byte}
use Rattle.std.specs.Option.{option_or}
use Rattle.hz_tree.specs.tokens.Text.{Text}
use Rattle.hz_tree.specs.trees.Layout.{PlacedScope}
use Rattle.hz_resolve.specs.Numbered.{Numbered, numbered, is_within, declared_within, scope_at, found_from}
use Rattle.hz_resolve.specs.Passes.{hops_from, has_slots_here}

pub found_step : (within : Option ℕ) (name : Text) (left : ℕ) (scopes : List Numbered) (next : Option ℕ) (s : Numbered)
    → 0 < left → scope_at scopes next ≡ Some s
    → found_from within name left scopes next
    ≡ option_or (declared_within within name s) (found_from within name (left - 1) scopes s.scope.around)
found_step within name zero scopes next s h at = absurd (omega (arith, h))
found_step within name (suc n) scopes next s h at =
    let one_less : n ≡ suc n - 1 = omega arith in
    ap (λ (o : Option Numbered). elim o [
      | None ↦ None
      | Some s ↦ option_or (declared_within within name s) (found_from within name n scopes s.scope.around)
    ]) at
    ∙ ap (λ k. option_or (declared_within within name s) (found_from within name k scopes s.scope.around)) one_less

pub found_past : (within : Option ℕ) (name : Text) (left : ℕ) (scopes : List Numbered) (next : Option ℕ)
    → scope_at scopes next ≡ None → found_from within name left scopes next ≡ None
found_past within name zero scopes next at = refl
found_past within name (suc n) scopes next at =
    ap (λ (o : Option Numbered). elim o [
      | None ↦ None
      | Some s ↦ option_or (declared_within within name s) (found_from within name n scopes s.scope.around)
    ]) at

-- what one scope adds to the hops of those round it
abbrev pub hops_with : List PlacedScope → (within : Option ℕ) → (to : ℕ) → Numbered → ℕ → ℕ
hops_with scopes within to s more =
    cond (is_within within s.scope)
    (cond (nat_eq s.scope.number to) 0 (cond (has_slots_here scopes s) (suc more) more)) more

abbrev hops_at : List PlacedScope → (within : Option ℕ) → (to n : ℕ) → Option Numbered → ℕ
hops_at scopes within to n None = 0
hops_at scopes within to n (Some s) = hops_with scopes within to s (hops_from scopes within to n s.scope.around)

pub hops_step : (scopes : List PlacedScope) (within : Option ℕ) (to left : ℕ) (next : Option ℕ) (s : Numbered)
    → 0 < left → scope_at (numbered 0 scopes) next ≡ Some s
    → hops_from scopes within to left next
    ≡ hops_with scopes within to s (hops_from scopes within to (left - 1) s.scope.around)
hops_step scopes within to zero next s h at = absurd (omega (arith, h))
hops_step scopes within to (suc n) next s h at =
    let one_less : n ≡ suc n - 1 = omega arith in
    ap (hops_at scopes within to n) at
    ∙ ap (λ k. hops_with scopes within to s (hops_from scopes within to k s.scope.around)) one_less

pub hops_past : (scopes : List PlacedScope) (within : Option ℕ) (to left : ℕ) (next : Option ℕ)
    → scope_at (numbered 0 scopes) next ≡ None → hops_from scopes within to left next ≡ 0
hops_past scopes within to zero next at = refl
hops_past scopes within to (suc n) next at = ap (hops_at scopes within to n) at

-- one scope more is passed
pub hops_on : (scopes : List PlacedScope) (within : Option ℕ) (to : ℕ) (s : Numbered) (more : ℕ) (counted : Bool)
    → (is_within within s.scope && nat_eq s.scope.number to) ≡ false
    → counted ≡ (is_within within s.scope && has_slots_here scopes s)
    → bool_byte counted + more ≡ hops_with scopes within to s more
hops_on scopes within to s more counted r c =
    rw c (pick (is_within within s.scope) (nat_eq s.scope.number to) (has_slots_here scopes s) r)
  where
    pick : (a b d : Bool) → (a && b) ≡ false
        → bool_byte (a && d) + more ≡ cond a (cond b 0 (cond d (suc more) more)) more
    pick true true d h = cc
    pick true false true h = omega arith
    pick true false false h = omega arith
    pick false b d h = omega arith

-- the scope is found
pub hops_end : (scopes : List PlacedScope) (within : Option ℕ) (to : ℕ) (s : Numbered) (more : ℕ)
    → (is_within within s.scope && nat_eq s.scope.number to) ≡ true
    → hops_with scopes within to s more ≡ 0
hops_end scopes within to s more r =
    pick (is_within within s.scope) (nat_eq s.scope.number to) (has_slots_here scopes s) r
  where
    pick : (a b d : Bool) → (a && b) ≡ true → cond a (cond b 0 (cond d (suc more) more)) more ≡ 0
    pick true true d h = refl
    pick true false d h = cc
    pick false b d h = cc

pub bool_small : (b : Bool) → bool_byte b ≤ 1
bool_small true = omega arith
bool_small false = omega arith
