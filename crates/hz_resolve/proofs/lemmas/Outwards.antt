-- The way outwards from a scope goes on with that of the scope round it.
use Rattle.std.proofs.Common.{◌≡◌, ◌<◌, ◌-◌, ℕ, zero, suc, List, [], ◌∷◌, length, Option, Some, None, refl, sym}
use Rattle.std.proofs.Common.{ap, ◌∙◌, arith}
use Rattle.std.specs.List.{slice_get}
use Rattle.std.proofs.lemmas.Option.{slice_get_within}
use Rattle.hz_tree.specs.trees.Layout.{PlacedScope, outwards, from_scope}
use Rattle.hz_resolve.proofs.lemmas.Ways.{AreRegular, way_begins}

outwards_none : (scopes : List PlacedScope) (steps : ℕ) → outwards steps scopes None ≡ []
outwards_none scopes zero = refl
outwards_none scopes (suc n) = refl

-- as many steps as the number of the scope are enough
enough : (scopes : List PlacedScope) (n m g : ℕ) → AreRegular scopes → g < n → g < m
    → outwards n scopes (Some g) ≡ outwards m scopes (Some g)
enough scopes zero m g regular less other = absurd (omega (arith, less))
enough scopes (suc n) zero g regular less other = absurd (omega (arith, other))
enough scopes (suc n) (suc m) g regular less other =
    step (slice_get scopes g) refl (λ r down.
    enough scopes n m r regular (omega (arith, down, less)) (omega (arith, down, other)))
  where
    step : (o : Option PlacedScope) → slice_get scopes g ≡ o
        → ((r : ℕ) → r < g → outwards n scopes (Some r) ≡ outwards m scopes (Some r))
        → elim o as (λ o. List PlacedScope) [ None ↦ [] | Some s ↦ s ∷ outwards n scopes s.around ]
        ≡ elim o as (λ o. List PlacedScope) [ None ↦ [] | Some s ↦ s ∷ outwards m scopes s.around ]
    step None is more = refl
    step (Some s) is more = ap (λ ts. s ∷ ts) (by_around s.around refl)
      where
        by_around : (o : Option ℕ) → s.around ≡ o → outwards n scopes o ≡ outwards m scopes o
        by_around None around = outwards_none scopes n ∙ sym (outwards_none scopes m)
        by_around (Some r) around = more r (regular.descends g r s is around)

pub way_on : (scopes : List PlacedScope) (r : ℕ) (p q : PlacedScope) → AreRegular scopes
    → slice_get scopes p.number ≡ Some p → p.around ≡ Some r → slice_get scopes r ≡ Some q
    → from_scope scopes p ≡ p ∷ from_scope scopes q
way_on scopes r p q regular there around outer =
    let number : q.number ≡ r = regular.numbers r q outer in
    let within : p.number < length scopes = slice_get_within scopes p.number p there in
    let down : r < p.number = regular.descends p.number r p there around in
    way_begins scopes p there
    ∙ ap (λ o. p ∷ outwards (length scopes - 1) scopes o) around
    ∙ ap (λ ts. p ∷ ts)
    (enough scopes (length scopes - 1) (length scopes) r regular (omega (arith, within, down))
    (omega (arith, within, down)))
    ∙ ap (λ g. p ∷ outwards (length scopes) scopes (Some g)) (sym number)

pub way_ends : (scopes : List PlacedScope) (p : PlacedScope) → slice_get scopes p.number ≡ Some p → p.around ≡ None
    → from_scope scopes p ≡ p ∷ []
way_ends scopes p there around =
    way_begins scopes p there
    ∙ ap (λ o. p ∷ outwards (length scopes - 1) scopes o) around
    ∙ ap (λ ts. p ∷ ts) (outwards_none scopes (length scopes - 1))
