-- What a search from a scope outwards finds, by numbers and by scopes.
use Rattle.std.proofs.Common.{◌≡◌, ◌∙◌, ℕ, zero, suc, ◌+◌, ◌≤◌, ◌<◌, Bool, true, false, ◌||◌, ◌&&◌, cond, List, []}
use Rattle.std.proofs.Common.{◌∷◌, length}
use Rattle.std.proofs.Common.{Option, Some, None, refl, ap, sym, arith, nat_eq, subst}
use Rattle.std.proofs.lemmas.Option.{slice_get_past, same_Some}
use Rattle.std.specs.List.{slice_get, list_any, filter}
use Rattle.std.specs.Option.{option_map, option_or, is_some}
use Rattle.hz_tree.specs.tokens.Text.{Text}
use Rattle.hz_tree.specs.trees.FunctionScopes.{ScopeName}
use Rattle.hz_tree.specs.trees.Layout.{PlacedScope, is_declaration, declares, declaring, outwards, found, is_own}
use Rattle.hz_tree.specs.trees.Layout.{shares_function, from_scope}
use Rattle.hz_resolve.specs.Numbered.{Numbered, numbered, Use, use_in, uses_of, declaration_among, declaration}
use Rattle.hz_resolve.specs.Numbered.{is_within}
use Rattle.hz_resolve.specs.Numbered.{declared_within, scope_at, found_from}
use Rattle.hz_resolve.specs.Passes.{found_of, within_of}
use Rattle.hz_resolve.proofs.Building.{past_end}
use Rattle.hz_resolve.proofs.Flat.{scope_is, length-numbered, extent_inside}

-- the name with the number p is the first declaration of this name in the scope
pub record Site (scopes : List PlacedScope) (name : Text) (p : ℕ) (at : PlacedScope) : Type 0 where
  pub place : ℕ
  pub scope : Numbered
  pub there : slice_get (numbered 0 scopes) place ≡ Some scope
  pub is : scope.scope ≡ at
  pub index : ℕ
  pub first : declaration_among name scope.scope.names ≡ Some index
  pub number : p ≡ scope.first + index

-- both searches find nothing, or both this
pub data Matches (scopes : List PlacedScope) (name : Text) (r : Option ℕ) (f : Option PlacedScope) : Type 0 where
  nowhere : r ≡ None → f ≡ None → Matches scopes name r f
  somewhere : (p : ℕ) (s : PlacedScope) → r ≡ Some p → f ≡ Some s → Site scopes name p s → Matches scopes name r f

pub declares_is : (name : Text) (names : List ScopeName)
    → list_any (is_declaration name) names ≡ is_some (declaration_among name names)
declares_is name [] = refl
declares_is name (n ∷ more) = pick (is_declaration name n) (declares_is name more)
  where
    inner : (o : Option ℕ) → is_some o ≡ is_some (option_map (λ (i : ℕ). suc i) o)
    inner None = refl
    inner (Some i) = refl

    pick : (b : Bool) → list_any (is_declaration name) more ≡ is_some (declaration_among name more)
        → (b || list_any (is_declaration name) more)
        ≡ is_some (cond b (Some 0) (option_map (λ (i : ℕ). suc i) (declaration_among name more)))
    pick true h = refl
    pick false h = h ∙ inner (declaration_among name more)

pub no_scope : (scopes : List PlacedScope) (g : ℕ) → slice_get (numbered 0 scopes) g ≡ None → slice_get scopes g ≡ None
no_scope scopes g e =
    slice_get_past scopes g (omega (arith, past_end (numbered 0 scopes) g e, length-numbered 0 scopes))

abbrev looked : Option ℕ → Text → List PlacedScope → Option PlacedScope
looked within name way = declaring name (filter (is_within within) way)

abbrev way_from : ℕ → List PlacedScope → Option PlacedScope → List PlacedScope
way_from n scopes None = []
way_from n scopes (Some s) = s ∷ outwards n scopes s.around

abbrev found_at : Option ℕ → Text → ℕ → List PlacedScope → Option Numbered → Option ℕ
found_at within name n scopes None = None
found_at within name n scopes (Some s) =
    option_or (declared_within within name s) (found_from within name n (numbered 0 scopes) s.scope.around)

-- one scope
matches_one : (scopes : List PlacedScope) (within : Option ℕ) (name : Text) (g : ℕ) (s : Numbered) (r : Option ℕ)
    (way : List PlacedScope)
    → slice_get (numbered 0 scopes) g ≡ Some s
    → Matches scopes name r (looked within name way)
    → Matches scopes name (option_or (declared_within within name s) r) (looked within name (s.scope ∷ way))
matches_one scopes within name g s r way at rest =
    kept (is_within within s.scope) (declaration_among name s.scope.names) refl
    (declares_is name s.scope.names)
  where
    passed : (d : Bool) (o : Option ℕ) → declaration_among name s.scope.names ≡ o → d ≡ is_some o
        → Matches scopes name (option_or (option_map (λ i. s.first + i) o) r)
        (cond d (Some s.scope) (looked within name way))
    passed true None e h = absurd (cc)
    passed false None e h = rest
    passed true (Some i) e h = somewhere (s.first + i) s.scope refl refl (record {
      place = g;
      scope = s;
      there = at;
      is = refl;
      index = i;
      first = e;
      number = refl;
    })
    passed false (Some i) e h = absurd (cc)

    kept : (b : Bool) (o : Option ℕ) → declaration_among name s.scope.names ≡ o
        → declares name s.scope ≡ is_some (declaration_among name s.scope.names)
        → Matches scopes name
        (option_or (cond b (option_map (λ i. s.first + i) (declaration_among name s.scope.names)) None) r)
        (declaring name (cond b (s.scope ∷ filter (is_within within) way) (filter (is_within within) way)))
    kept false o e h = rest
    kept true o e h =
        subst (λ p. Matches scopes name (option_or (option_map (λ i. s.first + i) p) r)
        (cond (declares name s.scope) (Some s.scope) (looked within name way))) (sym e)
        (passed (declares name s.scope) o e (h ∙ ap is_some e))

pub matches : (scopes : List PlacedScope) (within : Option ℕ) (name : Text) (n : ℕ) (next : Option ℕ)
    → Matches scopes name (found_from within name n (numbered 0 scopes) next) (looked within name
    (outwards n scopes next))
matches scopes within name zero next = nowhere refl refl
matches scopes within name (suc n) None = nowhere refl refl
matches scopes within name (suc n) (Some g) =
    here (slice_get (numbered 0 scopes) g) refl (λ next. matches scopes within name n next)
  where
    here : (o : Option Numbered) → slice_get (numbered 0 scopes) g ≡ o
        → ((next : Option ℕ) → Matches scopes name (found_from within name n (numbered 0 scopes) next)
        (looked within name (outwards n scopes next)))
        → Matches scopes name (found_from within name (suc n) (numbered 0 scopes) (Some g))
        (looked within name (outwards (suc n) scopes (Some g)))
    here None e rest =
        nowhere (ap (found_at within name n scopes) e)
        (ap (λ o. looked within name (way_from n scopes o)) (no_scope scopes g e))
    here (Some s) e rest =
        let one = matches_one scopes within name g s (found_from within name n (numbered 0 scopes) s.scope.around)
        (outwards n scopes s.scope.around) e (rest s.scope.around) in
        subst (λ o. Matches scopes name (found_at within name n scopes o)
        (looked within name (outwards (suc n) scopes (Some g)))) (sym e)
        (subst (λ o. Matches scopes name (found_at within name n scopes (Some s))
        (looked within name (way_from n scopes o))) (sym (scope_is scopes g s e)) one)

pub filter_all : (way : List PlacedScope) → filter (is_within None) way ≡ way
filter_all [] = refl
filter_all (s ∷ way) = ap (λ ss. s ∷ ss) (filter_all way)

-- what a name finds
pub matches_use : (scopes : List PlacedScope) (s : PlacedScope) (n : ScopeName)
    → Matches scopes n.name (found_of scopes (use_in s n)) (found scopes n.name s)
unfolding found_of
matches_use scopes s n = own (is_own n.name s)
  where
    way : List PlacedScope
    way = from_scope scopes s

    own : (b : Bool) → Matches scopes n.name
        (found_from (cond b (Some s.function) None) n.name (length scopes) (numbered 0 scopes) (Some s.number))
        (declaring n.name (cond b (filter (shares_function s) way) way))
    own true = matches scopes (Some s.function) n.name (length scopes) (Some s.number)
    own false =
        subst (λ ss. Matches scopes n.name (found_from None n.name (length scopes) (numbered 0 scopes) (Some s.number))
        (declaring n.name ss)) (filter_all way) (matches scopes None n.name (length scopes) (Some s.number))

pub among_within : (name : Text) (names : List ScopeName) (i : ℕ) → declaration_among name names ≡ Some i
    → i < length names
among_within name [] i e = absurd (cc)
among_within name (n ∷ more) i e =
    pick (is_declaration name n) (declaration_among name more) (λ j. among_within name more j) e
  where
    pick : (b : Bool) (o : Option ℕ) → ((j : ℕ) → o ≡ Some j → j < length more)
        → cond b (Some 0) (option_map (λ (i : ℕ). suc i) o) ≡ Some i → i < suc (length more)
    pick true o h e = let is : 0 ≡ i = cc in omega (arith, is)
    pick false None h e = absurd (cc)
    pick false (Some j) h e = let is : suc j ≡ i = cc in omega (arith, is, h j refl)

pub site_within : (scopes : List PlacedScope) (name : Text) (p : ℕ) (at : PlacedScope) → Site scopes name p at
    → p < length (uses_of scopes)
site_within scopes name p at site =
    omega (
      arith,
      site.number,
      among_within name site.scope.scope.names site.index site.first,
      extent_inside scopes site.place site.scope site.there,
    )

-- what is found is there
pub found_inside : (scopes : List PlacedScope) (u : Use) (q : ℕ) → found_of scopes u ≡ Some q
    → q < length (uses_of scopes)
unfolding found_of
found_inside scopes u q e =
    elim (matches scopes (within_of u) u.name (length scopes) (Some u.scope)) [
      | nowhere none f ↦ absurd (cc (e, none))
      | somewhere p s some f site ↦
          let same : p ≡ q = same_Some p q (sym some ∙ e) in
          omega (arith, same, site_within scopes u.name p s site)
    ]
