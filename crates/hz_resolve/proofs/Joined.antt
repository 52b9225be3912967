-- The place of each name, as it is found out, is that of the layout's definition.
use Rattle.std.proofs.Common.{◌≡◌, ◌∙◌, ℕ, zero, suc, ◌+◌, ◌-◌, ◌≤◌, ◌<◌, Bool, true, false, not, ◌&&◌, ◌||◌, cond}
use Rattle.std.proofs.Common.{List, []}
use Rattle.std.proofs.Common.{◌∷◌, ◌++◌, map, take, length, Option, Some, None, refl, ap, sym, arith, nat_eq, subst}
use Rattle.std.proofs.Common.{◌⊎◌, inl, inr, ⊎_elim}
use Rattle.std.proofs.lemmas.Bool.{and_from, and_parts}
use Rattle.std.proofs.lemmas.List.{map-append}
use Rattle.std.proofs.lemmas.Option.{same_Some, slice_get_within, slice_get_past}
use Rattle.std.specs.Cmp.Lexicographic.{bytes_decides}
use Rattle.std.specs.List.{slice_get, list_any, filter, flat_map}
use Rattle.std.specs.Option.{option_map_or, option_map}
use Rattle.std.specs.Str.{bytes_eq}
use Rattle.hz_tree.specs.declared.place.Place.{Place}
use Rattle.hz_tree.specs.declared.place.Place.TheVariants as place
use Rattle.hz_tree.specs.declared.scope.BindingKind.{BindingKind}
use Rattle.hz_tree.specs.errors.Scopes.{occurs}
use Rattle.hz_tree.specs.tokens.Text.{Text}
use Rattle.hz_tree.specs.trees.FunctionScopes.{ScopeName}
use Rattle.hz_tree.specs.trees.Layout.{PlacedScope, is_declaration, found, is_own, is_global, takes, outwards}
use Rattle.hz_tree.specs.trees.Layout.{from_scope}
use Rattle.hz_tree.specs.trees.Layout.{shares_function, searched, has_slot, slot_names, has_slots, place_in, hops_to}
use Rattle.hz_tree.specs.trees.Layout.{binding_in, declared_place, undeclared_place, place_of}
use Rattle.hz_resolve.specs.Numbered.{Numbered, numbered, Use, use_in, uses_in, uses_of, is_within, scope_at}
use Rattle.hz_resolve.specs.Numbered.{declaration_among}
use Rattle.hz_resolve.specs.Passes.{found_of, within_of, has_slot_of, is_global_use, count_true, slots_before}
use Rattle.hz_resolve.specs.Passes.{has_slots_here}
use Rattle.hz_resolve.specs.Passes.{hops_from, hops_of, slot_of, place_found, place_unfound, place_of_use}
use Rattle.hz_resolve.proofs.lemmas.Slots.{any_at}
use Rattle.hz_resolve.proofs.Building.{past_end}
use Rattle.hz_resolve.proofs.Flat.{scope_is, use_at}
use Rattle.hz_resolve.proofs.Holding.{slot_is, slots_at, has_slots_is, map_twice}
use Rattle.hz_resolve.proofs.Outwards.{hops_with}
use Rattle.hz_resolve.proofs.Sites.{Site, Matches, nowhere, somewhere, matches_use, no_scope, filter_all, among_within}
use Rattle.hz_resolve.proofs.Taken.{AreInPlace, Held, held, First, first_at, declared_text, any_map, same_truth}
use Rattle.hz_resolve.proofs.Taken.{site_place}

-- ---- hops

abbrev hops_way : List PlacedScope → Option ℕ → PlacedScope → List PlacedScope → ℕ
hops_way scopes within at way = hops_to scopes at (filter (is_within within) way)

abbrev way_from : ℕ → List PlacedScope → Option PlacedScope → List PlacedScope
way_from n scopes None = []
way_from n scopes (Some s) = s ∷ outwards n scopes s.around

abbrev hops_one : List PlacedScope → Option ℕ → (to n : ℕ) → Option Numbered → ℕ
hops_one scopes within to n None = 0
hops_one scopes within to n (Some s) = hops_with scopes within to s (hops_from scopes within to n s.scope.around)

hops_over : (scopes : List PlacedScope) → AreInPlace scopes → (within : Option ℕ) (at : PlacedScope) (g : ℕ)
    (s : Numbered) (way : List PlacedScope)
    → slice_get (numbered 0 scopes) g ≡ Some s
    → hops_with scopes within at.number s (hops_way scopes within at way) ≡ hops_way scopes within at (s.scope ∷ way)
hops_over scopes in_place within at g s way there =
    let more = hops_way scopes within at way in
    ap (λ b. cond (is_within within s.scope) (cond (nat_eq s.scope.number at.number) 0 (cond b (suc more) more)) more)
    (has_slots_is scopes in_place g s there)
    ∙ pick (is_within within s.scope) (filter (is_within within) way)
  where
    pick : (b : Bool) (way : List PlacedScope)
        → cond b (cond (nat_eq s.scope.number at.number) 0
        (cond (has_slots scopes s.scope) (suc (hops_to scopes at way)) (hops_to scopes at way))) (hops_to scopes at way)
        ≡ hops_to scopes at (cond b (s.scope ∷ way) way)
    pick true way = refl
    pick false way = refl

hops_along : (scopes : List PlacedScope) → AreInPlace scopes → (within : Option ℕ) (at : PlacedScope) (n : ℕ)
    (next : Option ℕ)
    → hops_from scopes within at.number n next ≡ hops_way scopes within at (outwards n scopes next)
hops_along scopes in_place within at zero next = refl
hops_along scopes in_place within at (suc n) None = refl
hops_along scopes in_place within at (suc n) (Some g) =
    here (slice_get (numbered 0 scopes) g) refl (λ next. hops_along scopes in_place within at n next)
  where
    here : (o : Option Numbered) → slice_get (numbered 0 scopes) g ≡ o
        → ((next : Option ℕ) → hops_from scopes within at.number n next
        ≡ hops_way scopes within at (outwards n scopes next))
        → hops_from scopes within at.number (suc n) (Some g)
        ≡ hops_way scopes within at (outwards (suc n) scopes (Some g))
    here None e rest =
        ap (hops_one scopes within at.number n) e
        ∙ sym (ap (λ o. hops_way scopes within at (way_from n scopes o)) (no_scope scopes g e))
    here (Some s) e rest =
        ap (hops_one scopes within at.number n) e
        ∙ ap (hops_with scopes within at.number s) (rest s.scope.around)
        ∙ hops_over scopes in_place within at g s (outwards n scopes s.scope.around) e
        ∙ sym (ap (λ o. hops_way scopes within at (way_from n scopes o)) (scope_is scopes g s e))

hops_is : (scopes : List PlacedScope) → AreInPlace scopes → (s at : PlacedScope) (n x : ScopeName)
    → hops_of scopes (use_in s n) (use_in at x) ≡ hops_to scopes at (searched scopes n.name s)
hops_is scopes in_place s at n x = own (is_own n.name s)
  where
    way : List PlacedScope
    way = from_scope scopes s

    own : (b : Bool) → hops_from scopes (cond b (Some s.function) None) at.number (length scopes) (Some s.number)
        ≡ hops_to scopes at (cond b (filter (shares_function s) way) way)
    own true = hops_along scopes in_place (Some s.function) at (length scopes) (Some s.number)
    own false =
        hops_along scopes in_place None at (length scopes) (Some s.number)
        ∙ ap (hops_to scopes at) (filter_all way)

-- ---- slots

abbrev texts : List ScopeName → List Text
texts ns = map (λ (n : ScopeName). n.name) ns

-- the place of a name among those that pass, where none passes that is not declared
among_passing : (name : Text) (p : ScopeName → Bool) (names : List ScopeName) (i k : ℕ) (x : ScopeName)
    → ((n : ScopeName) → p n ≡ true → is_declaration n.name n ≡ true)
    → declaration_among name names ≡ Some i → slice_get names i ≡ Some x → p x ≡ true
    → place_in name k (texts (filter p names)) ≡ k + count_true (take i (map p names))
among_passing name p [] i k x only e at is = absurd (cc)
among_passing name p (n ∷ more) i k x only e at is =
    pick (is_declaration name n) refl (declaration_among name more) i e at
    (λ j m f there. among_passing name p more j m x only f there is)
  where
    here : (b : Bool) → p n ≡ b → is_declaration name n ≡ true → n ≡ x
        → place_in name k (texts (cond b (n ∷ filter p more) (filter p more))) ≡ k + 0
    here true pass declared same =
        let text : bytes_eq n.name name ≡ true = (and_parts (bytes_eq n.name name) _ declared).0 in
        let zero_more : k ≡ k + 0 = omega arith in
        ap (λ b. cond b k (place_in name (suc k) (texts (filter p more)))) text ∙ zero_more
    here false pass declared same = absurd (cc (ap p same, pass, is))

    another : (t : Bool) → p n ≡ true → is_declaration name n ≡ false → bytes_eq n.name name ≡ t → t ≡ false
    another false pass undeclared text = refl
    another true pass undeclared text =
        let bound = (and_parts (bytes_eq n.name n.name) _ (only n pass)).1 in
        let declared : is_declaration name n ≡ true = and_from (bytes_eq n.name name) _ text bound in
        cc (declared, undeclared)

    skip : (b : Bool) (j : ℕ) → p n ≡ b → is_declaration name n ≡ false
        → ((m : ℕ) → place_in name m (texts (filter p more)) ≡ m + count_true (take j (map p more)))
        → place_in name k (texts (cond b (n ∷ filter p more) (filter p more)))
        ≡ k + count_true (take (suc j) (b ∷ map p more))
    skip false j pass undeclared rest = rest k
    skip true j pass undeclared rest =
        let one_more : suc k + count_true (take j (map p more)) ≡ k + suc (count_true (take j (map p more))) =
        omega arith in
        ap (λ b. cond b k (place_in name (suc k) (texts (filter p more))))
        (another (bytes_eq n.name name) pass undeclared refl)
        ∙ rest (suc k) ∙ one_more

    pick : (d : Bool) → is_declaration name n ≡ d → (o : Option ℕ) (i : ℕ)
        → cond d (Some 0) (option_map (λ (i : ℕ). suc i) o) ≡ Some i → slice_get (n ∷ more) i ≡ Some x
        → ((j m : ℕ) → o ≡ Some j → slice_get more j ≡ Some x
        → place_in name m (texts (filter p more)) ≡ m + count_true (take j (map p more)))
        → place_in name k (texts (cond (p n) (n ∷ filter p more) (filter p more)))
        ≡ k + count_true (take i (p n ∷ map p more))
    pick true declared o zero h there rest = here (p n) refl declared (cc)
    pick true declared o (suc i) h there rest = absurd (cc)
    pick false undeclared None i h there rest = absurd (cc)
    pick false undeclared (Some j) zero h there rest = absurd (cc)
    pick false undeclared (Some j) (suc i) h there rest =
        let same : j ≡ i = cc in
        skip (p n) i refl undeclared (λ m. rest i m (ap Some same) there)

-- a name among those that pass
passes_named : (name : Text) (p : ScopeName → Bool) (ns : List ScopeName) (b : Bool)
    → ((n : ScopeName) → p n ≡ true → n.name ≡ name → b ≡ true)
    → occurs name (texts (filter p ns)) ≡ true → b ≡ true
passes_named name p [] b each h = cc
passes_named name p (n ∷ ns) b each h = here (p n) refl (bytes_eq n.name name) refl
    (λ k. passes_named name p ns b each k) h
  where
    here : (a : Bool) → p n ≡ a → (t : Bool) → bytes_eq n.name name ≡ t
        → (occurs name (texts (filter p ns)) ≡ true → b ≡ true)
        → occurs name (texts (cond a (n ∷ filter p ns) (filter p ns))) ≡ true → b ≡ true
    here false pass t text rest h = rest h
    here true pass true text rest h = each n pass ((bytes_decides n.name name).0 text)
    here true pass false text rest h =
        rest (sym (ap (λ t. t || occurs name (texts (filter p ns))) text) ∙ h)

named_passes : (name : Text) (p : ScopeName → Bool) (ns : List ScopeName) (i : ℕ) (x : ScopeName)
    → slice_get ns i ≡ Some x → x.name ≡ name → p x ≡ true → occurs name (texts (filter p ns)) ≡ true
named_passes name p [] i x at text pass = absurd (cc)
named_passes name p (n ∷ ns) zero x at text pass =
    let same : n ≡ x = cc in
    ap (λ b. occurs name (texts (cond b (n ∷ filter p ns) (filter p ns)))) (ap p same ∙ pass)
    ∙ ap (λ t. t || occurs name (texts (filter p ns)))
    ((bytes_decides n.name name).1 (ap (λ (m : ScopeName). m.name) same ∙ text))
named_passes name p (n ∷ ns) (suc i) x at text pass = here (p n) (named_passes name p ns i x at text pass)
  where
    here : (a : Bool) → occurs name (texts (filter p ns)) ≡ true
        → occurs name (texts (cond a (n ∷ filter p ns) (filter p ns))) ≡ true
    here false h = h
    here true h = ap (λ t. bytes_eq n.name name || t) h ∙ or_true (bytes_eq n.name name)
      where
        or_true : (b : Bool) → (b || true) ≡ true
        or_true true = refl
        or_true false = refl

-- a name that is no global one has a slot where its first declaration has one
occurs_is : (scopes : List PlacedScope) (name : Text) (at : PlacedScope) (i : ℕ) (x : ScopeName)
    → slice_get at.names i ≡ Some x → is_declaration name x ≡ true → is_global at x.binding ≡ false
    → occurs name (slot_names scopes at) ≡ has_slot scopes at x
occurs_is scopes name at i x there declared local =
    let text = declared_text name x declared in
    same_truth (occurs name (slot_names scopes at)) (has_slot scopes at x)
    (passes_named name (has_slot scopes at) at.names (has_slot scopes at x)
    (λ n pass named.
    let parts = and_parts (is_declaration n.name n) _ pass in
    let taken = (and_parts (not (is_global at n.binding)) _ parts.1).1 in
    let own : is_declaration x.name x ≡ true = subst (λ t. is_declaration t x ≡ true) (sym text) declared in
    let same : list_any (takes scopes at x.name) scopes ≡ true =
    ap (λ t. list_any (takes scopes at t) scopes) (text ∙ sym named) ∙ taken in
    and_from (is_declaration x.name x) _ own
    (and_from (not (is_global at x.binding)) _ (ap not local) same)))
    (λ pass. named_passes name (has_slot scopes at) at.names i x there text pass)

-- ---- places

slot_number : (scopes : List PlacedScope) → AreInPlace scopes → (name : Text) (g : ℕ) (t : Numbered) (i : ℕ)
    (x : ScopeName)
    → slice_get (numbered 0 scopes) g ≡ Some t → declaration_among name t.scope.names ≡ Some i
    → slice_get t.scope.names i ≡ Some x → has_slot scopes t.scope x ≡ true
    → slot_of scopes (t.first + i) (use_in t.scope x) ≡ place_in name 0 (slot_names scopes t.scope)
slot_number scopes in_place name g t i x there first at pass =
    let place : t.scope.number ≡ g = in_place.number g t.scope (scope_is scopes g t there) in
    let count = count_true (take i (map (has_slot scopes t.scope) t.scope.names)) in
    let inside = among_within name t.scope.names i first in
    let before = slots_at scopes in_place g i t there (omega (arith, inside)) in
    let among = among_passing name (has_slot scopes t.scope) t.scope.names i 0 x
    (λ n h. (and_parts (is_declaration n.name n) _ h).0) first at pass in
    let less : slots_before scopes (t.first + i) - slots_before scopes t.first
    ≡ place_in name 0 (slot_names scopes t.scope) =
    omega (arith, before, among) in
    ap (λ o. option_map_or (λ (s : Numbered). slots_before scopes (t.first + i) - slots_before scopes s.first) o 0)
    (ap (slice_get (numbered 0 scopes)) place ∙ there)
    ∙ less

same_choice : (g h k : Bool) (first second : Place) → (g ≡ false → h ≡ k) → (g ≡ false → h ≡ true → first ≡ second)
    → cond g place.Global (cond h first place.Register) ≡ cond g place.Global (cond k second place.Register)
same_choice true h k first second same equal = refl
same_choice false true k first second same equal =
    equal refl refl ∙ ap (λ b. cond b second place.Register) (same refl)
same_choice false false k first second same equal = ap (λ b. cond b second place.Register) (same refl)

declared_same : (scopes : List PlacedScope) → AreInPlace scopes → (s : PlacedScope) (n : ScopeName) (g : ℕ)
    (t : Numbered) (i : ℕ)
    → slice_get (numbered 0 scopes) g ≡ Some t → declaration_among n.name t.scope.names ≡ Some i
    → option_map_or (place_found scopes (use_in s n) (t.first + i)) (slice_get (uses_of scopes)
    (t.first + i)) place.Global
    ≡ declared_place scopes n.name t.scope s
declared_same scopes in_place s n g t i there first =
    let f = first_at n.name t.scope.names i first in
    let x = f.entry in
    let at = t.scope in
    let d = use_in at x in
    let u = use_in s n in
    let holds = slot_is scopes in_place g i at x (scope_is scopes g t there) f.at in
    ap (λ o. option_map_or (place_found scopes u (t.first + i)) o place.Global) (use_at scopes g i t x there f.at)
    ∙ same_choice (is_global at x.binding) (has_slot_of scopes d) (occurs n.name (slot_names scopes at))
    (place.Slot (hops_of scopes u d) (slot_of scopes (t.first + i) d))
    (place.Slot (hops_to scopes at (searched scopes n.name s)) (place_in n.name 0 (slot_names scopes at)))
    (λ local. holds ∙ sym (occurs_is scopes n.name at i x f.at f.declared local))
    (λ local pass.
    ap (λ h. place.Slot h (slot_of scopes (t.first + i) d)) (hops_is scopes in_place s at n x)
    ∙ ap (place.Slot (hops_to scopes at (searched scopes n.name s)))
    (slot_number scopes in_place n.name g t i x there first f.at (sym holds ∙ pass)))
    ∙ ap (λ b. cond (is_global at b) place.Global (cond (occurs n.name (slot_names scopes at))
    (place.Slot (hops_to scopes at (searched scopes n.name s)) (place_in n.name 0 (slot_names scopes at)))
    place.Register)) (sym f.binding)

pub place_same : (scopes : List PlacedScope) → AreInPlace scopes → (s : PlacedScope) (n : ScopeName)
    → place_of_use scopes (use_in s n) ≡ place_of scopes n.name s
unfolding place_of place_of_use
place_same scopes in_place s n =
    elim (matches_use scopes s n) [
      | nowhere r f ↦
          ap (λ (o : Option ℕ). elim o [
            | None ↦ place_unfound (use_in s n)
            | Some q ↦ option_map_or (place_found scopes (use_in s n) q) (slice_get (uses_of scopes) q) place.Global
          ]) r
          ∙ sym (ap (λ (o : Option PlacedScope). elim o [
            | None ↦ undeclared_place n.name s
            | Some at ↦ declared_place scopes n.name at s
          ]) f)
      | somewhere q at r f site ↦
          ap (λ (o : Option ℕ). elim o [
            | None ↦ place_unfound (use_in s n)
            | Some q ↦ option_map_or (place_found scopes (use_in s n) q) (slice_get (uses_of scopes) q) place.Global
          ]) r
          ∙ ap (λ q. option_map_or (place_found scopes (use_in s n) q) (slice_get (uses_of scopes) q) place.Global)
          site.number
          ∙ declared_same scopes in_place s n site.place site.scope site.index site.there site.first
          ∙ ap (λ (at : PlacedScope). declared_place scopes n.name at s) site.is
          ∙ sym (ap (λ (o : Option PlacedScope). elim o [
            | None ↦ undeclared_place n.name s
            | Some at ↦ declared_place scopes n.name at s
          ]) f)
    ]

-- ---- all places

abbrev pub places_in : List PlacedScope → PlacedScope → List Place
places_in scopes s = map (λ (n : ScopeName). place_of scopes n.name s) s.names

map_each : {X Y : Type 0} (f g : X → Y) (xs : List X) → ((x : X) → f x ≡ g x) → map f xs ≡ map g xs
map_each f g [] h = refl
map_each f g (x ∷ xs) h = ap (λ y. y ∷ map f xs) (h x) ∙ ap (λ ys. g x ∷ ys) (map_each f g xs h)

pub places_are : (scopes some : List PlacedScope) → AreInPlace scopes
    → map (place_of_use scopes) (uses_of some) ≡ flat_map (places_in scopes) some
places_are scopes [] in_place = refl
places_are scopes (s ∷ some) in_place =
    map-append (place_of_use scopes) (uses_in s) (uses_of some)
    ∙ ap (λ ps. ps ++ map (place_of_use scopes) (uses_of some))
    (map_twice (place_of_use scopes) (use_in s) s.names
    ∙ map_each (λ (n : ScopeName). place_of_use scopes (use_in s n))
    (λ (n : ScopeName). place_of scopes n.name s) s.names
    (place_same scopes in_place s))
    ∙ ap (λ ps. places_in scopes s ++ ps) (places_are scopes some in_place)
