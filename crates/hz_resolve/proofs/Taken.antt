-- A name is taken by number exactly where the layout's definition says so.
use Rattle.std.proofs.Common.{◌≡◌, ◌∙◌, ℕ, zero, suc, ◌+◌, ◌<◌, Bool, true, false, not, ◌&&◌, ◌||◌, cond, List, []}
use Rattle.std.proofs.Common.{◌∷◌, ◌++◌}
use Rattle.std.proofs.Common.{map, length, Option, Some, None, refl, ap, sym, arith, nat_eq, subst}
use Rattle.std.proofs.lemmas.Bool.{eqb-true, eq-eqb, and_from, and_parts, cases_Bool}
use Rattle.std.proofs.lemmas.List.{map-append}
use Rattle.std.proofs.lemmas.List.Folds.{list_any-append}
use Rattle.std.proofs.lemmas.Option.{same_Some}
use Rattle.std.specs.Cmp.Lexicographic.{bytes_decides}
use Rattle.std.specs.List.{slice_get, list_any, filter}
use Rattle.std.specs.Option.{option_map, option_map_or, option_and_then}
use Rattle.std.specs.Str.{bytes_eq}
use Rattle.hz_tree.specs.declared.scope.BindingKind.{BindingKind}
use Rattle.hz_tree.specs.tokens.Text.{Text}
use Rattle.hz_tree.specs.trees.FunctionScopes.{ScopeName}
use Rattle.hz_tree.specs.trees.Layout.{PlacedScope, is_declaration, binding_in, found, shares_function, lists, takes}
use Rattle.hz_resolve.specs.Numbered.{Numbered, numbered, Use, use_in, uses_in, uses_of, declaration_among}
use Rattle.hz_resolve.specs.Passes.{found_of, outer_of, outer_of_found, other_function, is_number, is_taken}
use Rattle.hz_resolve.proofs.Flat.{scope_is, use_at}
use Rattle.hz_resolve.proofs.Sites.{Site, Matches, nowhere, somewhere, matches_use}

-- each scope stands at the place of its number
pub record AreInPlace (scopes : List PlacedScope) : Type 0 where
  pub number : (g : ℕ) (s : PlacedScope) → slice_get scopes g ≡ Some s → s.number ≡ g

abbrev binding_first : List ScopeName → Option BindingKind
binding_first [] = None
binding_first (n ∷ more) = n.binding

-- the first declaration of a name
pub record First (name : Text) (names : List ScopeName) (i : ℕ) : Type 0 where
  pub entry : ScopeName
  pub at : slice_get names i ≡ Some entry
  pub declared : is_declaration name entry ≡ true
  pub binding : binding_first (filter (is_declaration name) names) ≡ entry.binding

pub first_at : (name : Text) (names : List ScopeName) (i : ℕ) → declaration_among name names ≡ Some i
    → First name names i
first_at name [] i e = absurd (cc)
first_at name (n ∷ more) i e =
    pick (is_declaration name n) refl (declaration_among name more) (λ j. first_at name more j) e
  where
    later : (j : ℕ) → is_declaration name n ≡ false → First name more j → First name (n ∷ more) (suc j)
    later j other f = record {
      entry = f.entry;
      at = f.at;
      declared = f.declared;
      binding = ap (λ b. binding_first (cond b (n ∷ filter (is_declaration name) more) (filter
          (is_declaration name) more))) other
          ∙ f.binding;
    }

    here : is_declaration name n ≡ true → First name (n ∷ more) 0
    here own = record {
      entry = n;
      at = refl;
      declared = own;
      binding = ap (λ b. binding_first (cond b (n ∷ filter (is_declaration name) more) (filter
          (is_declaration name) more))) own;
    }

    pick : (b : Bool) → is_declaration name n ≡ b → (o : Option ℕ) → ((j : ℕ) → o ≡ Some j → First name more j)
        → cond b (Some 0) (option_map (λ (i : ℕ). suc i) o) ≡ Some i → First name (n ∷ more) i
    pick true is o h e = let z : 0 ≡ i = cc in subst (First name (n ∷ more)) z (here is)
    pick false is None h e = absurd (cc)
    pick false is (Some j) h e =
        let z : suc j ≡ i = cc in subst (First name (n ∷ more)) z (later j is (h j refl))

pub declared_text : (name : Text) (n : ScopeName) → is_declaration name n ≡ true → n.name ≡ name
declared_text name n is = (bytes_decides n.name name).0 (and_parts (bytes_eq n.name name) _ is).0

-- what stands at a site
pub record Held (scopes : List PlacedScope) (name : Text) (p : ℕ) (at : PlacedScope) : Type 0 where
  pub entry : ScopeName
  pub found : slice_get (uses_of scopes) p ≡ Some (use_in at entry)
  pub text : entry.name ≡ name
  pub place : ℕ
  pub there : slice_get at.names place ≡ Some entry
  pub binding : binding_in name at ≡ entry.binding

pub held : (scopes : List PlacedScope) (name : Text) (p : ℕ) (at : PlacedScope) → Site scopes name p at
    → Held scopes name p at
held scopes name p at site =
    subst (Held scopes name p) site.is
    (let first = first_at name site.scope.scope.names site.index site.first in
    record {
      entry = first.entry;
      found = ap (slice_get (uses_of scopes)) site.number
          ∙ use_at scopes site.place site.index site.scope first.entry site.there first.at;
      text = declared_text name first.entry first.declared;
      place = site.index;
      there = first.at;
      binding = first.binding;
    })

-- ---- sites of one number

pub site_place : (scopes : List PlacedScope) → AreInPlace scopes → (name : Text) (p : ℕ) (at : PlacedScope)
    → (site : Site scopes name p at) → site.place ≡ at.number
site_place scopes in_place name p at site =
    sym (in_place.number site.place site.scope.scope (scope_is scopes site.place site.scope site.there))
    ∙ ap (λ (s : PlacedScope). s.number) site.is

same_number : (scopes : List PlacedScope) → AreInPlace scopes → (name : Text) (p q : ℕ) (s t : PlacedScope)
    → Site scopes name p s → Site scopes name q t → s.number ≡ t.number → p ≡ q
same_number scopes in_place name p q s t first second same =
    let place : first.place ≡ second.place =
    site_place scopes in_place name p s first ∙ same ∙ sym (site_place scopes in_place name q t second) in
    let scope : first.scope ≡ second.scope =
    same_Some first.scope second.scope
    (sym first.there ∙ ap (slice_get (numbered 0 scopes)) place ∙ second.there) in
    let index : first.index ≡ second.index =
    same_Some first.index second.index
    (sym first.first ∙ ap (λ (n : Numbered). declaration_among name n.scope.names) scope ∙ second.first) in
    first.number ∙ ap (λ n. n + first.index) (ap (λ (n : Numbered). n.first) scope)
    ∙ ap (λ i. second.scope.first + i) index ∙ sym second.number

pub same_truth : (b c : Bool) → (b ≡ true → c ≡ true) → (c ≡ true → b ≡ true) → b ≡ c
same_truth true c h k = sym (h refl)
same_truth false true h k = k refl
same_truth false false h k = refl

-- ---- one name

both_others : (e f x y : Bool) → x ≡ y → (x ≡ true → e ≡ f) → (not e && x) ≡ (not f && y)
both_others e f true true h k = ap (λ b. not b && true) (k refl)
both_others e f true false h k = cc
both_others e f false true h k = cc
both_others true true false false h k = refl
both_others true false false false h k = refl
both_others false true false false h k = refl
both_others false false false false h k = refl

never : (a b : Bool) → (a && (b && false)) ≡ false
never true true = refl
never true false = refl
never false b = refl

kept : (q p : ℕ) (b : Bool) → is_number q (cond b None (Some p)) ≡ (not b && nat_eq p q)
kept q p true = refl
kept q p false = refl

abbrev finds : List PlacedScope → PlacedScope → PlacedScope → Text → Bool
finds scopes at s name = option_map_or (λ (a : PlacedScope). nat_eq a.number at.number) (found scopes name s) false

outer_is : (scopes : List PlacedScope) → AreInPlace scopes → (name : Text) (q : ℕ) (at : PlacedScope)
    → Site scopes name q at → (s : PlacedScope) (n : ScopeName)
    → is_number q (outer_of scopes (use_in s n))
    ≡ (not (shares_function at s) && (bytes_eq n.name name && finds scopes at s n.name))
outer_is scopes in_place name q at site s n = by_match (matches_use scopes s n)
  where
    u : Use
    u = use_in s n

    by_match : Matches scopes n.name (found_of scopes u) (found scopes n.name s)
        → is_number q (outer_of scopes u)
        ≡ (not (shares_function at s) && (bytes_eq n.name name && finds scopes at s n.name))
    by_match (nowhere r f) =
        ap (λ o. is_number q (option_and_then (outer_of_found (uses_of scopes) u) o)) r
        ∙ sym (never (not (shares_function at s)) (bytes_eq n.name name))
        ∙ ap (λ o. not (shares_function at s) && (bytes_eq n.name name
        && option_map_or (λ (a : PlacedScope). nat_eq a.number at.number) o false)) (sym f)
    by_match (somewhere p t r f other) =
        let mine = held scopes name q at site in
        let theirs = held scopes n.name p t other in
        let one : nat_eq p q ≡ (bytes_eq n.name name && nat_eq t.number at.number) =
        same_truth (nat_eq p q) (bytes_eq n.name name && nat_eq t.number at.number)
        (λ is.
        let same : p ≡ q = eqb-true p q is in
        let uses : use_in t theirs.entry ≡ use_in at mine.entry =
        same_Some (use_in t theirs.entry) (use_in at mine.entry)
        (sym theirs.found ∙ ap (slice_get (uses_of scopes)) same ∙ mine.found) in
        and_from (bytes_eq n.name name) (nat_eq t.number at.number)
        ((bytes_decides n.name name).1 (sym theirs.text ∙ ap (λ (u : Use). u.name) uses ∙ mine.text))
        (eq-eqb t.number at.number (ap (λ (u : Use). u.scope) uses)))
        (λ is.
        let parts = and_parts (bytes_eq n.name name) (nat_eq t.number at.number) is in
        let text : n.name ≡ name = (bytes_decides n.name name).0 parts.0 in
        eq-eqb p q (same_number scopes in_place name p q t at (subst (λ m. Site scopes m p t) text other) site
        (eqb-true t.number at.number parts.1))) in
        ap (λ o. is_number q (option_and_then (outer_of_found (uses_of scopes) u) o)) r
        ∙ ap (λ o. is_number q (option_and_then (other_function u p) o)) theirs.found
        ∙ kept q p (nat_eq t.function s.function)
        ∙ both_others (nat_eq t.function s.function) (nat_eq at.function s.function) (nat_eq p q)
        (bytes_eq n.name name && nat_eq t.number at.number) one
        (λ is.
        let same : p ≡ q = eqb-true p q is in
        let uses : use_in t theirs.entry ≡ use_in at mine.entry =
        same_Some (use_in t theirs.entry) (use_in at mine.entry)
        (sym theirs.found ∙ ap (slice_get (uses_of scopes)) same ∙ mine.found) in
        ap (λ k. nat_eq k s.function) (ap (λ (u : Use). u.function) uses))
        ∙ ap (λ o. not (shares_function at s) && (bytes_eq n.name name
        && option_map_or (λ (a : PlacedScope). nat_eq a.number at.number) o false)) (sym f)

-- ---- all names

any_same : (a : Bool) (name : Text) (test : Text → Bool) (ns : List ScopeName)
    → list_any (λ (n : ScopeName). a && (bytes_eq n.name name && test n.name)) ns
    ≡ (a && (list_any (λ (n : ScopeName). bytes_eq n.name name) ns && test name))
any_same a name test [] = nothing a
  where
    nothing : (a : Bool) → false ≡ (a && false)
    nothing true = refl
    nothing false = refl
any_same a name test (n ∷ ns) = here (bytes_eq n.name name) refl (any_same a name test ns)
  where
    joined : (a r b : Bool) → ((a && b) || (a && (r && b))) ≡ (a && b)
    joined true true true = refl
    joined true true false = refl
    joined true false true = refl
    joined true false false = refl
    joined false r b = refl

    skipped : (a r : Bool) → ((a && false) || r) ≡ r
    skipped true r = refl
    skipped false r = refl

    here : (t : Bool) → bytes_eq n.name name ≡ t
        → list_any (λ (n : ScopeName). a && (bytes_eq n.name name && test n.name)) ns
        ≡ (a && (list_any (λ (n : ScopeName). bytes_eq n.name name) ns && test name))
        → ((a && (t && test n.name)) || list_any (λ (n : ScopeName). a && (bytes_eq n.name name && test n.name)) ns)
        ≡ (a && ((t || list_any (λ (n : ScopeName). bytes_eq n.name name) ns) && test name))
    here true is rest =
        ap (λ m. (a && test m) || list_any (λ (n : ScopeName). a && (bytes_eq n.name name && test n.name)) ns)
        ((bytes_decides n.name name).0 is)
        ∙ ap (λ b. (a && test name) || b) rest
        ∙ joined a (list_any (λ (n : ScopeName). bytes_eq n.name name) ns) (test name)
    here false is rest = skipped a _ ∙ rest

pub any_map : {X Y : Type 0} (p : Y → Bool) (h : X → Y) (xs : List X)
    → list_any p (map h xs) ≡ list_any (λ x. p (h x)) xs
any_map p h [] = refl
any_map p h (x ∷ xs) = ap (λ b. p (h x) || b) (any_map p h xs)

any_each : {X : Type 0} (p r : X → Bool) (xs : List X) → ((x : X) → p x ≡ r x) → list_any p xs ≡ list_any r xs
any_each p r [] h = refl
any_each p r (x ∷ xs) h = ap (λ b. b || list_any p xs) (h x) ∙ ap (λ b. r x || b) (any_each p r xs h)

any_flat : {Y : Type 0} (p : Y → Bool) (h : Use → Y) (g : PlacedScope → Bool) (ss : List PlacedScope)
    → ((s : PlacedScope) → list_any (λ (n : ScopeName). p (h (use_in s n))) s.names ≡ g s)
    → list_any p (map h (uses_of ss)) ≡ list_any g ss
any_flat p h g [] each = refl
any_flat p h g (s ∷ ss) each =
    ap (list_any p) (map-append h (uses_in s) (uses_of ss))
    ∙ list_any-append p (map h (uses_in s)) (map h (uses_of ss))
    ∙ ap (λ b. b || list_any p (map h (uses_of ss)))
    (any_map p h (uses_in s) ∙ any_map (λ u. p (h u)) (use_in s) s.names ∙ each s)
    ∙ ap (λ b. g s || b) (any_flat p h g ss each)

pub taken_is : (scopes : List PlacedScope) → AreInPlace scopes → (name : Text) (q : ℕ) (at : PlacedScope)
    → Site scopes name q at → is_taken scopes q ≡ list_any (takes scopes at name) scopes
unfolding is_taken
taken_is scopes in_place name q at site =
    any_flat (is_number q) (outer_of scopes) (takes scopes at name) scopes
    (λ s. any_each (λ (n : ScopeName). is_number q (outer_of scopes (use_in s n)))
    (λ (n : ScopeName). not (shares_function at s) && (bytes_eq n.name name && finds scopes at s n.name)) s.names
    (outer_is scopes in_place name q at site s)
    ∙ any_same (not (shares_function at s)) name (finds scopes at s) s.names)
